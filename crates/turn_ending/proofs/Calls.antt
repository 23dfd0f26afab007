-- Calls in a row, each of which submits a Refresh of 0 or commits.
use Rattle.std.proofs.Common.{arith, ◌≡◌, ℕ, zero, suc, ◌<◌, List, [], ◌∷◌, ◌++◌, length, map, get_or, Contains, Result, Ok, Err, refl, ap, ◌∙◌, sym, subst}
use Rattle.std.specs.List.{AllByRecursion}
use Rattle.turn_cred.specs.declared.handler.AuthHandler as handlers
use Rattle.turn_disk.specs.declared.disk.Disk as disks
use Rattle.turn_engine.proofs.Lists.{all-append}
use Rattle.turn_engine.specs.Prelude.{Advance, Commits, Submits, Commit, Relay, Serves, ServerCall, Submit, after_of, last_of, ServerState}
use Rattle.turn_engine.specs.declared.error.SubmitError.{SubmitError}
use Rattle.turn_ports.specs.declared.generator.RelayAddressGenerator as generators
use Rattle.turn_step.specs.Prelude.{Arrives, Sent}
use Rattle.turn_store.specs.declared.error.StoreError.{StoreError}
use Rattle.turn_types.specs.declared.address.FiveTuple.{FiveTuple}
use Rattle.turn_ending.specs.Ends.{Ends, IsEndCall, IsEndOf}

-- the one five-tuple
pub only : (f : FiveTuple) → Contains (f ∷ []) f
only f = (0, omega arith, refl)

only_is : (f g : FiveTuple) → Contains (f ∷ []) g → f ≡ g
only_is f g (zero, lt, is) = is
only_is f g (suc i, lt, is) = absurd (omega arith)

-- what is one five-tuple is among those that have it
pub among : (tuples : List FiveTuple) (f : FiveTuple) → Contains tuples f → (g : FiveTuple) → Contains (f ∷ []) g → Contains tuples g
among tuples f has g is = subst (Contains tuples) (only_is f g is) has

-- an element's image is among the images
pub mapped : {X Y : Type 0} (g : X → Y) (xs : List X) (i : ℕ) (d x : X) → i < length xs → get_or xs i d ≡ x → Contains (map g xs) (g x)
mapped g [] i d x lt is = absurd (omega arith)
mapped g (y ∷ ys) zero d x lt is = (0, omega arith, ap g is)
mapped g (y ∷ ys) (suc i) d x lt is = let later = mapped g ys i d x (omega arith) is in (suc later.0, let inside = later.1 in omega arith, later.2)

module _ {D H G : Type 0} where
  last-append : (server : ServerState D H G) (first second : List (ServerCall D H G)) → last_of server (first ++ second) ≡ last_of (last_of server first) second
  last-append server [] second = refl
  last-append server (x ∷ xs) second = last-append (after_of x) xs second

  call_of_more : (tuples others : List FiveTuple) (moment : ℕ) → ((f : FiveTuple) → Contains tuples f → Contains others f) → (x : ServerCall D H G) → IsEndCall tuples moment x → IsEndCall others moment x
  call_of_more tuples others moment more (Submit m (Arrives.FromClient f bytes) result after) end = (end.0, (more f end.1.0, end.1.1))
  call_of_more tuples others moment more (Submit m (Arrives.FromPeer port from bytes id) result after) end = absurd end.1
  call_of_more tuples others moment more (Commit result after) end = tt
  call_of_more tuples others moment more (Relay arrival sent after) end = absurd end
  call_of_more tuples others moment more (Advance m after) end = absurd end

  all_of_more : (tuples others : List FiveTuple) (moment : ℕ) → ((f : FiveTuple) → Contains tuples f → Contains others f) → (xs : List (ServerCall D H G)) → AllByRecursion (IsEndCall tuples moment) xs → AllByRecursion (IsEndCall others moment) xs
  all_of_more tuples others moment more [] all = tt
  all_of_more tuples others moment more (x ∷ xs) all = (call_of_more tuples others moment more x all.0, all_of_more tuples others moment more xs all.1)

serves-append : {D H G : Type 0} (disk : disks.Ghosts D) (handler : handlers.Ghosts H) (ports : generators.Ghosts G) (server : ServerState D H G) (first second : List (ServerCall D H G)) → Serves disk handler ports server first → Serves disk handler ports (last_of server first) second
    → Serves disk handler ports server (first ++ second)
serves-append disk handler ports server [] second before after = after
serves-append disk handler ports server (x ∷ xs) second before after = (before.0, serves-append disk handler ports (after_of x) xs second before.1 after)

module _ {D H G : Type 0} {disk : disks.Ghosts D} {handler : handlers.Ghosts H} {ports : generators.Ghosts G} where
  -- no call
  pub no_end : {tuples : List FiveTuple} {moment : ℕ} (server : ServerState D H G) → Ends disk handler ports tuples moment server server
  no_end server = record { calls = []; serves = tt; last = refl; ends = tt }

  pub submitted : {tuples : List FiveTuple} {moment : ℕ} {a : Arrives} {old new : ServerState D H G} {result : Result Unit SubmitError} → Submits disk handler ports old new moment a result → IsEndOf tuples a
      → Ends disk handler ports tuples moment old new
  submitted {moment = moment} {a = a} {new = new} {result = result} call is = record { calls = Submit moment a result new ∷ []; serves = (call, tt); last = refl; ends = ((refl, is), tt) }

  pub committed : {tuples : List FiveTuple} {moment : ℕ} {old new : ServerState D H G} {result : Result (List Sent) StoreError} → Commits disk old new result → Ends disk handler ports tuples moment old new
  committed {new = new} {result = result} call = record { calls = Commit result new ∷ []; serves = (call, tt); last = refl; ends = (tt, tt) }

  pub in_row : {tuples : List FiveTuple} {moment : ℕ} {old middle new : ServerState D H G} → Ends disk handler ports tuples moment old middle → Ends disk handler ports tuples moment middle new
      → Ends disk handler ports tuples moment old new
  in_row {tuples = tuples} {moment = moment} {old = old} first second = record {
    calls = first.calls ++ second.calls;
    serves = serves-append disk handler ports old first.calls second.calls first.serves (subst (λ (s : ServerState D H G). Serves disk handler ports s second.calls) (sym first.last) second.serves);
    last = last-append old first.calls second.calls ∙ ap (λ s. last_of s second.calls) first.last ∙ second.last;
    ends = all-append (IsEndCall tuples moment) first.calls second.calls first.ends second.ends;
  }

  -- of one of these five-tuples, they are of one of more
  pub of_more : {tuples others : List FiveTuple} {moment : ℕ} {old new : ServerState D H G} → ((f : FiveTuple) → Contains tuples f → Contains others f) → Ends disk handler ports tuples moment old new → Ends disk handler ports others moment old new
  of_more {tuples = tuples} {others = others} {moment = moment} more e = record { calls = e.calls; serves = e.serves; last = e.last; ends = all_of_more tuples others moment more e.calls e.ends }
