-- Calls in a row.
use Rattle.std.proofs.Common.{arith, ◌≡◌, ◌≤◌, ℕ, List, [], ◌∷◌, ◌++◌, Result, Ok, Err, None, length, refl, sym, ap, ◌∙◌, subst, append_assoc, append-nil}
use Rattle.turn_cred.specs.declared.handler.AuthHandler as handlers
use Rattle.turn_disk.proofs.Since.{since_join, since_same, since_weaken}
use Rattle.turn_disk.specs.Prelude.{EachImageSince}
use Rattle.turn_disk.specs.declared.disk.Disk as disks
use Rattle.turn_engine.proofs.Answered.{accepted-append, begins}
use Rattle.turn_engine.proofs.Runs.{earlier, goes_on, stops}
use Rattle.turn_engine.specs.Prelude.{Advance, AtLeast, BeginsWith, Commit, IsAtPlace, IsCall, Place, Relay, Serves, ServerCall, Submit, Taken, accepted, after_of, count_at, history_at, last_of, ServerState, now_of}
use Rattle.turn_engine.proofs.Held.{stay_held}
use Rattle.turn_engine.specs.declared.error.SubmitError.{SubmitError}
use Rattle.turn_engine.specs.declared.error.SubmitError.TheVariants.{BatchFull, Memory, Stopped}
use Rattle.turn_ports.specs.declared.generator.RelayAddressGenerator as generators
use Rattle.turn_history.specs.Prelude.{History}
use Rattle.turn_sockets.specs.Moments.{IsMoment}
use Rattle.turn_step.specs.Prelude.{Setting, HoldsPorts}
use Rattle.turn_store.specs.Prelude.{Form, RepresentsAt, form_of}
use Rattle.turn_serving.specs.Turns.{AreAt, Served}

module _ {D H G : Type 0} (disk : disks.Ghosts D) (handler : handlers.Ghosts H) (ports : generators.Ghosts G) where
  pub serves-append : (server : ServerState D H G) (first second : List (ServerCall D H G)) → Serves disk handler ports server first → Serves disk handler ports (last_of server first) second
      → Serves disk handler ports server (first ++ second)
  serves-append server [] second before after = after
  serves-append server (x ∷ xs) second before after = (before.0, serves-append (after_of x) xs second before.1 after)

  -- the clock never goes back
  call_in_time : (old : ServerState D H G) (x : ServerCall D H G) → IsCall disk handler ports old x → now_of old ≤ now_of (after_of x)
  call_in_time old (Submit moment a (Ok done) new) call = subst (λ n. now_of old ≤ n) (sym call.clock) call.in_time
  call_in_time old (Submit moment a (Err Stopped) new) call = let same = ap now_of (call.unchanged refl) in omega arith
  call_in_time old (Submit moment a (Err BatchFull) new) call = let same = ap now_of (call.unchanged_full refl) in omega arith
  call_in_time old (Submit moment a (Err Memory) new) call = subst (λ n. now_of old ≤ n) (sym (call.memory_clock refl)) call.in_time
  call_in_time old (Commit (Ok outs) new) call = let same = ap now_of call.ok in omega arith
  call_in_time old (Commit (Err fault) new) call = let same = ap now_of call.err in omega arith
  call_in_time old (Relay a sent new) call = let same = ap now_of call.2 in omega arith
  call_in_time old (Advance moment new) call = subst (λ n. now_of old ≤ n) (sym call.clock) call.in_time

  calls_in_time : (old : ServerState D H G) (steps : List (ServerCall D H G)) → Serves disk handler ports old steps → now_of old ≤ now_of (last_of old steps)
  calls_in_time old [] serves = omega arith
  calls_in_time old (x ∷ xs) serves =
      let first = call_in_time old x serves.0 in
      let rest = calls_in_time (after_of x) xs serves.1 in
      omega arith

pub last_of-append : {D H G : Type 0} (server : ServerState D H G) (first second : List (ServerCall D H G)) → last_of server (first ++ second) ≡ last_of (last_of server first) second
last_of-append server [] second = refl
last_of-append server (x ∷ xs) second = last_of-append (after_of x) xs second

pub are_at-append : {D H G : Type 0} (IsOne : ℕ → ℕ → Type 0) (server : ServerState D H G) (first second : List (ServerCall D H G)) → AreAt IsOne server first → AreAt IsOne (last_of server first) second → AreAt IsOne server (first ++ second)
are_at-append IsOne server [] second before after = after
are_at-append IsOne server (Submit moment a result new ∷ xs) second before after = (before.0, are_at-append IsOne new xs second before.1 after)
are_at-append IsOne server (Commit result new ∷ xs) second before after = are_at-append IsOne new xs second before after
are_at-append IsOne server (Relay a sent new ∷ xs) second before after = (before.0, are_at-append IsOne new xs second before.1 after)
are_at-append IsOne server (Advance moment new ∷ xs) second before after = (before.0, are_at-append IsOne new xs second before.1 after)

-- ---- What follows of calls

module _ {D H G : Type 0} {disk : disks.Ghosts D} {handler : handlers.Ghosts H} {ports : generators.Ghosts G} {IsOne : ℕ → ℕ → Type 0} where
  pub no_call : {old new : ServerState D H G} → new ≡ old → Served disk handler ports IsOne old new
  no_call same = record { steps = []; serves = tt; moments = tt; last = sym same }

  pub in_row : {old middle new : ServerState D H G} → Served disk handler ports IsOne old middle → Served disk handler ports IsOne middle new → Served disk handler ports IsOne old new
  in_row {old = old} first second =
      record {
        steps = first.steps ++ second.steps;
        serves = serves-append disk handler ports old first.steps second.steps first.serves (subst (λ s. Serves disk handler ports s second.steps) (sym first.last) second.serves);
        moments = are_at-append IsOne old first.steps second.steps first.moments (subst (λ s. AreAt IsOne s second.steps) (sym first.last) second.moments);
        last = last_of-append old first.steps second.steps ∙ ap (λ s. last_of s second.steps) first.last ∙ second.last;
      }

module _ {D H G : Type 0} {disk : disks.Ghosts D} {handler : handlers.Ghosts H} {ports : generators.Ghosts G} where
  pub held : {IsOne : ℕ → ℕ → Type 0} {old new : ServerState D H G} → Served disk handler ports IsOne old new → HoldsPorts ports.holds old.machine None → HoldsPorts ports.holds new.machine None
  held {old = old} served holds =
      subst (λ s. HoldsPorts ports.holds s.machine None) served.last (stay_held disk handler ports old served.steps served.serves holds)

  pub in_time : {IsOne : ℕ → ℕ → Type 0} {old new : ServerState D H G} → Served disk handler ports IsOne old new → now_of old ≤ now_of new
  in_time {old = old} served = subst (λ s. now_of old ≤ now_of s) served.last (calls_in_time disk handler ports old served.steps served.serves)

-- ---- Stops

begins_less : (form : Form) (h first second : History) (m n : ℕ) (image : List ℕ) → h ≡ first ++ second → m ≤ n → BeginsWith form h m image → BeginsWith form first n image
begins_less form h first second m n image is less begun = record {
  rest = second ++ begun.rest;
  stands = record {
    clock = begun.stands.clock;
    bounded = let bounded = begun.stands.bounded in omega arith;
    stands = subst (λ (l : History). RepresentsAt form l begun.stands.clock image) (ap (λ (l : History). l ++ begun.rest) is ∙ append_assoc first second begun.rest) begun.stands.stands;
  };
}

-- what was handed out at a place is the first part of its history
handed_first : (h : History) (p : Place) → history_at h p ≡ (h ++ accepted p.handed) ++ accepted p.recent
handed_first h p = ap (λ (l : History). h ++ l) (accepted-append p.handed p.recent) ∙ sym (append_assoc h (accepted p.handed) (accepted p.recent))

module _ {D H G : Type 0} (disk : disks.Ghosts D) (handler : handlers.Ghosts H) (ports : generators.Ghosts G) (s : Setting) (h : History) (t : ℕ) where
  handed_stays : (server : ServerState D H G) (p : Place) (m n : ℕ) (image : List ℕ) → m ≤ n → AtLeast (form_of server.store) (history_at h p) (count_at h p) m image
      → BeginsWith (form_of server.store) (h ++ accepted p.handed) n image
  handed_stays server p m n image less at =
      let enough : length (h ++ accepted p.handed) ≤ count_at h p = omega arith in
      begins_less (form_of server.store) (h ++ accepted p.handed) (h ++ accepted p.handed) [] m n image (sym (append-nil (h ++ accepted p.handed))) less
      (begins (form_of server.store) (history_at h p) (h ++ accepted p.handed) (accepted p.recent) (count_at h p) m image (handed_first h p) enough at)

  same_form : (old : ServerState D H G) (x : ServerCall D H G) → IsCall disk handler ports old x → form_of (after_of x).store ≡ form_of old.store
  same_form old (Submit moment a result new) call = ap form_of call.store
  same_form old (Commit result new) call = call.form
  same_form old (Relay a sent new) call = ap (λ (x : ServerState D H G). form_of x.store) call.2
  same_form old (Advance moment new) call = ap (λ (x : ServerState D H G). form_of x.store) call.rest

  calls_keep : (server : ServerState D H G) (p : Place) (steps : List (ServerCall D H G)) → IsAtPlace disk handler ports s h t server p → Serves disk handler ports server steps
      → disk.follows_crash_model (last_of server steps).store.disk
      → EachImageSince (disk.trace server.store.disk) (disk.trace (last_of server steps).store.disk) (BeginsWith (form_of server.store) (h ++ accepted p.handed) (now_of (last_of server steps)))
  calls_keep server p [] is serves crash_model = since_same _ _ _ refl (λ image left. let same : now_of server ≤ now_of server = omega arith in handed_stays server p (now_of server) (now_of server) image same (is.images image left))
  calls_keep server p (x ∷ xs) is serves crash_model =
      let last = last_of (after_of x) xs in
      let now = earlier disk handler ports (after_of x) xs serves.1 crash_model in
      let to = goes_on disk handler ports s h t server p (x ∷ []) is (serves.0, tt) now in
      let first = call_in_time disk handler ports server x serves.0 in
      let later = calls_in_time disk handler ports (after_of x) xs serves.1 in
      let whole : now_of server ≤ now_of last = omega arith in
      let longer : h ++ accepted to.end.handed ≡ (h ++ accepted p.handed) ++ accepted to.more =
      ap (λ (l : List Taken). h ++ accepted l) to.handed ∙ ap (λ (l : History). h ++ l) (accepted-append p.handed to.more) ∙ sym (append_assoc h (accepted p.handed) (accepted to.more)) in
      since_join _ _ _ _
      (since_weaken _ _ _ _ (λ image at. handed_stays server p (now_of server) (now_of last) image whole at) (stops disk handler ports s h t server p x is serves.0 now))
      (since_weaken _ _ _ _
      (λ image begun. let same : now_of last ≤ now_of last = omega arith in
      begins_less (form_of server.store) (h ++ accepted to.end.handed) (h ++ accepted p.handed) (accepted to.more) (now_of last) (now_of last) image longer same
      (subst (λ (f : Form). BeginsWith f (h ++ accepted to.end.handed) (now_of last) image) (same_form server x serves.0) begun))
      (calls_keep (after_of x) to.end xs to.is_at serves.1 crash_model))

  -- whatever calls are made, what was handed out stays at every moment
  pub keeps : {IsOne : ℕ → ℕ → Type 0} {old new : ServerState D H G} → Served disk handler ports IsOne old new → (p : Place) → IsAtPlace disk handler ports s h t old p → disk.follows_crash_model new.store.disk
      → EachImageSince (disk.trace old.store.disk) (disk.trace new.store.disk) (BeginsWith (form_of old.store) (h ++ accepted p.handed) (now_of new))
  keeps {old = old} served p is crash_model =
      subst (λ (last : ServerState D H G). EachImageSince (disk.trace old.store.disk) (disk.trace last.store.disk) (BeginsWith (form_of old.store) (h ++ accepted p.handed) (now_of last))) served.last
      (calls_keep old p served.steps is served.serves (subst (λ (last : ServerState D H G). disk.follows_crash_model last.store.disk) (sym served.last) crash_model))
