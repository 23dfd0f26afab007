-- Events in a row, and the calls of the server in them.
use Rattle.std.proofs.Common.{arith, ◌≡◌, ◌≢◌, ◌+◌, ◌-◌, ◌≤◌, OnOk, is_none, ◌∷◌, ◌++◌, [], ℕ, Bool, true, false, List, None, Option, Result, Ok, Err, Some, append-nil, append_assoc, flat_map, length, map, refl, sym, ap, ◌∙◌, subst}
use Rattle.std.proofs.Permutation.{every_append}
use Rattle.std.specs.List.{AllByRecursion}
use Rattle.turn_cred.specs.declared.handler.AuthHandler as handlers
use Rattle.turn_disk.specs.declared.disk.Disk as disks
use Rattle.turn_engine.specs.Calls as calls
use Rattle.turn_engine.specs.Prelude.{BesideState, Commit, Relay, Advance, Submit, ServerCall, ServerState, Serves, after_of, beside, emptied, last_of, limits_of, now_of}
use Rattle.turn_engine.specs.declared.error.SubmitError.{SubmitError}
use Rattle.turn_engine.specs.declared.error.SubmitError.TheVariants.{BatchFull}
use Rattle.turn_ports.specs.declared.generator.RelayAddressGenerator as generators
use Rattle.turn_sockets.specs.Backlog.{BacklogState, if_same, waiting_of}
use Rattle.turn_sockets.specs.Schedule.{Agenda, with_all_ready}
use Rattle.turn_sockets.specs.Moments.{IsMoment}
use Rattle.turn_sockets.specs.Wire.{Passed}
use Rattle.turn_step.specs.Prelude.{Arrives, FromClient, Sent}
use Rattle.turn_store.specs.declared.error.StoreError.{StoreError}
use Rattle.turn_types.specs.declared.address.Endpoint.{Endpoint}
use Rattle.turn_types.specs.declared.address.FiveTuple.{FiveTuple}
use Rattle.turn_serving.specs.Events.{Advances, Commits, Does, Event, Happen, Happens, IsHandedOut, IsWhole, Reads, ServingState, Submits, count_rounds, flow_of}
use Rattle.turn_serving.specs.Manner.{reads_of}
use Rattle.turn_serving.specs.Reading.{AreRounds, MakesVisits, MeanwhileState, ReadsBeside, meanwhile_flow}
use Rattle.turn_serving.specs.Sending.{Addresses, PortSockets, SendsEach}
use Rattle.turn_serving.specs.Turns.{AreAt, At, Never, Served}
use Rattle.turn_serving.specs.Visits.{Answered, AreTaken, AreVisited, Befalls, Fate, Flow, IsTaken, IsVisited, Kept, Lost, OfItself, Round, Rounds, Shed, Taken, Visited, begun_by, flow}
use Rattle.turn_serving.specs.declared.error.TurnError.{TurnError}
use Rattle.turn_serving.specs.declared.manner.Manner.{Manner}
use Rattle.turn_serving.proofs.Moments.{calls_still, moment_after, still}
use Rattle.turn_serving.proofs.Turns.{in_row, no_call}
use Rattle.turn_serving.proofs.Visiting.{round_of}

-- ---- In a row

pub count-append : {D H G : Type 0} (xs ys : List (Event D H G)) → count_rounds (xs ++ ys) ≡ count_rounds xs + count_rounds ys
count-append [] ys = omega arith
count-append (Reads round ∷ xs) ys = let rest = count-append xs ys in omega (arith, rest)
count-append (Advances moment after ∷ xs) ys = count-append xs ys
count-append (Submits moment f bytes result after ∷ xs) ys = count-append xs ys
count-append (Commits result after out ∷ xs) ys = count-append xs ys

module _ {D H G : Type 0} (disk : disks.Ghosts D) (handler : handlers.Ghosts H) (ports : generators.Ghosts G) (relays : PortSockets G) (IsOne : ℕ → ℕ → Type 0) where
  happen-append : (old : ServingState D H G) (first second : List (Event D H G)) (middle new : ServingState D H G) → Happen disk handler ports relays IsOne old first middle
      → Happen disk handler ports relays IsOne middle second new → Happen disk handler ports relays IsOne old (first ++ second) new
  happen-append old [] second middle new before after = subst (λ s. Happen disk handler ports relays IsOne s second new) before after
  happen-append old (e ∷ es) second middle new before after = (before.0, before.1, happen-append before.0 es second middle new before.2 after)

module _ {D H G : Type 0} {disk : disks.Ghosts D} {handler : handlers.Ghosts H} {ports : generators.Ghosts G} {relays : PortSockets G} {IsOne : ℕ → ℕ → Type 0} where
  -- one thing after another
  pub does_in_row : {least more : ℕ} {first_done done : Bool} {old middle new : ServingState D H G} → (done ≡ true → first_done ≡ true) → Does disk handler ports relays IsOne least first_done old middle
      → Does disk handler ports relays IsOne more done middle new → Does disk handler ports relays IsOne (least + more) done old new
  does_in_row {old = old} {middle = middle} {new = new} earlier first second = record {
    events = first.events ++ second.events;
    happen = happen-append disk handler ports relays IsOne old first.events second.events middle new first.happen second.happen;
    whole = λ d. every_append IsWhole first.events second.events (first.whole (earlier d)) (second.whole d);
    enough = λ d.
        let one = first.enough (earlier d) in
        let two = second.enough d in
        let both = count-append first.events second.events in
        omega (arith, one, two, both);
  }

  -- nothing was done
  pub does_nothing : {done : Bool} {old new : ServingState D H G} → new ≡ old → Does disk handler ports relays IsOne 0 done old new
  does_nothing same = record { events = []; happen = same; whole = λ d. tt; enough = λ d. omega arith }

  -- it was done to its end, or that isn't said
  pub does_less : {least less : ℕ} {first_done done : Bool} {old new : ServingState D H G} → (done ≡ true → first_done ≡ true) → less ≤ least → Does disk handler ports relays IsOne least first_done old new
      → Does disk handler ports relays IsOne less done old new
  does_less earlier fewer d = record { events = d.events; happen = d.happen; whole = λ done. d.whole (earlier done); enough = λ done. let enough = d.enough (earlier done) in omega (arith, fewer, enough) }

  -- what failed
  pub does_failed : {least more : ℕ} {first_done done : Bool} {old new : ServingState D H G} → (done ≡ true → false ≡ true) → Does disk handler ports relays IsOne least first_done old new
      → Does disk handler ports relays IsOne more done old new
  does_failed failed d = record { events = d.events; happen = d.happen; whole = λ done. absurd (let no = failed done in cc); enough = λ done. absurd (let no = failed done in cc) }

  -- ---- Single events

  pub advances : {moment : ℕ} {after : ServerState D H G} {done : Bool} (old : ServingState D H G) {new : ServingState D H G} → IsOne (now_of old.server) moment → calls.Advances disk ports old.server after moment → new ≡ record old { server = after }
      → Does disk handler ports relays IsOne 0 done old new
  advances {moment = moment} {after = after} old {new = new} is call same = record {
    events = Advances moment after ∷ [];
    happen = (new, (is, call, same), refl);
    whole = λ d. (tt, tt);
    enough = λ d. omega arith;
  }

  pub submits : {moment : ℕ} {f : FiveTuple} {bytes : List ℕ} {result : Result Unit SubmitError} {done : Bool} (old : ServingState D H G) {new : ServingState D H G} → IsOne (now_of old.server) moment
      → calls.Submits disk handler ports old.server new.server moment (FromClient f bytes) result → result ≢ Err BatchFull → ((g : FiveTuple) → waiting_of old.backlog g ≡ if_same f g bytes ++ waiting_of new.backlog g)
      → new ≡ record old { server = new.server; backlog = new.backlog } → Does disk handler ports relays IsOne 0 done old new
  submits {moment = moment} {f = f} {bytes = bytes} {result = result} old {new = new} is call room first same = record {
    events = Submits moment f bytes result new.server ∷ [];
    happen = (new, (is, call, room, first, same), refl);
    whole = λ d. (tt, tt);
    enough = λ d. omega arith;
  }

  pub commits : {result : Result (List Sent) StoreError} {done : Bool} (old : ServingState D H G) {new : ServingState D H G} (out : List Passed) → calls.Commits disk old.server new.server result
      → IsHandedOut relays old.addresses new.server.machine.ports result out → new ≡ record old { server = new.server; passed = old.passed ++ out } → Does disk handler ports relays IsOne 0 done old new
  commits {result = result} old {new = new} out call handed same = record {
    events = Commits result new.server out ∷ [];
    happen = (new, (call, handed, same), refl);
    whole = λ d. (tt, tt);
    enough = λ d. omega arith;
  }

  -- sockets were read in a round, of a server that isn't stopped and is at such a moment, or none was
  pub reads : {done : Bool} (ready : List ℕ) (old : ServingState D H G) {new : ServingState D H G} (visits : List Visited) → ((visits ≡ [] → ⊥) → (old.server.store.stopped ≡ false) × IsOne (now_of old.server) (now_of old.server))
      → Rounds handler ports relays old.addresses old.manner (beside old.server) (record { ready = ready; visits = visits; is_whole = done }) old.agenda (flow_of old) new.agenda (flow_of new)
      → new ≡ record old { backlog = new.backlog; agenda = new.agenda; passed = new.passed } → Does disk handler ports relays IsOne 1 done old new
  reads {done = done} ready old {new = new} visits current round same = record {
    events = Reads (record { ready = ready; visits = visits; is_whole = done }) ∷ [];
    happen = (new, (current, round, same), refl);
    whole = λ d. (d, tt);
    enough = λ d. omega arith;
  }

  -- sockets that were looked at, and not read
  pub looked : {least : ℕ} {done : Bool} (old : ServingState D H G) {new : ServingState D H G} → (done ≡ true → false ≡ true) → new ≡ record old { agenda = new.agenda } → Does disk handler ports relays IsOne least done old new
  looked old {new = new} failed same =
      does_failed failed (reads {done = false} [] old [] (λ some. absurd (some refl))
      (record { visited = ap flow_of same; in_order = λ whole. absurd (cc); is_over = λ whole. absurd (cc) })
      (same ∙ sym (same_rest old new same)))
    where
      same_rest : (old new : ServingState D H G) → new ≡ record old { agenda = new.agenda } → record old { backlog = new.backlog; agenda = new.agenda; passed = new.passed } ≡ record old { agenda = new.agenda }
      same_rest old new same = ap (λ (s : ServingState D H G). record old { backlog = s.backlog; agenda = new.agenda; passed = s.passed }) same

-- ---- The calls of the server

module _ {D H G : Type 0} (disk : disks.Ghosts D) (handler : handlers.Ghosts H) (ports : generators.Ghosts G) (relays : PortSockets G) (IsOne : ℕ → ℕ → Type 0) where
  -- a datagram that was answered beside what is staged is a call
  served_fate : (server : ServerState D H G) (here : Addresses) (old new : BacklogState) (from : Endpoint) (arrival : Arrives) (fate : Fate) → server.store.stopped ≡ false → IsOne (now_of server) (now_of server)
      → Befalls handler ports relays here (beside server) old from arrival fate new → Served disk handler ports IsOne server server
  served_fate server here old new from arrival OfItself runs is befalls = no_call refl
  served_fate server here old new from arrival Kept runs is befalls = no_call refl
  served_fate server here old new from arrival Shed runs is befalls = no_call refl
  served_fate server here old new from arrival (Answered answer out) runs is befalls =
      record { steps = Relay arrival answer server ∷ []; serves = ((runs, befalls.1, refl), tt); moments = (is, tt); last = refl }
  served_fate server here old new from arrival Lost runs is befalls = no_call refl

  served_taken : (server : ServerState D H G) (here : Addresses) (token : ℕ) (old : BacklogState) (ts : List Taken) (new : BacklogState) → server.store.stopped ≡ false → IsOne (now_of server) (now_of server)
      → AreTaken handler ports relays here (beside server) token old ts new → Served disk handler ports IsOne server server
  served_taken server here token old [] new runs is taken = no_call refl
  served_taken server here token old (t ∷ ts) new runs is taken =
      in_row (served_fate server here old taken.0 t.from t.arrival t.fate runs is taken.1.befalls) (served_taken server here token taken.0 ts new runs is taken.2)

  served_visits : (server : ServerState D H G) (here : Addresses) (most : ℕ) (old : Flow) (vs : List Visited) (new : Flow) → server.store.stopped ≡ false → IsOne (now_of server) (now_of server)
      → AreVisited handler ports relays here (beside server) most old vs new → Served disk handler ports IsOne server server
  served_visits server here most old [] new runs is visited = no_call refl
  served_visits server here most old (v ∷ vs) new runs is visited =
      in_row (served_taken server here v.token old.waits v.taken visited.0.waits runs is visited.1.taken) (served_visits server here most visited.0 vs new runs is visited.2)

  -- sockets that were read are calls, where any was
  served_reads : (server : ServerState D H G) (here : Addresses) (most : ℕ) (old : Flow) (vs : List Visited) (new : Flow) → ((vs ≡ [] → ⊥) → (server.store.stopped ≡ false) × IsOne (now_of server) (now_of server))
      → AreVisited handler ports relays here (beside server) most old vs new → Served disk handler ports IsOne server server
  served_reads server here most old [] new current visited = no_call refl
  served_reads server here most old (v ∷ vs) new current visited =
      let now = current (λ none. absurd (cc)) in
      served_visits server here most old (v ∷ vs) new now.0 now.1 visited

  served_event : (old : ServingState D H G) (e : Event D H G) (new : ServingState D H G) → Happens disk handler ports relays IsOne old e new → Served disk handler ports IsOne old.server new.server
  served_event old (Reads round) new happens =
      in_row (served_reads old.server old.addresses (reads_of old.manner) (flow_of old) round.visits (flow_of new) happens.0 happens.1.visited) (no_call (ap (λ s. s.server) happens.2))
  served_event old (Advances moment after) new happens =
      record { steps = Advance moment after ∷ []; serves = (happens.1, tt); moments = (happens.0, tt); last = sym (ap (λ s. s.server) happens.2) }
  served_event old (Submits moment f bytes result after) new happens =
      record { steps = Submit moment (FromClient f bytes) result after ∷ []; serves = (happens.1, tt); moments = (happens.0, tt); last = sym (ap (λ s. s.server) happens.4) }
  served_event old (Commits result after out) new happens =
      record { steps = Commit result after ∷ []; serves = (happens.0, tt); moments = tt; last = sym (ap (λ s. s.server) happens.2) }

  served_events : (old : ServingState D H G) (es : List (Event D H G)) (new : ServingState D H G) → Happen disk handler ports relays IsOne old es new → Served disk handler ports IsOne old.server new.server
  served_events old [] new happen = no_call (ap (λ s. s.server) happen)
  served_events old (e ∷ es) new happen = in_row (served_event old e happen.0 happen.1) (served_events happen.0 es new happen.2)

module _ {D H G : Type 0} {disk : disks.Ghosts D} {handler : handlers.Ghosts H} {ports : generators.Ghosts G} {relays : PortSockets G} {IsOne : ℕ → ℕ → Type 0} where
  -- what a server that serves did are calls of the server
  pub served : {least : ℕ} {done : Bool} {old new : ServingState D H G} → Does disk handler ports relays IsOne least done old new → Served disk handler ports IsOne old.server new.server
  served {old = old} {new = new} d = served_events disk handler ports relays IsOne old d.events new d.happen

module _ {D H G : Type 0} (disk : disks.Ghosts D) (handler : handlers.Ghosts H) (ports : generators.Ghosts G) (relays : PortSockets G) (IsOne : ℕ → ℕ → Type 0) where
  -- the addresses and the manner stay
  stays : (old : ServingState D H G) (e : Event D H G) (new : ServingState D H G) → Happens disk handler ports relays IsOne old e new → (new.addresses ≡ old.addresses) × (new.manner ≡ old.manner)
  stays old (Reads round) new happens = (ap (λ s. s.addresses) happens.2, ap (λ s. s.manner) happens.2)
  stays old (Advances moment after) new happens = (ap (λ s. s.addresses) happens.2, ap (λ s. s.manner) happens.2)
  stays old (Submits moment f bytes result after) new happens = (ap (λ s. s.addresses) happens.4, ap (λ s. s.manner) happens.4)
  stays old (Commits result after out) new happens = (ap (λ s. s.addresses) happens.2, ap (λ s. s.manner) happens.2)

  pub all_stay : (old : ServingState D H G) (es : List (Event D H G)) (new : ServingState D H G) → Happen disk handler ports relays IsOne old es new → (new.addresses ≡ old.addresses) × (new.manner ≡ old.manner)
  all_stay old [] new happen = (ap (λ s. s.addresses) happen, ap (λ s. s.manner) happen)
  all_stay old (e ∷ es) new happen =
      let first = stays old e happen.0 happen.1 in
      let rest = all_stay happen.0 es new happen.2 in
      (rest.0 ∙ first.0, rest.1 ∙ first.1)

module _ {D H G : Type 0} {disk : disks.Ghosts D} {handler : handlers.Ghosts H} {ports : generators.Ghosts G} {relays : PortSockets G} {IsOne : ℕ → ℕ → Type 0} where
  pub same_addresses : {least : ℕ} {done : Bool} {old new : ServingState D H G} → Does disk handler ports relays IsOne least done old new → new.addresses ≡ old.addresses
  same_addresses {old = old} {new = new} d = (all_stay disk handler ports relays IsOne old d.events new d.happen).0

  pub same_manner : {least : ℕ} {done : Bool} {old new : ServingState D H G} → Does disk handler ports relays IsOne least done old new → new.manner ≡ old.manner
  same_manner {old = old} {new = new} d = (all_stay disk handler ports relays IsOne old d.events new d.happen).1

-- ---- Moments

module _ {D H G : Type 0} (disk : disks.Ghosts D) (handler : handlers.Ghosts H) (ports : generators.Ghosts G) (relays : PortSockets G) (P Q : ℕ → ℕ → Type 0) where
  -- by moments that are others too
  others_too : (old : ServingState D H G) (e : Event D H G) (new : ServingState D H G) → ((moment : ℕ) → P (now_of old.server) moment → Q (now_of old.server) moment) → Happens disk handler ports relays P old e new
      → Happens disk handler ports relays Q old e new
  others_too old (Reads round) new f happens = (λ some. let now = happens.0 some in (now.0, f (now_of old.server) now.1), happens.1, happens.2)
  others_too old (Advances moment after) new f happens = (f moment happens.0, happens.1, happens.2)
  others_too old (Submits moment g bytes result after) new f happens = (f moment happens.0, happens.1, happens.2, happens.3, happens.4)
  others_too old (Commits result after out) new f happens = happens

-- after calls at a moment that is one by the clock before them, it is one by the clock
clock_still : {D H G : Type 0} {disk : disks.Ghosts D} {handler : handlers.Ghosts H} {ports : generators.Ghosts G} {told : ℕ → Type 0} {moment : ℕ} {old new : ServerState D H G} → Served disk handler ports (At moment) old new → IsMoment told (now_of old) moment → IsMoment told (now_of new) moment
clock_still {D = D} {H = H} {G = G} {disk = disk} {handler = handler} {ports = ports} {told = told} {moment = moment} {old = old} s is = subst (λ (x : ServerState D H G). IsMoment told (now_of x) moment) s.last (calls_still disk handler ports told moment old s.steps s.serves s.moments is)

module _ {D H G : Type 0} (disk : disks.Ghosts D) (handler : handlers.Ghosts H) (ports : generators.Ghosts G) (relays : PortSockets G) where
  never_happen : (IsOne : ℕ → ℕ → Type 0) (old : ServingState D H G) (es : List (Event D H G)) (new : ServingState D H G) → Happen disk handler ports relays Never old es new → Happen disk handler ports relays IsOne old es new
  never_happen IsOne old [] new happen = happen
  never_happen IsOne old (e ∷ es) new happen = (happen.0, others_too disk handler ports relays Never IsOne old e happen.0 (λ moment never. absurd never) happen.1, never_happen IsOne happen.0 es new happen.2)

  told_happen : (told : ℕ → Type 0) (moment : ℕ) (old : ServingState D H G) (es : List (Event D H G)) (new : ServingState D H G) → IsMoment told (now_of old.server) moment → Happen disk handler ports relays (At moment) old es new
      → Happen disk handler ports relays (IsMoment told) old es new
  told_happen told moment old [] new is happen = happen
  told_happen told moment old (e ∷ es) new is happen = (
    happen.0,
    others_too disk handler ports relays (At moment) (IsMoment told) old e happen.0 (λ m same. subst (IsMoment told (now_of old.server)) (sym same) is) happen.1,
    told_happen told moment happen.0 es new (clock_still (served_event disk handler ports relays (At moment) old e happen.0 happen.1) is) happen.2,
  )

module _ {D H G : Type 0} {disk : disks.Ghosts D} {handler : handlers.Ghosts H} {ports : generators.Ghosts G} {relays : PortSockets G} where
  -- at no moment
  pub does_never : {IsOne : ℕ → ℕ → Type 0} {least : ℕ} {done : Bool} {old new : ServingState D H G} → Does disk handler ports relays Never least done old new → Does disk handler ports relays IsOne least done old new
  does_never {IsOne = IsOne} {old = old} {new = new} d = record { events = d.events; happen = never_happen disk handler ports relays IsOne old d.events new d.happen; whole = d.whole; enough = d.enough }

  -- at one moment, which is one by the clock before it
  pub does_told : {told : ℕ → Type 0} {moment least : ℕ} {done : Bool} {old new : ServingState D H G} → IsMoment told (now_of old.server) moment → Does disk handler ports relays (At moment) least done old new
      → Does disk handler ports relays (IsMoment told) least done old new
  does_told {told = told} {moment = moment} {old = old} {new = new} is d = record { events = d.events; happen = told_happen disk handler ports relays told moment old d.events new is d.happen; whole = d.whole; enough = d.enough }

  -- a clock that is at a moment that was told is at one afterwards
  pub stays_current : {told : ℕ → Type 0} {least : ℕ} {done : Bool} {old new : ServingState D H G} → IsMoment told (now_of old.server) (now_of old.server) → Does disk handler ports relays (IsMoment told) least done old new
      → IsMoment told (now_of new.server) (now_of new.server)
  stays_current current d = still (moment_after current (served d))

-- ---- Calls of the functions that take a turn

-- what holds anyway holds where a call ended well
pub always : {T E P : Type 0} (result : Result T E) → P → OnOk result P
always (Ok x) p = p
always (Err y) p = tt

-- a server with nothing staged has nothing staged at a later moment
pub advanced_idle : {D H G : Type 0} {disk : disks.Ghosts D} {ports : generators.Ghosts G} {moment : ℕ} {old opened advanced new : ServerState D H G} → opened ≡ old → calls.Advances disk ports opened advanced moment → new ≡ advanced
    → old ≡ emptied old old.store → new ≡ emptied new new.store
advanced_idle {D = D} {H = H} {G = G} {opened = opened} {advanced = advanced} seen call last idle =
    let before : opened ≡ emptied opened opened.store = subst (λ (s : ServerState D H G). s ≡ emptied s s.store) (sym seen) idle in
    subst (λ (s : ServerState D H G). s ≡ emptied s s.store) (sym (last ∙ call.rest)) (ap (λ (s : ServerState D H G). record s { machine = advanced.machine }) before)

-- a batch that isn't full is not refused as full
pub has_room : {D H G : Type 0} {disk : disks.Ghosts D} {handler : handlers.Ghosts H} {ports : generators.Ghosts G} {old new : ServerState D H G} {moment room : ℕ} {a : Arrives} {result : Result Unit SubmitError}
    → calls.Submits disk handler ports old new moment a result → room ≡ (limits_of old).acts - old.arrivals → (room ≡ 0 → ⊥) → result ≢ Err BatchFull
has_room call is some full = let at = (call.full.0 full).1 in some (omega (arith, is, at))

module _ {D H G : Type 0} {disk : disks.Ghosts D} {handler : handlers.Ghosts H} {ports : generators.Ghosts G} {relays : PortSockets G} {IsOne : ℕ → ℕ → Type 0} where
  -- from another view of the same server
  pub does_from : {least : ℕ} {done : Bool} {old opened new : ServingState D H G} → opened ≡ old → Does disk handler ports relays IsOne least done opened new → Does disk handler ports relays IsOne least done old new
  does_from {least = least} {done = done} {new = new} same d = subst (λ (s : ServingState D H G). Does disk handler ports relays IsOne least done s new) same d

  -- nothing that waits was taken
  pub takes_none : {done : Bool} {old opened new : ServingState D H G} → opened ≡ old → new ≡ record opened { backlog = new.backlog } → new.backlog ≡ opened.backlog → Does disk handler ports relays IsOne 0 done old new
  takes_none {opened = opened} seen rest same = does_nothing (rest ∙ ap (λ (b : BacklogState). record opened { backlog = b }) same ∙ seen)

  -- a commit that failed
  pub commit_fails : {fault : StoreError} {done : Bool} (old : ServingState D H G) {new : ServingState D H G} → calls.Commits disk old.server new.server (Err fault) → new ≡ record old { server = new.server } → Does disk handler ports relays IsOne 0 done old new
  commit_fails old {new = new} call same = commits old [] call refl (same ∙ ap (λ (p : List Passed). record old { server = new.server; passed = p }) (sym (append-nil old.passed)))

  -- one that handed out what was sent
  pub commit_sends : {outs sent : List Sent} {done : Bool} {old opened new : ServingState D H G} → opened ≡ old → calls.Commits disk opened.server new.server (Ok outs) → sent ≡ outs
      → (out : List Passed) × (new.passed ≡ opened.passed ++ out) × SendsEach relays opened.addresses new.server.machine.ports sent out → new ≡ record opened { server = new.server; passed = new.passed } → Does disk handler ports relays IsOne 0 done old new
  commit_sends {opened = opened} {new = new} seen call is sends same =
      does_from seen
      (commits opened sends.0 call (subst (λ (l : List Sent). SendsEach relays opened.addresses new.server.machine.ports l sends.0) is sends.2) (same ∙ ap (λ (p : List Passed). record opened { server = new.server; passed = p }) sends.1))

  -- a datagram that waited was submitted
  pub submits_next : {moment : ℕ} {f : FiveTuple} {bytes sent : List ℕ} {result : Result Unit SubmitError} {room : ℕ} {done : Bool} {old opened new : ServingState D H G} → opened ≡ old → IsOne (now_of opened.server) moment
      → calls.Submits disk handler ports opened.server new.server moment (FromClient f sent) result → sent ≡ bytes → room ≡ (limits_of opened.server).acts - opened.server.arrivals → (room ≡ 0 → ⊥)
      → ((g : FiveTuple) → waiting_of opened.backlog g ≡ if_same f g bytes ++ waiting_of new.backlog g) → new ≡ record opened { server = new.server; backlog = new.backlog } → Does disk handler ports relays IsOne 0 done old new
  submits_next {moment = moment} {f = f} {result = result} {opened = opened} {new = new} seen at call is left some order same =
      does_from seen (submits opened at (subst (λ (l : List ℕ). calls.Submits disk handler ports opened.server new.server moment (FromClient f l) result) is call) (has_room call left some) order same)

  -- a round of reads after a look
  pub reads_round : {done : Bool} {old begun new : ServingState D H G} → begun ≡ record old { agenda = begun.agenda } → (ready : List ℕ) → begun.agenda ≡ begun_by old.manner.commits (with_all_ready old.agenda ready)
      → old.server.store.stopped ≡ false → IsOne (now_of old.server) (now_of old.server)
      → MakesVisits handler ports relays begun.addresses (reads_of begun.manner) (beside begun.server) done begun.agenda (flow_of begun) new.agenda (flow_of new)
      → new ≡ record begun { backlog = new.backlog; agenda = new.agenda; passed = new.passed } → Does disk handler ports relays IsOne 1 done old new
  reads_round {done = done} {old = old} {begun = begun} {new = new} same ready begins runs current visits rest =
      subst (λ (s : ServingState D H G). MakesVisits handler ports relays s.addresses (reads_of s.manner) (beside s.server) done begun.agenda (flow_of s) new.agenda (flow_of new)
      → new ≡ record s { backlog = new.backlog; agenda = new.agenda; passed = new.passed } → Does disk handler ports relays IsOne 1 done old new)
      (sym same)
      (λ v r. reads ready old v.visits (λ some. (runs, current)) (round_of {manner = old.manner} ready begins v) r)
      visits rest

  -- the rounds in which sockets were read beside a commit
  pub reads_rounds : {done : Bool} (old : ServingState D H G) (rounds : List Round) (lists : Agenda) (new : Flow) → (old.server.store.stopped ≡ false) × IsOne (now_of old.server) (now_of old.server)
      → AreRounds handler ports relays old.addresses old.manner (beside old.server) done rounds old.agenda (flow_of old) lists new
      → Does disk handler ports relays IsOne 0 done old (record old { backlog = new.waits; agenda = lists; passed = new.passed })
  reads_rounds old [] lists new current are =
      does_nothing (ap (λ (a : Agenda). record old { backlog = new.waits; agenda = a; passed = new.passed }) are.0 ∙ ap (λ (f : Flow). record old { backlog = f.waits; passed = f.passed }) are.1)
  reads_rounds {done = done} old (r ∷ rs) lists new current are =
      let middle = record old { backlog = are.1.waits; agenda = are.0; passed = are.1.passed } in
      let rest = reads_rounds {done = done} middle rs lists new current are.4 in
      record {
        events = Reads r ∷ rest.events;
        happen = (middle, ((λ some. current), are.2, refl), rest.happen);
        whole = λ d. (are.3 d, rest.whole d);
        enough = λ d. omega arith;
      }

  -- a commit beside which sockets were read, and which failed
  pub fails_beside : {whole done : Bool} {result : Result (List Sent) StoreError} {fault : StoreError} {old new : ServingState D H G} → old.server.store.stopped ≡ false → IsOne (now_of old.server) (now_of old.server) → (done ≡ true → false ≡ true)
      → (rounds : List Round) × AreRounds handler ports relays old.addresses old.manner (beside old.server) whole rounds old.agenda (flow_of old) new.agenda (flow_of new)
      → calls.Commits disk old.server new.server result → result ≡ Err fault → new ≡ record old { server = new.server; backlog = new.backlog; agenda = new.agenda; passed = new.passed } → Does disk handler ports relays IsOne 0 done old new
  fails_beside {whole = whole} {old = old} {new = new} runs current failed read call told same =
      does_failed {least = 0} {first_done = false} failed
      (does_in_row {least = 0} {more = 0} {first_done = whole} (λ d. absurd (cc)) (reads_rounds {done = whole} old read.0 new.agenda (flow_of new) (runs, current) read.1)
      (commit_fails (record old { backlog = new.backlog; agenda = new.agenda; passed = new.passed }) (subst (λ (r : Result (List Sent) StoreError). calls.Commits disk old.server new.server r) told call) same))

  -- one that handed out what was sent
  pub sends_beside : {whole done : Bool} {result : Result (List Sent) StoreError} {outs sent : List Sent} {old middle opened last new : ServingState D H G} → old.server.store.stopped ≡ false → IsOne (now_of old.server) (now_of old.server) → (done ≡ true → whole ≡ true)
      → (rounds : List Round) × AreRounds handler ports relays old.addresses old.manner (beside old.server) whole rounds old.agenda (flow_of old) middle.agenda (flow_of middle)
      → calls.Commits disk old.server middle.server result → result ≡ Ok outs → middle ≡ record old { server = middle.server; backlog = middle.backlog; agenda = middle.agenda; passed = middle.passed }
      → opened ≡ middle → sent ≡ outs → (out : List Passed) × (last.passed ≡ opened.passed ++ out) × SendsEach relays opened.addresses opened.server.machine.ports sent out → last ≡ record opened { passed = last.passed }
      → new ≡ last → Does disk handler ports relays IsOne 0 done old new
  sends_beside {whole = whole} {done = done} {outs = outs} {sent = sent} {old = old} {middle = middle} {opened = opened} {last = last} {new = new} runs current well read ends told same seen is sends rest final =
      let call = subst (λ (r : Result (List Sent) StoreError). calls.Commits disk old.server middle.server r) told ends in
      let start : ServingState D H G = record old { backlog = middle.backlog; agenda = middle.agenda; passed = middle.passed } in
      let was : opened ≡ record start { server = middle.server } = seen ∙ same in
      let to : last ≡ record start { server = middle.server; passed = last.passed } = rest ∙ ap (λ (s : ServingState D H G). record s { passed = last.passed }) was in
      subst (λ (s : ServingState D H G). Does disk handler ports relays IsOne 0 done old s) (sym final)
      (does_in_row {least = 0} {more = 0} {first_done = whole} well (reads_rounds {done = whole} old read.0 middle.agenda (flow_of middle) (runs, current) read.1)
      (subst (λ (s : ServingState D H G). Does disk handler ports relays IsOne 0 done start s) (sym to)
      (commit_sends {opened = start} {new = record start { server = middle.server; passed = last.passed }} refl call is
      (sends.0, sends.1 ∙ ap (λ (s : ServingState D H G). s.passed ++ sends.0) was, subst (λ (s : ServingState D H G). SendsEach relays s.addresses s.server.machine.ports sent sends.0) was sends.2)
      refl)))

module _ {D H G : Type 0} {disk : disks.Ghosts D} {handler : handlers.Ghosts H} {ports : generators.Ghosts G} {relays : PortSockets G} {told : ℕ → Type 0} where
  -- a look, the moment, and a round of reads
  pub takes_round : {done : Bool} {moment : ℕ} {after : ServerState D H G} {old begun opened new : ServingState D H G} → begun ≡ record old { agenda = begun.agenda } → (ready : List ℕ) → begun.agenda ≡ begun_by old.manner.commits (with_all_ready old.agenda ready)
      → old.server.store.stopped ≡ false → IsMoment told (now_of begun.server) moment → opened ≡ begun → calls.Advances disk ports opened.server after moment
      → MakesVisits handler ports relays opened.addresses (reads_of opened.manner) (beside after) done opened.agenda (flow_of opened) new.agenda (flow_of new)
      → new ≡ record opened { server = after; backlog = new.backlog; agenda = new.agenda; passed = new.passed } → Does disk handler ports relays (IsMoment told) 1 done old new
  takes_round {done = done} {moment = moment} {after = after} {old = old} {begun = begun} {opened = opened} {new = new} same ready begins runs is seen call visits rest =
      let at : IsMoment told (now_of old.server) moment = subst (λ (s : ServingState D H G). IsMoment told (now_of s.server) moment) same is in
      subst (λ (s : ServingState D H G). calls.Advances disk ports s.server after moment → MakesVisits handler ports relays s.addresses (reads_of s.manner) (beside after) done begun.agenda (flow_of s) new.agenda (flow_of new)
      → new ≡ record s { server = after; backlog = new.backlog; agenda = new.agenda; passed = new.passed } → Does disk handler ports relays (IsMoment told) 1 done old new)
      (sym (seen ∙ same))
      (λ c v r.
      let now : (after.store.stopped ≡ false) × IsMoment told (now_of after) (now_of after) = (ap (λ (s : ServerState D H G). s.store.stopped) c.rest ∙ runs, subst (λ (n : ℕ). IsMoment told n n) (sym c.clock) (still at)) in
      does_in_row {least = 0} {more = 1} {first_done = true} (λ d. refl) (advances {done = true} old at c refl) (reads ready (record old { server = after }) v.visits (λ some. now) (round_of {manner = old.manner} ready begins v) r))
      call
      (subst (λ (a : Agenda). MakesVisits handler ports relays opened.addresses (reads_of opened.manner) (beside after) done a (flow_of opened) new.agenda (flow_of new)) (ap (λ (s : ServingState D H G). s.agenda) seen) visits)
      rest

-- ---- Beside a commit

-- a commit of another view of the same server
pub commits_as : {D H G : Type 0} {disk : disks.Ghosts D} {old opened new : ServerState D H G} {result : Result (List Sent) StoreError} → opened ≡ old → calls.Commits disk opened new result → calls.Commits disk old new result
commits_as {D = D} {H = H} {G = G} {disk = disk} {new = new} {result = result} seen call = subst (λ (s : ServerState D H G). calls.Commits disk s new result) seen call

module _ {D H G : Type 0} {handler : handlers.Ghosts H} {ports : generators.Ghosts G} {relays : PortSockets G} where
  -- what was read while the sockets were lent
  pub rounds_beside : {fault : Option TurnError} {old opened : ServingState D H G} {first last : MeanwhileState} {lists : Agenda} {new : Flow} → opened ≡ old → ReadsBeside handler ports relays (beside opened.server) first last
      → first.addresses ≡ opened.addresses → first.manner ≡ opened.manner → first.agenda ≡ opened.agenda → meanwhile_flow first ≡ flow_of opened → lists ≡ last.agenda → new ≡ meanwhile_flow last → fault ≡ last.fault
      → (rounds : List Round) × AreRounds handler ports relays old.addresses old.manner (beside old.server) (is_none fault) rounds old.agenda (flow_of old) lists new
  rounds_beside {fault = fault} {old = old} {opened = opened} {first = first} {last = last} {lists = lists} {new = new} seen reads here taken listed waits at flows fails =
      let b = beside opened.server in
      subst (λ (s : ServingState D H G). (rounds : List Round) × AreRounds handler ports relays s.addresses s.manner (beside s.server) (is_none fault) rounds s.agenda (flow_of s) lists new) seen (
        reads.rounds,
        subst (λ (a : Addresses). AreRounds handler ports relays a opened.manner b (is_none fault) reads.rounds opened.agenda (flow_of opened) lists new) here
            (subst (λ (m : Manner). AreRounds handler ports relays first.addresses m b (is_none fault) reads.rounds opened.agenda (flow_of opened) lists new) taken
            (subst (λ (a : Agenda). AreRounds handler ports relays first.addresses first.manner b (is_none fault) reads.rounds a (flow_of opened) lists new) listed
            (subst (λ (f : Flow). AreRounds handler ports relays first.addresses first.manner b (is_none fault) reads.rounds first.agenda f lists new) waits
            (subst (λ (o : Option TurnError). AreRounds handler ports relays first.addresses first.manner b (is_none o) reads.rounds first.agenda (meanwhile_flow first) lists new) (sym fails)
            (subst (λ (a : Agenda). AreRounds handler ports relays first.addresses first.manner b (is_none last.fault) reads.rounds first.agenda (meanwhile_flow first) a new) (sym at)
            (subst (λ (f : Flow). AreRounds handler ports relays first.addresses first.manner b (is_none last.fault) reads.rounds first.agenda (meanwhile_flow first) last.agenda f) (sym flows) reads.are)))))),
      )
