-- The order of the datagrams of each five-tuple, and the rounds of turns.
use Rattle.std.proofs.Common.{arith, ◌≡◌, ◌+◌, ◌≤◌, ◌∷◌, ◌++◌, [], ℕ, Bool, true, false, cond, if◌then◌else◌, List, None, Option, Result, Some, append-nil, append_assoc, filter, flat_map, length, map, refl, sym, ap, ◌∙◌, subst}
use Rattle.std.specs.List.{AllByRecursion}
use Rattle.std.proofs.lemmas.Grind.{flat_map-append}
use Rattle.std.proofs.lemmas.List.{map-append}
use Rattle.std.proofs.lemmas.List.Elements.{filter-append}
use Rattle.turn_cred.specs.declared.handler.AuthHandler as handlers
use Rattle.turn_disk.specs.declared.disk.Disk as disks
use Rattle.turn_engine.specs.Prelude.{BesideState, ServerState}
use Rattle.turn_ports.specs.declared.generator.RelayAddressGenerator as generators
use Rattle.turn_sockets.proofs.Waiting.{same_tuple_is}
use Rattle.turn_sockets.specs.Backlog.{BacklogState, if_same, is_same_tuple, waiting_of}
use Rattle.turn_sockets.specs.Fairness as fairness
use Rattle.turn_sockets.specs.Schedule.{Agenda, begun, with_all_ready}
use Rattle.turn_step.specs.Prelude.{Arrives, FromClient, FromPeer}
use Rattle.turn_types.specs.declared.address.Endpoint.{Endpoint}
use Rattle.turn_types.specs.declared.address.FiveTuple.{FiveTuple}
use Rattle.turn_serving.specs.Events.{Advances, Commits, Does, Event, Happen, Happens, IsWhole, Reads, ServingState, Submits, count_rounds, flow_of}
use Rattle.turn_serving.specs.Manner.{reads_of}
use Rattle.turn_serving.specs.Order.{TakesRounds, answered_at, answered_by, answered_in, datagram_of, if_answered, if_taken, of_tuple, taken_at, taken_by, taken_in}
use Rattle.turn_serving.specs.Sending.{Addresses, PortSockets}
use Rattle.turn_serving.specs.Visits.{Answered, AreTaken, AreVisited, Befalls, Fate, Flow, Kept, Lost, OfItself, Shed, Taken, Visited, begun_by, visit_of}
use Rattle.turn_serving.specs.declared.manner.Commits.{Commits as Manners}
use Rattle.turn_serving.specs.declared.manner.Commits.TheVariants.{Paced}
use Rattle.turn_serving.specs.declared.manner.Manner.{Manner}

-- ---- Lists of datagrams

of_tuple-append : (f : FiveTuple) (xs ys : List (FiveTuple × List ℕ)) → of_tuple f (xs ++ ys) ≡ of_tuple f xs ++ of_tuple f ys
of_tuple-append f xs ys =
    ap (λ l. map (λ (d : FiveTuple × List ℕ). d.1) l) (filter-append (λ (d : FiveTuple × List ℕ). is_same_tuple d.0 f) xs ys)
    ∙ map-append (λ (d : FiveTuple × List ℕ). d.1) (filter (λ (d : FiveTuple × List ℕ). is_same_tuple d.0 f) xs) (filter (λ (d : FiveTuple × List ℕ). is_same_tuple d.0 f) ys)

-- of one datagram
of_one : (f g : FiveTuple) (bytes : List ℕ) → of_tuple g ((f, bytes) ∷ []) ≡ if_same f g bytes
of_one f g bytes = by (is_same_tuple f g)
  where
    by : (r : Bool) → map (λ (d : FiveTuple × List ℕ). d.1) (cond r ((f, bytes) ∷ []) []) ≡ (if r then bytes ∷ [] else [])
    by true = refl
    by false = refl

-- what waits of one five-tuple alone comes before or after the same
alone : (f g : FiveTuple) (bytes : List ℕ) (b : BacklogState) → waiting_of b f ≡ [] → if_same f g bytes ++ waiting_of b g ≡ waiting_of b g ++ if_same f g bytes
alone f g bytes b none = by (is_same_tuple f g) refl
  where
    by : (r : Bool) → is_same_tuple f g ≡ r → (if r then bytes ∷ [] else []) ++ waiting_of b g ≡ waiting_of b g ++ (if r then bytes ∷ [] else [])
    by true same = let empty = ap (waiting_of b) (sym (same_tuple_is f g same)) ∙ none in ap (λ l. bytes ∷ l) empty ∙ sym (ap (λ l. l ++ bytes ∷ []) empty)
    by false other = sym (append-nil (waiting_of b g))

-- ---- One five-tuple

-- What was answered of a five-tuple, and then what waits, is what waited, and then what was taken.
abbrev InOrder : FiveTuple → BacklogState → List (FiveTuple × List ℕ) → List (FiveTuple × List ℕ) → BacklogState → Type 0
InOrder g old answered taken new = of_tuple g answered ++ waiting_of new g ≡ waiting_of old g ++ of_tuple g taken

in_order-append : (g : FiveTuple) (old middle new : BacklogState) (a taken b more : List (FiveTuple × List ℕ)) → InOrder g old a taken middle → InOrder g middle b more new → InOrder g old (a ++ b) (taken ++ more) new
in_order-append g old middle new a taken b more first second =
    ap (λ l. l ++ waiting_of new g) (of_tuple-append g a b)
    ∙ append_assoc (of_tuple g a) (of_tuple g b) (waiting_of new g)
    ∙ ap (λ l. of_tuple g a ++ l) second
    ∙ sym (append_assoc (of_tuple g a) (waiting_of middle g) (of_tuple g more))
    ∙ ap (λ l. l ++ of_tuple g more) first
    ∙ append_assoc (waiting_of old g) (of_tuple g taken) (of_tuple g more)
    ∙ ap (λ l. waiting_of old g ++ l) (sym (of_tuple-append g taken more))

nothing_in_order : (g : FiveTuple) (old new : BacklogState) → new ≡ old → InOrder g old [] [] new
nothing_in_order g old new same = ap (λ (b : BacklogState). waiting_of b g) same ∙ sym (append-nil (waiting_of old g))

module _ {H G : Type 0} (handler : handlers.Ghosts H) (ports : generators.Ghosts G) (relays : PortSockets G) where
  order_of_fate : (g : FiveTuple) (here : Addresses) (b : BesideState H G) (old new : BacklogState) (from : Endpoint) (arrival : Arrives) (fate : Fate) → Befalls handler ports relays here b old from arrival fate new
      → InOrder g old (if_answered fate arrival) (if_taken fate arrival) new
  order_of_fate g here b old new from arrival OfItself befalls = nothing_in_order g old new befalls.1
  order_of_fate g here b old new from (FromClient f bytes) Kept befalls = befalls.1 g ∙ ap (λ l. waiting_of old g ++ l) (sym (of_one f g bytes))
  order_of_fate g here b old new from (FromPeer port peer bytes id) Kept befalls = absurd befalls.1
  order_of_fate g here b old new from arrival Shed befalls = nothing_in_order g old new befalls.1
  order_of_fate g here b old new from (FromClient f bytes) (Answered answer out) befalls =
      ap (λ l. l ++ waiting_of new g) (of_one f g bytes)
      ∙ ap (λ (w : BacklogState). if_same f g bytes ++ waiting_of w g) befalls.3
      ∙ alone f g bytes old befalls.0
      ∙ ap (λ l. waiting_of old g ++ l) (sym (of_one f g bytes))
  order_of_fate g here b old new from (FromPeer port peer bytes id) (Answered answer out) befalls = nothing_in_order g old new befalls.3
  order_of_fate g here b old new from arrival Lost befalls = nothing_in_order g old new befalls.1

  order_of_taken : (g : FiveTuple) (here : Addresses) (b : BesideState H G) (token : ℕ) (old : BacklogState) (ts : List Taken) (new : BacklogState) → AreTaken handler ports relays here b token old ts new
      → InOrder g old (flat_map (λ (t : Taken). if_answered t.fate t.arrival) ts) (flat_map (λ (t : Taken). if_taken t.fate t.arrival) ts) new
  order_of_taken g here b token old [] new taken = nothing_in_order g old new taken
  order_of_taken g here b token old (t ∷ ts) new taken =
      in_order-append g old taken.0 new (if_answered t.fate t.arrival) (if_taken t.fate t.arrival) (flat_map (λ (t : Taken). if_answered t.fate t.arrival) ts) (flat_map (λ (t : Taken). if_taken t.fate t.arrival) ts)
      (order_of_fate g here b old taken.0 t.from t.arrival t.fate taken.1.befalls) (order_of_taken g here b token taken.0 ts new taken.2)

  order_of_visits : (g : FiveTuple) (here : Addresses) (b : BesideState H G) (most : ℕ) (old : Flow) (vs : List Visited) (new : Flow) → AreVisited handler ports relays here b most old vs new
      → InOrder g old.waits (flat_map answered_at vs) (flat_map taken_at vs) new.waits
  order_of_visits g here b most old [] new visited = nothing_in_order g old.waits new.waits (ap (λ (f : Flow). f.waits) visited)
  order_of_visits g here b most old (v ∷ vs) new visited =
      in_order-append g old.waits visited.0.waits new.waits (answered_at v) (taken_at v) (flat_map answered_at vs) (flat_map taken_at vs)
      (order_of_taken g here b v.token old.waits v.taken visited.0.waits visited.1.taken) (order_of_visits g here b most visited.0 vs new visited.2)

module _ {D H G : Type 0} (disk : disks.Ghosts D) (handler : handlers.Ghosts H) (ports : generators.Ghosts G) (relays : PortSockets G) (IsOne : ℕ → ℕ → Type 0) where
  order_of_event : (g : FiveTuple) (old : ServingState D H G) (e : Event D H G) (new : ServingState D H G) → Happens disk handler ports relays IsOne old e new → InOrder g old.backlog (answered_by e) (taken_by e) new.backlog
  order_of_event g old (Reads round) new happens = order_of_visits handler ports relays g old.addresses _ (reads_of old.manner) (flow_of old) round.visits (flow_of new) happens.1.visited
  order_of_event g old (Advances moment after) new happens = nothing_in_order g old.backlog new.backlog (ap (λ (s : ServingState D H G). s.backlog) happens.2)
  order_of_event g old (Submits moment f bytes result after) new happens =
      ap (λ l. l ++ waiting_of new.backlog g) (of_one f g bytes) ∙ sym (happens.3 g) ∙ sym (append-nil (waiting_of old.backlog g))
  order_of_event g old (Commits result after out) new happens = nothing_in_order g old.backlog new.backlog (ap (λ (s : ServingState D H G). s.backlog) happens.2)

  -- of each five-tuple, what was answered at once or submitted, and then what waits, is what waited, and then what was received and not lost
  pub in_order : (g : FiveTuple) (old : ServingState D H G) (es : List (Event D H G)) (new : ServingState D H G) → Happen disk handler ports relays IsOne old es new
      → of_tuple g (answered_in es) ++ waiting_of new.backlog g ≡ waiting_of old.backlog g ++ of_tuple g (taken_in es)
  in_order g old [] new happen = nothing_in_order g old.backlog new.backlog (ap (λ (s : ServingState D H G). s.backlog) happen)
  in_order g old (e ∷ es) new happen =
      in_order-append g old.backlog happen.0.backlog new.backlog (answered_by e) (taken_by e) (answered_in es) (taken_in es)
      (order_of_event g old e happen.0 happen.1) (in_order g happen.0 es new happen.2)
  -- the same of what a server that serves did

pub does_in_order : {D H G : Type 0} {disk : disks.Ghosts D} {handler : handlers.Ghosts H} {ports : generators.Ghosts G} {relays : PortSockets G} {IsOne : ℕ → ℕ → Type 0} {least : ℕ} {done : Bool} {old new : ServingState D H G}
    → (does : Does disk handler ports relays IsOne least done old new) → (g : FiveTuple) → of_tuple g (answered_in does.events) ++ waiting_of new.backlog g ≡ waiting_of old.backlog g ++ of_tuple g (taken_in does.events)
does_in_order {disk = disk} {handler = handler} {ports = ports} {relays = relays} {IsOne = IsOne} {old = old} {new = new} does g = in_order disk handler ports relays IsOne g old does.events new does.happen

-- ---- Rounds

abbrev rounds_of : {D H G : Type 0} → List (Event D H G) → List fairness.Round
rounds_of [] = []
rounds_of (Reads round ∷ es) = record { ready = round.ready; visits = map visit_of round.visits } ∷ rounds_of es
rounds_of (Advances moment after ∷ es) = rounds_of es
rounds_of (Submits moment f bytes result after ∷ es) = rounds_of es
rounds_of (Commits result after out ∷ es) = rounds_of es

count_of : {D H G : Type 0} (es : List (Event D H G)) → count_rounds es ≡ length (rounds_of es)
count_of [] = refl
count_of (Reads round ∷ es) = let rest = count_of es in omega (arith, rest)
count_of (Advances moment after ∷ es) = count_of es
count_of (Submits moment f bytes result after ∷ es) = count_of es
count_of (Commits result after out ∷ es) = count_of es

module _ {D H G : Type 0} (disk : disks.Ghosts D) (handler : handlers.Ghosts H) (ports : generators.Ghosts G) (relays : PortSockets G) (IsOne : ℕ → ℕ → Type 0) where
  are_rounds : (most : ℕ) (old : ServingState D H G) (es : List (Event D H G)) (new : ServingState D H G) → old.manner.commits ≡ Paced → reads_of old.manner ≡ most → AllByRecursion IsWhole es → Happen disk handler ports relays IsOne old es new
      → fairness.AreRounds most old.agenda (rounds_of es) new.agenda
  are_rounds most old [] new paced reads whole happen = sym (ap (λ (s : ServingState D H G). s.agenda) happen)
  are_rounds most old (Reads round ∷ es) new paced reads whole happen =
      let is = happen.1.1 in
      let same = ap (λ (s : ServingState D H G). s.manner) happen.1.2 in
      let all = map visit_of round.visits in (
        happen.0.agenda,
        subst (λ (n : ℕ). fairness.AreVisits n (begun (with_all_ready old.agenda round.ready)) all happen.0.agenda) reads
            (subst (λ (c : Manners). fairness.AreVisits (reads_of old.manner) (begun_by c (with_all_ready old.agenda round.ready)) all happen.0.agenda) paced (is.in_order whole.0)),
        is.is_over whole.0,
        are_rounds most happen.0 es new (ap (λ (m : Manner). m.commits) same ∙ paced) (ap reads_of same ∙ reads) whole.1 happen.2,
      )
  are_rounds most old (Advances moment after ∷ es) new paced reads whole happen =
      let same = ap (λ (s : ServingState D H G). s.manner) happen.1.2 in
      subst (λ (a : Agenda). fairness.AreRounds most a (rounds_of es) new.agenda) (ap (λ (s : ServingState D H G). s.agenda) happen.1.2)
      (are_rounds most happen.0 es new (ap (λ (m : Manner). m.commits) same ∙ paced) (ap reads_of same ∙ reads) whole.1 happen.2)
  are_rounds most old (Submits moment f bytes result after ∷ es) new paced reads whole happen =
      let same = ap (λ (s : ServingState D H G). s.manner) happen.1.4 in
      subst (λ (a : Agenda). fairness.AreRounds most a (rounds_of es) new.agenda) (ap (λ (s : ServingState D H G). s.agenda) happen.1.4)
      (are_rounds most happen.0 es new (ap (λ (m : Manner). m.commits) same ∙ paced) (ap reads_of same ∙ reads) whole.1 happen.2)
  are_rounds most old (Commits result after out ∷ es) new paced reads whole happen =
      let same = ap (λ (s : ServingState D H G). s.manner) happen.1.2 in
      subst (λ (a : Agenda). fairness.AreRounds most a (rounds_of es) new.agenda) (ap (λ (s : ServingState D H G). s.agenda) happen.1.2)
      (are_rounds most happen.0 es new (ap (λ (m : Manner). m.commits) same ∙ paced) (ap reads_of same ∙ reads) whole.1 happen.2)

-- where requests wait for commits, what was done to its end visited sockets in rounds
pub in_rounds : {D H G : Type 0} {disk : disks.Ghosts D} {handler : handlers.Ghosts H} {ports : generators.Ghosts G} {relays : PortSockets G} {IsOne : ℕ → ℕ → Type 0} {least : ℕ} {old new : ServingState D H G} → Does disk handler ports relays IsOne least true old new → old.manner.commits ≡ Paced → TakesRounds (reads_of old.manner) least old.agenda new.agenda
in_rounds {disk = disk} {handler = handler} {ports = ports} {relays = relays} {IsOne = IsOne} {old = old} {new = new} d paced = record {
  rounds = rounds_of d.events;
  are = are_rounds disk handler ports relays IsOne (reads_of old.manner) old d.events new paced refl (d.whole refl) d.happen;
  enough = let enough = d.enough refl in let same = count_of d.events in omega (arith, enough, same);
}
