-- What happens in turns: one event after another, each from one state of a server that serves to the next.
use Rattle.std.specs.Prelude.{◌≡◌, ◌≢◌, ◌≤◌, ◌+◌, ◌++◌, ◌∷◌, [], ℕ, Bool, false, true, List, None, Option, Result, Ok, Err, flat_map}
use Rattle.std.specs.List.{AllByRecursion}
use Rattle.turn_cred.specs.declared.handler.AuthHandler as handlers
use Rattle.turn_disk.specs.declared.disk.Disk as disks
use Rattle.turn_engine.specs.Calls as calls
use Rattle.turn_engine.specs.Prelude.{beside, ServerState, now_of}
use Rattle.turn_engine.specs.declared.error.SubmitError.{SubmitError}
use Rattle.turn_engine.specs.declared.error.SubmitError.TheVariants.{BatchFull}
use Rattle.turn_ports.specs.declared.generator.RelayAddressGenerator as generators
use Rattle.turn_sockets.specs.Backlog.{BacklogState, if_same, waiting_of}
use Rattle.turn_sockets.specs.Schedule.{Agenda}
use Rattle.turn_sockets.specs.Wire.{Passed}
use Rattle.turn_step.specs.Prelude.{FromClient, Sent}
use Rattle.turn_store.specs.declared.error.StoreError.{StoreError}
use Rattle.turn_types.specs.declared.address.FiveTuple.{FiveTuple}
use Rattle.turn_serving.specs.Sending.{Addresses, PortSockets, SendsEach}
use Rattle.turn_serving.specs.Visits.{Flow, Round, Rounds, flow}
use Rattle.turn_serving.specs.declared.manner.Manner.{Manner}

-- What contracts see of a server that serves: the server, the datagrams of clients that wait for its commits, the sockets that may have
-- datagrams, how turns are taken, and what passed at its sockets so far.
pub record ServingState (D H G : Type 0) : Type 0 where
  pub server : ServerState D H G
  pub backlog : BacklogState
  pub agenda : Agenda
  pub manner : Manner
  pub passed : List Passed
  pub addresses : Addresses

-- what waits, and what has passed
abbrev pub flow_of : {D H G : Type 0} → ServingState D H G → Flow
flow_of s = flow s.backlog s.passed

-- Something that happens in a turn.
pub data Event (D H G : Type 0) : Type 0 where
  -- sockets are read in a round
  Reads : Round → Event D H G
  -- the table is brought to a moment
  Advances : (moment : ℕ) (after : ServerState D H G) → Event D H G
  -- a client's datagram that waited is submitted
  Submits : (moment : ℕ) (five_tuple : FiveTuple) (bytes : List ℕ) (result : Result Unit SubmitError) (after : ServerState D H G) → Event D H G
  -- a commit, and what was sent then
  Commits : (result : Result (List Sent) StoreError) (after : ServerState D H G) (out : List Passed) → Event D H G

-- what a commit hands out is sent; one that fails sends nothing
abbrev pub IsHandedOut : {G : Type 0} → PortSockets G → Addresses → G → Result (List Sent) StoreError → List Passed → Type 0
IsHandedOut relays here ports (Ok outs) out = SendsEach relays here ports outs out
IsHandedOut relays here ports (Err fault) out = out ≡ []

-- An event leads from one state to the next. Each moment is one by the clock before it, and sockets are read of a server that isn't stopped
-- while its clock is at such a moment. Nothing but what an event names passes at the sockets, and nothing else changes.
abbrev pub Happens : {D H G : Type 0} → disks.Ghosts D → handlers.Ghosts H → generators.Ghosts G → PortSockets G → (ℕ → ℕ → Type 0) → ServingState D H G → Event D H G → ServingState D H G → Type 0
Happens disk handler ports relays IsOne old (Reads round) new =
    ((round.visits ≡ [] → ⊥) → (old.server.store.stopped ≡ false) × IsOne (now_of old.server) (now_of old.server))
    × Rounds handler ports relays old.addresses old.manner (beside old.server) round old.agenda (flow_of old) new.agenda (flow_of new)
    × (new ≡ record old { backlog = new.backlog; agenda = new.agenda; passed = new.passed })
Happens disk handler ports relays IsOne old (Advances moment after) new =
    IsOne (now_of old.server) moment × calls.Advances disk ports old.server after moment × (new ≡ record old { server = after })
Happens disk handler ports relays IsOne old (Submits moment f bytes result after) new =
    IsOne (now_of old.server) moment × calls.Submits disk handler ports old.server after moment (FromClient f bytes) result
    × (result ≢ Err BatchFull) × ((g : FiveTuple) → waiting_of old.backlog g ≡ if_same f g bytes ++ waiting_of new.backlog g)
    × (new ≡ record old { server = after; backlog = new.backlog })
Happens disk handler ports relays IsOne old (Commits result after out) new =
    calls.Commits disk old.server after result × IsHandedOut relays old.addresses after.machine.ports result out
    × (new ≡ record old { server = after; passed = old.passed ++ out })

-- events, one after another, lead from one state to another
abbrev pub Happen : {D H G : Type 0} → disks.Ghosts D → handlers.Ghosts H → generators.Ghosts G → PortSockets G → (ℕ → ℕ → Type 0) → ServingState D H G → List (Event D H G) → ServingState D H G → Type 0
Happen disk handler ports relays IsOne old [] new = new ≡ old
Happen {D = D} {H = H} {G = G} disk handler ports relays IsOne old (e ∷ es) new =
    (middle : ServingState D H G) × Happens disk handler ports relays IsOne old e middle × Happen disk handler ports relays IsOne middle es new

-- how many rounds there are
abbrev pub count_rounds : {D H G : Type 0} → List (Event D H G) → ℕ
count_rounds [] = 0
count_rounds (Reads round ∷ es) = 1 + count_rounds es
count_rounds (Advances moment after ∷ es) = count_rounds es
count_rounds (Submits moment f bytes result after ∷ es) = count_rounds es
count_rounds (Commits result after out ∷ es) = count_rounds es

-- a round was made to its end
abbrev pub IsWhole : {D H G : Type 0} → Event D H G → Type 0
IsWhole (Reads round) = round.is_whole ≡ true
IsWhole (Advances moment after) = Unit {0}
IsWhole (Submits moment f bytes result after) = Unit {0}
IsWhole (Commits result after out) = Unit {0}

-- What a server that serves did, from one state to another; if it was done to its end, each round too, and there were at least so many.
pub record Does {D H G : Type 0} (disk : disks.Ghosts D) (handler : handlers.Ghosts H) (ports : generators.Ghosts G) (relays : PortSockets G) (IsOne : ℕ → ℕ → Type 0) (least : ℕ) (done : Bool) (old new : ServingState D H G) : Type 0 where
  pub events : List (Event D H G)
  pub happen : Happen disk handler ports relays IsOne old events new
  pub whole : done ≡ true → AllByRecursion IsWhole events
  pub enough : done ≡ true → least ≤ count_rounds events
