-- What single reads of sockets come to.
use Rattle.std.specs.Prelude.{◌≡◌, ◌⊎◌, ◌++◌, ◌∷◌, [], ℕ, Bool, true, List, None, Option, is_none, map, option_to_list}
use Rattle.turn_cred.specs.declared.handler.AuthHandler as handlers
use Rattle.turn_engine.specs.Prelude.{BesideState, HasToWait, Relays}
use Rattle.turn_ports.specs.declared.generator.RelayAddressGenerator as generators
use Rattle.turn_sockets.specs.Backlog.{BacklogState}
use Rattle.turn_sockets.specs.Fairness.{AreVisits}
use Rattle.turn_sockets.specs.Schedule.{Agenda, next_of}
use Rattle.turn_sockets.specs.Wire.{NoneLeft, Passed, ReadFailed}
use Rattle.turn_step.specs.Prelude.{Arrives, FromPeer, Sent}
use Rattle.turn_types.specs.declared.address.Endpoint.{Endpoint}
use Rattle.turn_serving.specs.Manner.{reads_of}
use Rattle.turn_serving.specs.Sending.{Addresses, PortSockets, SendsEach}
use Rattle.turn_serving.specs.Visits.{Answered, AreVisited, Fate, Flow, HasNoSocket, IsSocket, IsTaken, Kept, Lost, OfItself, Round, Rounds, Shed, Taken, Visited, flow, passed_by, visit_of}
use Rattle.turn_serving.specs.declared.error.TurnError.{TurnError}
use Rattle.turn_serving.specs.declared.manner.Manner.{Manner}
use Rattle.turn_serving.specs.declared.reader.Found.{Found}
use Rattle.turn_serving.specs.declared.reader.Found.TheVariants as found
use Rattle.turn_serving.specs.declared.reader.Reply.{Reply}
use Rattle.turn_serving.specs.declared.reader.Reply.TheVariants as reply

-- What came of an arrival that was to be answered beside what is staged: it was, and this was sent; or it has to be submitted; or there was no
-- memory for its answer, and then nothing is sent.
abbrev pub Replies : {H G : Type 0} → handlers.Ghosts H → generators.Ghosts G → PortSockets G → Addresses → BesideState H G → Arrives → Reply → List Passed → List Passed → Type 0
Replies handler ports relays here b arrival (reply.Sent is_data) before after =
    (answer : Option Sent) × (out : List Passed) × Relays handler.key_of ports.range b arrival answer
    × SendsEach relays here b.machine.ports (option_to_list answer) out × (after ≡ before ++ out)
Replies handler ports relays here b arrival reply.Waits before after = HasToWait handler.key_of ports.range b arrival × (after ≡ before)
Replies handler ports relays here b arrival (reply.Lost evidence) before after = (evidence ≡ arrival) × (after ≡ before)

-- it was answered, or is of the server itself
abbrev pub IsAnswered : Fate → Type 0
IsAnswered OfItself = Unit {0}
IsAnswered Kept = ⊥
IsAnswered Shed = ⊥
IsAnswered (Answered answer out) = Unit {0}
IsAnswered Lost = ⊥

-- it waits, or was dropped since it had to
abbrev pub IsKept : Fate → Type 0
IsKept OfItself = ⊥
IsKept Kept = Unit {0}
IsKept Shed = Unit {0}
IsKept (Answered answer out) = ⊥
IsKept Lost = ⊥

-- What a read says that came of a datagram. Who says that memory lacked has asked for an answer to this arrival.
abbrev pub Tells : Found → Arrives → Fate → Type 0
Tells (found.Answered is_data) arrival fate = IsAnswered fate
Tells found.Kept arrival fate = IsKept fate
Tells (found.Lost evidence) arrival fate = (fate ≡ Lost) × (evidence ≡ arrival)
Tells found.Failed arrival fate = ⊥
Tells found.Held arrival fate = ⊥
Tells found.Nothing arrival fate = ⊥

-- A datagram was taken, and this is said of it.
pub record Takes {H G : Type 0} (handler : handlers.Ghosts H) (ports : generators.Ghosts G) (relays : PortSockets G) (here : Addresses) (b : BesideState H G) (token : ℕ) (result : Found) (old new : Flow) : Type 0 where
  pub taken : Taken
  pub is : IsTaken handler ports relays here b token taken old.waits new.waits
  pub passed : new.passed ≡ old.passed ++ passed_by taken
  pub tells : Tells result taken.arrival taken.fate

-- What a read of the socket of a token found: a datagram; or that it failed; or that what comes there can't be answered now, so that it
-- wasn't read; or that nothing is left, or that there is no socket.
abbrev pub IsFound : {H G : Type 0} → handlers.Ghosts H → generators.Ghosts G → PortSockets G → Addresses → BesideState H G → ℕ → Found → Flow → Flow → Type 0
IsFound handler ports relays here b token found.Failed old new =
    (at : Endpoint) × IsSocket relays here b.machine.ports token at × (new ≡ flow old.waits (old.passed ++ ReadFailed at ∷ []))
IsFound handler ports relays here b token found.Held old new =
    (relays.has_socket b.machine.ports token ≡ true) × ((from : Endpoint) (bytes id : List ℕ) → HasToWait handler.key_of ports.range b (FromPeer token from bytes id)) × (new ≡ old)
IsFound handler ports relays here b token found.Nothing old new =
    ((at : Endpoint) × IsSocket relays here b.machine.ports token at × (new ≡ flow old.waits (old.passed ++ NoneLeft at ∷ [])))
    ⊎ (HasNoSocket relays here b.machine.ports token × (new ≡ old))
IsFound handler ports relays here b token (found.Answered is_data) old new = Takes handler ports relays here b token (found.Answered is_data) old new
IsFound handler ports relays here b token found.Kept old new = Takes handler ports relays here b token found.Kept old new
IsFound handler ports relays here b token (found.Lost evidence) old new = Takes handler ports relays here b token (found.Lost evidence) old new

-- Sockets were visited, each time the one that was next, to the end of a round if all went well.
pub record MakesVisits {H G : Type 0} (handler : handlers.Ghosts H) (ports : generators.Ghosts G) (relays : PortSockets G) (here : Addresses) (most : ℕ) (b : BesideState H G) (done : Bool) (listed : Agenda) (old : Flow) (lists : Agenda) (new : Flow) : Type 0 where
  pub visits : List Visited
  pub visited : AreVisited handler ports relays here b most old visits new
  pub in_order : done ≡ true → AreVisits most listed (map visit_of visits) lists
  pub is_over : done ≡ true → next_of lists ≡ None

-- ---- Beside a commit

-- What reads the sockets while a commit waits for its disk: the addresses, how turns are taken, what waits, the sockets that may have
-- datagrams, what passed so far, and the first failure of a wait for datagrams.
pub record MeanwhileState : Type 0 where
  pub addresses : Addresses
  pub manner : Manner
  pub backlog : BacklogState
  pub agenda : Agenda
  pub passed : List Passed
  pub fault : Option TurnError

-- what waits, and what has passed
abbrev pub meanwhile_flow : MeanwhileState → Flow
meanwhile_flow s = flow s.backlog s.passed

-- rounds, one after another, all to their end if all went well
abbrev pub AreRounds : {H G : Type 0} → handlers.Ghosts H → generators.Ghosts G → PortSockets G → Addresses → Manner → BesideState H G → Bool → List Round → Agenda → Flow → Agenda → Flow → Type 0
AreRounds handler ports relays here manner b done [] listed old lists new = (lists ≡ listed) × (new ≡ old)
AreRounds handler ports relays here manner b done (r ∷ rs) listed old lists new =
    (middle : Agenda) × (between : Flow) × Rounds handler ports relays here manner b r listed old middle between × (done ≡ true → r.is_whole ≡ true)
    × AreRounds handler ports relays here manner b done rs middle between lists new

-- Sockets were read in rounds beside what is staged.
pub record ReadsBeside {H G : Type 0} (handler : handlers.Ghosts H) (ports : generators.Ghosts G) (relays : PortSockets G) (b : BesideState H G) (old new : MeanwhileState) : Type 0 where
  pub addresses : new.addresses ≡ old.addresses
  pub manner : new.manner ≡ old.manner
  pub no_fault : new.fault ≡ None → old.fault ≡ None
  pub rounds : List Round
  pub are : AreRounds handler ports relays old.addresses old.manner b (is_none new.fault) rounds old.agenda (meanwhile_flow old) new.agenda (meanwhile_flow new)

-- Sockets were looked at, and read in a round, to its end if all went well.
pub record ReadsRound {H G : Type 0} (handler : handlers.Ghosts H) (ports : generators.Ghosts G) (relays : PortSockets G) (b : BesideState H G) (done : Bool) (old new : MeanwhileState) : Type 0 where
  pub addresses : new.addresses ≡ old.addresses
  pub manner : new.manner ≡ old.manner
  pub fault : new.fault ≡ old.fault
  pub round : Round
  pub is : Rounds handler ports relays old.addresses old.manner b round old.agenda (meanwhile_flow old) new.agenda (meanwhile_flow new)
  pub whole : done ≡ true → round.is_whole ≡ true
