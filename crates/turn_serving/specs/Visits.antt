-- What comes of the datagrams that sockets receive.
use Rattle.std.specs.Prelude.{◌≡◌, ◌≢◌, ◌≤◌, ◌⊎◌, ◌-◌, ◌++◌, ◌∷◌, [], ℕ, Bool, false, true, if◌then◌else◌, nat_lt, List, None, Option, Some, flat_map, length, map, option_to_list, slice_get}
use Rattle.turn_cred.specs.declared.handler.AuthHandler as handlers
use Rattle.turn_engine.specs.Prelude.{BesideState, HasToWait, Relays}
use Rattle.turn_ports.specs.declared.generator.RelayAddressGenerator as generators
use Rattle.turn_sockets.specs.Backlog.{BacklogState, if_same, waiting_of}
use Rattle.turn_sockets.specs.Fairness as fairness
use Rattle.turn_sockets.specs.Fairness.{AreVisits, Visit}
use Rattle.turn_sockets.specs.Own.{IsRelay, come_from}
use Rattle.turn_sockets.specs.Schedule.{Agenda, begun, begun_for_each, is_relay, next_of, with_all_ready}
use Rattle.turn_sockets.specs.Wire.{NoneLeft, Passed, ReadFailed}
use Rattle.turn_sockets.specs.Wire.{Received as received}
use Rattle.turn_step.specs.Prelude.{Arrives, FromClient, FromPeer, Sent}
use Rattle.turn_types.specs.declared.address.Endpoint.{Endpoint}
use Rattle.turn_types.specs.declared.address.FiveTuple.{FiveTuple}
use Rattle.turn_serving.specs.Manner.{reads_of}
use Rattle.turn_serving.specs.Sending.{Addresses, PortSockets, SendsEach}
use Rattle.turn_serving.specs.declared.manner.Commits.{Commits}
use Rattle.turn_serving.specs.declared.manner.Commits.TheVariants.{EachTurn, Paced}
use Rattle.turn_serving.specs.declared.manner.Manner.{Manner}

-- The datagrams of clients that wait for a commit, and what passed at the sockets so far.
pub record Flow : Type 0 where
  pub waits : BacklogState
  pub passed : List Passed

-- what waits, and what has passed
abbrev pub flow : BacklogState → List Passed → Flow
flow waits passed = record { waits = waits; passed = passed }

-- ---- Sockets

-- the address of the listening socket of a token, if there is one
abbrev pub listening_at : List Endpoint → ℕ → Option Endpoint
listening_at addresses token = if nat_lt token 65536 then None else slice_get addresses (token - 65536)

-- The socket of a token is bound at this address: a listening one, or that of a relay port.
abbrev pub IsSocket : {G : Type 0} → PortSockets G → Addresses → G → ℕ → Endpoint → Type 0
IsSocket relays here ports token at =
    (listening_at here.sockets token ≡ Some at)
    ⊎ ((relays.has_socket ports token ≡ true) × (at ≡ record { ip = relays.bound ports; port = token }))

-- there is no socket of this token
abbrev pub HasNoSocket : {G : Type 0} → PortSockets G → Addresses → G → ℕ → Type 0
HasNoSocket relays here ports token =
    ((is_relay token ≡ true) × (relays.has_socket ports token ≡ false)) ⊎ ((is_relay token ≡ false) × (listening_at here.sockets token ≡ None))

-- ---- One datagram

-- What came of a datagram that a socket received.
pub data Fate : Type 0 where
  -- it is of a relay port of this server itself, and lost
  OfItself : Fate
  -- it waits for a commit
  Kept : Fate
  -- it had to wait, and was dropped
  Shed : Fate
  -- it was answered beside what is staged, and this was sent of the answer
  Answered : (answer : Option Sent) (out : List Passed) → Fate
  -- there was no memory for the answer
  Lost : Fate

-- A datagram that a socket received: the address of the socket, who sent it, its bytes, the arrival that it is, and what came of it.
pub record Taken : Type 0 where
  pub at : Endpoint
  pub from : Endpoint
  pub bytes : List ℕ
  pub arrival : Arrives
  pub fate : Fate

-- what was sent of an answer
abbrev pub sent_by : Fate → List Passed
sent_by OfItself = []
sent_by Kept = []
sent_by Shed = []
sent_by (Answered answer out) = out
sent_by Lost = []

-- what passed at the sockets by a datagram
abbrev pub passed_by : Taken → List Passed
passed_by t = received t.at t.from t.bytes ∷ sent_by t.fate

-- The arrival of a datagram at the socket of a token: that of a client, with the five-tuple of its sender and of the listening socket, or
-- that of a peer, by the relay port of the socket, from its sender in the addresses that clients are told.
abbrev pub IsArrival : {G : Type 0} → PortSockets G → Addresses → G → ℕ → Endpoint → Endpoint → List ℕ → Arrives → Type 0
IsArrival relays here ports token at from bytes (FromClient f got) =
    (listening_at here.sockets token ≡ Some at) × (f ≡ record { client = from; server = at }) × (got ≡ bytes)
IsArrival relays here ports token at from bytes (FromPeer port peer got id) =
    (relays.has_socket ports token ≡ true) × (at ≡ record { ip = relays.bound ports; port = token })
    × (port ≡ token) × (peer ≡ come_from here.own from) × (got ≡ bytes)

-- a client's datagram had to wait: one of its five-tuple waits, or it has to be submitted
abbrev pub HadToWait : {H G : Type 0} → handlers.Ghosts H → generators.Ghosts G → BesideState H G → BacklogState → Arrives → Type 0
HadToWait handler ports b waits (FromClient f bytes) = (waiting_of waits f ≢ []) ⊎ HasToWait handler.key_of ports.range b (FromClient f bytes)
HadToWait handler ports b waits (FromPeer port from bytes id) = ⊥

-- a client's datagram comes after what waits of its five-tuple
abbrev pub Adds : Arrives → BacklogState → BacklogState → Type 0
Adds (FromClient f bytes) old new = (g : FiveTuple) → waiting_of new g ≡ waiting_of old g ++ if_same f g bytes
Adds (FromPeer port from bytes id) old new = ⊥

-- nothing of its five-tuple waits, if it is a client's
abbrev pub IsFirst : BacklogState → Arrives → Type 0
IsFirst waits (FromClient f bytes) = waiting_of waits f ≡ []
IsFirst waits (FromPeer port from bytes id) = Unit {0}

-- it is a client's, from a relay port of this server itself
abbrev pub IsOfItself : Addresses → Endpoint → Arrives → Type 0
IsOfItself here from (FromClient f bytes) = IsRelay here.own from
IsOfItself here from (FromPeer port peer bytes id) = ⊥

-- What may come of a datagram while this is staged, and of what waits. It is answered if nothing of its five-tuple waits and it needs no
-- submit, and then the answer is sent at once. Only a client's may wait, or be shed, and only if it has to wait.
abbrev pub Befalls : {H G : Type 0} → handlers.Ghosts H → generators.Ghosts G → PortSockets G → Addresses → BesideState H G → BacklogState → Endpoint → Arrives → Fate → BacklogState → Type 0
Befalls handler ports relays here b old from arrival OfItself new = IsOfItself here from arrival × (new ≡ old)
Befalls handler ports relays here b old from arrival Kept new = HadToWait handler ports b old arrival × Adds arrival old new
Befalls handler ports relays here b old from arrival Shed new = HadToWait handler ports b old arrival × (new ≡ old)
Befalls handler ports relays here b old from arrival (Answered answer out) new =
    IsFirst old arrival × Relays handler.key_of ports.range b arrival answer
    × SendsEach relays here b.machine.ports (option_to_list answer) out × (new ≡ old)
Befalls handler ports relays here b old from arrival Lost new = IsFirst old arrival × (new ≡ old)

-- a datagram was taken of the socket of a token
pub record IsTaken {H G : Type 0} (handler : handlers.Ghosts H) (ports : generators.Ghosts G) (relays : PortSockets G) (here : Addresses) (b : BesideState H G) (token : ℕ) (t : Taken) (old new : BacklogState) : Type 0 where
  pub arrives : IsArrival relays here b.machine.ports token t.at t.from t.bytes t.arrival
  pub befalls : Befalls handler ports relays here b old t.from t.arrival t.fate new

-- datagrams were, one after another
abbrev pub AreTaken : {H G : Type 0} → handlers.Ghosts H → generators.Ghosts G → PortSockets G → Addresses → BesideState H G → ℕ → BacklogState → List Taken → BacklogState → Type 0
AreTaken handler ports relays here b token old [] new = new ≡ old
AreTaken handler ports relays here b token old (t ∷ ts) new =
    (middle : BacklogState) × IsTaken handler ports relays here b token t old middle × AreTaken handler ports relays here b token middle ts new

-- ---- One visit

-- How a visit of a socket ends.
pub data Ending : Type 0 where
  -- a read found that nothing is left
  Empty : (at : Endpoint) → Ending
  -- there is no socket of the token
  Gone : Ending
  -- a read failed
  Failed : (at : Endpoint) → Ending
  -- what comes there can't be answered now, so it isn't read
  Held : Ending
  -- it read as many datagrams as a visit may read
  Full : Ending

-- what passed at the socket at the end of a visit
abbrev pub noted_at : Ending → List Passed
noted_at (Empty at) = NoneLeft at ∷ []
noted_at Gone = []
noted_at (Failed at) = ReadFailed at ∷ []
noted_at Held = []
noted_at Full = []

-- how the visit ended, as the order of visits has it
abbrev pub ended_of : Ending → fairness.Ending
ended_of (Empty at) = fairness.Empty
ended_of Gone = fairness.Empty
ended_of (Failed at) = fairness.Failed
ended_of Held = fairness.Failed
ended_of Full = fairness.Full

-- A visit of the socket of a token: the datagrams that were taken, and how it ended.
pub record Visited : Type 0 where
  pub token : ℕ
  pub taken : List Taken
  pub ending : Ending

-- what passed at the sockets by a visit
abbrev pub passed_at : Visited → List Passed
passed_at v = flat_map passed_by v.taken ++ noted_at v.ending

-- whether the socket may have more after a visit
abbrev pub has_more : Visited → Bool
has_more v = fairness.may_have_more (ended_of v.ending)

-- the visit, as the order of visits has it
abbrev pub visit_of : Visited → Visit
visit_of v = record { token = v.token; reads = length v.taken; ended = ended_of v.ending }

-- whether a visit of at most so many datagrams may end so, after these
abbrev pub EndsSo : {H G : Type 0} → handlers.Ghosts H → generators.Ghosts G → PortSockets G → Addresses → BesideState H G → ℕ → ℕ → ℕ → Ending → Type 0
EndsSo handler ports relays here b most token count (Empty at) = IsSocket relays here b.machine.ports token at
EndsSo handler ports relays here b most token count Gone = HasNoSocket relays here b.machine.ports token
EndsSo handler ports relays here b most token count (Failed at) = IsSocket relays here b.machine.ports token at
EndsSo handler ports relays here b most token count Held =
    (relays.has_socket b.machine.ports token ≡ true) × ((from : Endpoint) (bytes id : List ℕ) → HasToWait handler.key_of ports.range b (FromPeer token from bytes id))
EndsSo handler ports relays here b most token count Full = count ≡ most

-- a visit was made, of at most so many datagrams
pub record IsVisited {H G : Type 0} (handler : handlers.Ghosts H) (ports : generators.Ghosts G) (relays : PortSockets G) (here : Addresses) (b : BesideState H G) (most : ℕ) (v : Visited) (old new : Flow) : Type 0 where
  pub taken : AreTaken handler ports relays here b v.token old.waits v.taken new.waits
  pub few : length v.taken ≤ most
  pub ends : EndsSo handler ports relays here b most v.token (length v.taken) v.ending
  pub passed : new.passed ≡ old.passed ++ passed_at v

-- visits were, one after another
abbrev pub AreVisited : {H G : Type 0} → handlers.Ghosts H → generators.Ghosts G → PortSockets G → Addresses → BesideState H G → ℕ → Flow → List Visited → Flow → Type 0
AreVisited handler ports relays here b most old [] new = new ≡ old
AreVisited handler ports relays here b most old (v ∷ vs) new =
    (middle : Flow) × IsVisited handler ports relays here b most v old middle × AreVisited handler ports relays here b most middle vs new

-- ---- One round

-- how a round begins
abbrev pub begun_by : Commits → Agenda → Agenda
begun_by EachTurn a = begun_for_each a
begun_by Paced a = begun a

-- A round: the sockets that became ready before it, its visits, and whether it was made to its end.
pub record Round : Type 0 where
  pub ready : List ℕ
  pub visits : List Visited
  pub is_whole : Bool

-- Sockets were read in a round, while this is staged, each time the one that was next. One that failed before its end says nothing of
-- what is listed then.
pub record Rounds {H G : Type 0} (handler : handlers.Ghosts H) (ports : generators.Ghosts G) (relays : PortSockets G) (here : Addresses) (manner : Manner) (b : BesideState H G) (r : Round) (listed : Agenda) (old : Flow) (lists : Agenda) (new : Flow) : Type 0 where
  pub visited : AreVisited handler ports relays here b (reads_of manner) old r.visits new
  pub in_order : r.is_whole ≡ true → AreVisits (reads_of manner) (begun_by manner.commits (with_all_ready listed r.ready)) (map visit_of r.visits) lists
  pub is_over : r.is_whole ≡ true → next_of lists ≡ None
