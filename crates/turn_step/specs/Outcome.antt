-- What arrives, what is sent, and what is done.
use Rattle.std.specs.Prelude.{ℕ, Option, Some, None, option_map, List, [], ◌∷◌}
use Rattle.turn_history.specs.Prelude.{Endpoint, FiveTuple, Event, History, PlainAct}
use Rattle.turn_rules.specs.Prelude.{Decided}

-- a datagram of a client, or of a peer at a relayed port, with the transaction id of the Data indication that the
-- client may get
pub data Arrives : Type 0 where
  FromClient : (five_tuple : FiveTuple) (bytes : List ℕ) → Arrives
  FromPeer : (port : ℕ) (from : Endpoint) (bytes id : List ℕ) → Arrives

-- a datagram to a client, or from a relayed port to a peer
pub data Sent : Type 0 where
  ToClient : (five_tuple : FiveTuple) (bytes : List ℕ) → Sent
  ToPeer : (port : ℕ) (peer : Endpoint) (bytes : List ℕ) → Sent

-- an act on the allocation of a five-tuple
pub record Change : Type 0 where
  pub tuple : FiveTuple
  pub act : PlainAct

-- an act on the allocation of this five-tuple
abbrev pub change_of : FiveTuple → PlainAct → Change
change_of f a = record { tuple = f; act = a }

-- what is done about an arrival: a change of an allocation, if any, and a datagram, if any
pub record StepOutcome : Type 0 where
  pub change : Option Change
  pub sent : Option Sent

-- nothing is done, and nothing is sent
abbrev pub nothing : StepOutcome
nothing = record { change = None; sent = None }

-- a reply and an act, as they were decided for a five-tuple
abbrev pub decided_for : FiveTuple → Decided → StepOutcome
decided_for f d = record { change = option_map (change_of f) d.act; sent = option_map (Sent.ToClient f) d.reply }

-- the change as an event of a history
abbrev pub event_at : ℕ → Change → Event
event_at t c = record { moment = t; tuple = c.tuple; act = c.act }

-- what an arrival at the moment t adds to the history
abbrev pub added : ℕ → Option Change → History
added t None = []
added t (Some c) = event_at t c ∷ []
