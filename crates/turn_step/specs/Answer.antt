-- What may be sent and done about an arrival.
use Rattle.std.specs.Prelude.{◌≡◌, ◌⊎◌, ℕ, Bool, Option, Some, None, option_map, List}
use Rattle.std.specs.Option.{option_or}
use Rattle.turn_types.specs.Prelude.{Config}
use Rattle.turn_history.specs.Prelude.{Endpoint, FiveTuple, History, table}
use Rattle.turn_codec.specs.Prelude.{Content, Datagram, Encodes}
use Rattle.turn_cred.specs.Prelude.{Keys}
use Rattle.turn_rules.specs.Prelude.{Answers, Decided}
use Rattle.turn_relay.specs.FromClient.{PeerData, SendsToPeer}
use Rattle.turn_relay.specs.FromPeer.{ClientData, IsForClient, SendsToClient, client_datagram}
use Rattle.turn_step.specs.Outcome.{Arrives, StepOutcome, Sent, change_of, decided_for}
use Rattle.turn_step.specs.Outcome.Arrives.{FromClient, FromPeer}
use Rattle.turn_step.specs.Outcome.Sent.{ToClient, ToPeer}

-- what stays the same: the configuration, the users' keys, the first and the last port of the range, and whether ports may be reserved
pub record Setting : Type 0 where
  pub config : Config
  pub keys : Keys
  -- the first and the last port of the range
  pub range : ℕ × ℕ
  -- whether ports may be reserved
  pub pairs : Bool

-- ---- A client's bytes

-- no reply, and no act
abbrev pub undecided : Decided
undecided = record { reply = None; act = None }

-- a reply to the client, if there is one
abbrev pub to_client : FiveTuple → Option (List ℕ) → Option Sent
to_client f reply = option_map (ToClient f) reply

-- data for a peer, if there is some
abbrev pub to_peer : Option PeerData → Option Sent
to_peer relayed = option_map (λ d. ToPeer d.port d.peer d.payload) relayed

-- what is decided about a message, if the bytes encode one: a reply and an act
pub record Decides (s : Setting) (h : History) (t : ℕ) (failed : Bool) (f : FiveTuple) (bytes : List ℕ) (d : Decided) : Type 0 where
  pub message : (m : Content) → Encodes bytes m → Answers s.pairs s.config s.keys s.range h t failed f (record { bytes = bytes; content = m }) d
  pub no_message : ((m : Content) → ¬ Encodes bytes m) → d ≡ undecided

-- an outcome is what is decided about a message
pub record IsDecided (s : Setting) (h : History) (t : ℕ) (failed : Bool) (f : FiveTuple) (d : Datagram) (o : StepOutcome) : Type 0 where
  pub decided : Decided
  pub answers : Answers s.pairs s.config s.keys s.range h t failed f d decided
  pub is : o ≡ decided_for f decided

-- a client's bytes are decided about as a message, or send data to a peer as a message or as channel data, or neither
pub record AnswersClient (s : Setting) (h : History) (t : ℕ) (failed : Bool) (f : FiveTuple) (bytes : List ℕ) (o : StepOutcome) : Type 0 where
  pub decided : Decided
  pub relayed : Option PeerData
  pub decides : Decides s h t failed f bytes decided
  pub sends : SendsToPeer (table h t) f bytes relayed
  -- a message is decided about, or data is sent, or neither
  pub one : (decided ≡ undecided) ⊎ (relayed ≡ None)
  pub sent : o.sent ≡ option_or (to_peer relayed) (to_client f decided.reply)
  pub change : o.change ≡ option_map (change_of f) decided.act

-- ---- A peer's bytes

-- the client's datagram, which says the data with the transaction id
pub record IsWritten (id : List ℕ) (d : ClientData) (sent : Option Sent) : Type 0 where
  pub is : sent ≡ Some (ToClient d.five_tuple (client_datagram d id))
  pub says : IsForClient (client_datagram d id) id d

-- the client's datagram, which says the data, if there is some; else nothing
abbrev pub IsWrittenIfAny : List ℕ → Option ClientData → Option Sent → Type 0
IsWrittenIfAny id None sent = sent ≡ None
IsWrittenIfAny id (Some d) sent = IsWritten id d sent

-- a peer's bytes at a relayed port send data to a client, or nothing
pub record AnswersPeer (h : History) (t port : ℕ) (from : Endpoint) (bytes id : List ℕ) (o : StepOutcome) : Type 0 where
  pub relayed : Option ClientData
  pub sends : SendsToClient (table h t) port from bytes relayed
  pub written : IsWrittenIfAny id relayed o.sent
  pub change : o.change ≡ None

-- ---- Both

-- what may be sent and done about an arrival at the moment t after a history; failed: whether the generator of ports
-- failed
abbrev pub AnswersArrival : Setting → History → ℕ → Bool → Arrives → StepOutcome → Type 0
AnswersArrival s h t failed (FromClient f bytes) o = AnswersClient s h t failed f bytes o
AnswersArrival s h t failed (FromPeer port from bytes id) o = AnswersPeer h t port from bytes id o
