-- Words of the laws: what is sent, by the events of a history.
use Rattle.std.specs.Prelude.{◌≡◌, ℕ, Option, Some, None, List, IsSomeAnd}
use Rattle.turn_history.specs.Prelude.{Endpoint, FiveTuple, History, made, IsPermitted, IsBound}
use Rattle.turn_codec.specs.AttributeTypes as types
use Rattle.turn_codec.specs.Prelude.{Content, seen_value}
use Rattle.turn_relay.specs.FromClient.{PeerData, peer_of}
use Rattle.turn_relay.specs.FromPeer.{ClientData}

-- the last Alloc of f gave this port
abbrev pub HasPort : History → FiveTuple → ℕ → Type 0
HasPort h f port = IsSomeAnd (made h f) (λ a. a.port ≡ port)

-- a message's DATA goes to the peer that it names, whose address is permitted
pub record IsSentBy (h : History) (t : ℕ) (f : FiveTuple) (m : Content) (d : PeerData) : Type 0 where
  pub port : HasPort h f d.port
  pub peer : peer_of m ≡ Some d.peer
  pub permitted : IsPermitted h t f d.peer.ip
  pub payload : seen_value m types.payload ≡ Some d.payload

-- a channel's payload goes to the peer that it is bound to
pub record IsSentOver (h : History) (t : ℕ) (f : FiveTuple) (number : ℕ) (payload : List ℕ) (d : PeerData) : Type 0 where
  pub port : HasPort h f d.port
  pub bound : IsBound h t f number d.peer
  pub same : d.payload ≡ payload

-- the channel that is bound to the peer's address and port, where there is one
abbrev pub IsTheChannel : History → ℕ → FiveTuple → Endpoint → Option ℕ → Type 0
IsTheChannel h t f peer None = (number : ℕ) → ¬ IsBound h t f number peer
IsTheChannel h t f peer (Some number) = IsBound h t f number peer

-- a peer's datagram goes to the client that the relayed port is for, where the peer's address is permitted, over the
-- channel that is bound to the peer if one is
pub record IsRelayed (h : History) (t port : ℕ) (peer : Endpoint) (payload : List ℕ) (d : ClientData) : Type 0 where
  pub at : HasPort h d.five_tuple port
  pub permitted : IsPermitted h t d.five_tuple peer.ip
  pub channel : IsTheChannel h t d.five_tuple peer d.channel
  pub from : d.peer ≡ peer
  pub same : d.payload ≡ payload
