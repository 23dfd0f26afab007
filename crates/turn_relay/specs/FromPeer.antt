-- What a peer's datagram sends to a client (RFC 8656, sections 11.3 and 12.7).
use Rattle.std.specs.Prelude.{◌≡◌, ℕ, ◌+◌, true, false, nat_le, Option, Some, None, if◌then◌else◌, List, [], ◌∷◌, length}
use Rattle.std.specs.FinMap as fin
use Rattle.turn_history.specs.Prelude.{Endpoint, FiveTuple, Indication, PortIsFree, Entry, Contents}
use Rattle.turn_types.specs.Prelude.{data_method}
use Rattle.turn_codec.specs.Prelude.{xor_value, EncodesChannelData, channel_encoding, Content, Encodes, canonical, padding_size}
use Rattle.turn_codec.specs.AttributeTypes as types
use Rattle.turn_table.specs.Prelude.{IsChannelTo}
use Rattle.turn_relay.specs.FromClient.{is_permitted}
use Rattle.turn_relay.specs.Udp.{max_payload}

-- a peer's data for a client: the five-tuple that it goes to, the number of the channel that carries it, if one does,
-- the peer, and the payload
pub record ClientData : Type 0 where
  pub five_tuple : FiveTuple
  -- the number of the channel that carries it, if one does
  pub channel : Option ℕ
  pub peer : Endpoint
  pub payload : List ℕ

-- ---- The client's datagram

-- a Data indication (section 11.3)
abbrev pub data_indication : List ℕ → Endpoint → List ℕ → Content
data_indication tx peer payload = record {
  class = Indication;
  method = data_method;
  tx = tx;
  attributes = record { kind = types.xor_peer_address; value = xor_value peer } ∷ record { kind = types.payload; value = payload } ∷ [];
}

-- the bytes for a client, by the number of the channel, if there is one
abbrev pub written : Option ℕ → List ℕ → Endpoint → List ℕ → List ℕ
written None tx peer payload = canonical (data_indication tx peer payload)
written (Some number) tx peer payload = channel_encoding number payload

-- ChannelData on the channel, without padding, or a Data indication with a transaction id
unfoldable pub client_datagram : ClientData → List ℕ → List ℕ
client_datagram d tx = written d.channel tx d.peer d.payload

-- bytes that say this to a client: they are channel data, or a Data indication with the transaction id
abbrev pub Says : Option ℕ → List ℕ → List ℕ → Endpoint → List ℕ → Type 0
Says None bytes tx peer payload = Encodes bytes (data_indication tx peer payload)
Says (Some number) bytes tx peer payload = EncodesChannelData bytes number payload

-- bytes are the client's datagram of this data, with the transaction id if it is a Data indication
abbrev pub IsForClient : List ℕ → List ℕ → ClientData → Type 0
IsForClient bytes tx d = Says d.channel bytes tx d.peer d.payload

-- the size of a client's datagram with a payload of n bytes: a header of 4 bytes and the payload; or the header, XOR-PEER-ADDRESS,
-- and DATA with its padding
abbrev pub size_for_client : Option ℕ → ℕ → ℕ
size_for_client (Some number) n = 4 + n
size_for_client None n = 20 + 12 + (4 + n + padding_size n)

-- ---- What a peer's datagram becomes

-- a live allocation has the relayed port
abbrev pub HasRelayedPort : Contents → ℕ → FiveTuple → Entry → Type 0
HasRelayedPort c port f e = (fin.get c.entries f ≡ Some e) × (e.port ≡ port)

-- the channel of an allocation that is bound to a peer's address and port, where there is one
abbrev pub IsChannelFor : Entry → Endpoint → Option ℕ → Type 0
IsChannelFor e peer None = (number : ℕ) → ¬ IsChannelTo e number peer
IsChannelFor e peer (Some number) = IsChannelTo e number peer

-- data for the client, unless its datagram would be longer than UDP carries
abbrev pub relayed : FiveTuple → Option ℕ → Endpoint → List ℕ → Option ClientData
relayed f channel peer payload =
    if nat_le (size_for_client channel (length payload)) max_payload
    then Some (record { five_tuple = f; channel = channel; peer = peer; payload = payload })
    else None

-- what a datagram of a peer at a relayed port sends, where these are the live allocations: nothing, where no allocation
-- has the port, and where the peer's address has no permission; else the client gets it, over the channel that is
-- bound to the peer if one is
pub data SendsToClient (c : Contents) (port : ℕ) (peer : Endpoint) (payload : List ℕ) (o : Option ClientData) : Type 0 where
  -- no allocation has the relayed port
  NoAllocation : PortIsFree c port → o ≡ None → SendsToClient c port peer payload o
  -- the peer's address has no permission
  NoPermission : (f : FiveTuple) (e : Entry) → HasRelayedPort c port f e → is_permitted e peer ≡ false → o ≡ None → SendsToClient c port peer payload o
  -- the client gets the data
  Relayed : (f : FiveTuple) (e : Entry) (channel : Option ℕ) → HasRelayedPort c port f e → is_permitted e peer ≡ true → IsChannelFor e peer channel
      → o ≡ relayed f channel peer payload → SendsToClient c port peer payload o
