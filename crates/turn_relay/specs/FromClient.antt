-- What a client's datagram sends to a peer (RFC 8656, sections 11.2 and 12.6).
use Rattle.std.specs.Prelude.{◌≡◌, ℕ, ◌==◌, ◌&&◌, Bool, true, false, not, nat_le, is_some, Option, Some, None, if◌then◌else◌, List, [], ◌∷◌, length, option_and_then}
use Rattle.std.specs.FinMap as fin
use Rattle.turn_history.specs.Prelude.{Addr, V4, V6, Endpoint, FiveTuple, PeerAddress, Class, Request, Indication, Success, Error, Entry, Contents}
use Rattle.turn_types.specs.Prelude.{send, first_row}
use Rattle.turn_codec.specs.Prelude.{address_of, EncodesChannelData, Content, Datagram, Encodes, has_unknown, seen_value}
use Rattle.turn_codec.specs.AttributeTypes as types
use Rattle.turn_mac.specs.Fingerprint.{has_wrong_fingerprint}
use Rattle.turn_relay.specs.Udp.{max_payload}

-- a datagram for a peer: the relayed port that it goes from, the peer, and the payload
pub record PeerData : Type 0 where
  -- the relayed port that it goes from
  pub port : ℕ
  pub peer : Endpoint
  pub payload : List ℕ

-- data from an allocation to a peer, unless it is longer than UDP carries
abbrev pub sent : Entry → Endpoint → List ℕ → Option PeerData
sent e peer payload = if nat_le (length payload) max_payload then Some (record { port = e.port; peer = peer; payload = payload }) else None

-- ---- Send indications (section 11.2)

-- the class is that of an indication
abbrev pub is_indication : Class → Bool
is_indication Request = false
is_indication Indication = true
is_indication Success = false
is_indication Error = false

-- a Send indication
abbrev pub is_send_indication : Content → Bool
is_send_indication m = is_indication m.class && (m.method == send)

-- the endpoint of an address, where it is one of IPv4
abbrev pub endpoint_at : ℕ → Addr → Option Endpoint
endpoint_at port (V4 ip) = Some (record { ip = ip; port = port })
endpoint_at port (V6 ip) = None

-- an address with its port, where it is one of IPv4
abbrev pub ipv4_endpoint : PeerAddress → Option Endpoint
ipv4_endpoint address = endpoint_at address.port address.ip

-- the peer that a message names: the first XOR-PEER-ADDRESS that is seen, where it is well formed and of IPv4
unfoldable pub peer_of : Content → Option Endpoint
peer_of m = option_and_then (λ value. option_and_then ipv4_endpoint (address_of value m.tx)) (seen_value m types.xor_peer_address)

-- the peer's address has a permission (section 9)
abbrev pub is_permitted : Entry → Endpoint → Bool
is_permitted e peer = is_some (fin.get e.permissions peer.ip)

-- the payload goes to the peer, if the peer's address has a permission
abbrev pub sent_to_permitted : Entry → Endpoint → List ℕ → Option PeerData
sent_to_permitted e peer payload = if is_permitted e peer then sent e peer payload else None

-- the value of the first DATA that is seen goes to the peer, if there are a live allocation, a peer and a DATA
abbrev pub sent_by_indication : Option Entry → Content → Option PeerData
sent_by_indication entry m =
    option_and_then (λ e. option_and_then (λ peer. option_and_then (sent_to_permitted e peer) (seen_value m types.payload)) (peer_of m)) entry

-- Only a Send indication sends. One with a wrong FINGERPRINT, or with a type that isn't understood, is dropped.
unfoldable pub sent_by_message : Option Entry → Datagram → Option PeerData
sent_by_message entry d = first_row (
    (not (is_send_indication d.content), None) ∷
    (has_wrong_fingerprint d, None) ∷
    (has_unknown d.content, None) ∷ []) (sent_by_indication entry d.content)

-- ---- ChannelData (section 12.6)

-- the payload goes to the peer that the number is bound to; no permission is asked for
unfoldable pub sent_by_channel_data : Option Entry → ℕ → List ℕ → Option PeerData
sent_by_channel_data entry number payload =
    option_and_then (λ e. option_and_then (λ channel. sent e channel.peer payload) (fin.get e.channels number)) entry

-- ---- Datagrams

-- what a datagram of a five-tuple sends, where these are the live allocations: it is a message, or channel data, or
-- it is dropped
pub record SendsToPeer (c : Contents) (f : FiveTuple) (bytes : List ℕ) (o : Option PeerData) : Type 0 where
  pub message : (m : Content) → Encodes bytes m → o ≡ sent_by_message (fin.get c.entries f) (record { bytes = bytes; content = m })
  pub channel_data : (number : ℕ) (payload : List ℕ) → EncodesChannelData bytes number payload → o ≡ sent_by_channel_data (fin.get c.entries f) number payload
  pub neither : ((m : Content) → ¬ Encodes bytes m) → ((number : ℕ) (payload : List ℕ) → ¬ EncodesChannelData bytes number payload) → o ≡ None
