-- The messages that a client sends.
use Rattle.std.specs.Prelude.{ℕ, ◌==◌, ◌&&◌, Bool, true, false, not, if◌then◌else◌, List, [], ◌∷◌, ◌++◌, fold, replicate}
use Rattle.std.specs.List.{list_any}
use Rattle.std.specs.Int.{w16, w32, to_be_bytes}
use Rattle.turn_types.specs.declared.address.Endpoint.{Endpoint}
use Rattle.turn_types.specs.declared.message.Class.TheVariants as classes
use Rattle.turn_codec.specs.Prelude.{xor_value, Content, canonical, with_attribute}
use Rattle.turn_codec.specs.AttributeTypes as types
use Rattle.turn_mac.specs.Integrity.{integrity_of}
use Rattle.turn_requests.specs.declared.request.Attribute.{Attribute}
use Rattle.turn_requests.specs.declared.request.Attribute.TheVariants.{Lifetime, Peer, Channel, Transport, NoTransport, EvenPort, DontFragment, ReservationToken}
use Rattle.turn_requests.specs.declared.request.Request.{Request}

-- a message with an attribute more (RFC 8656, section 18)
abbrev pub with_one : Content → Attribute → Content
with_one m (Lifetime seconds) = with_attribute m types.lifetime (to_be_bytes w32 seconds)
with_one m (Peer peer) = with_attribute m types.xor_peer_address (xor_value peer)
with_one m (Channel number) = with_attribute m types.channel_number (to_be_bytes w16 number ++ 0 ∷ 0 ∷ [])
with_one m (Transport protocol) = with_attribute m types.requested_transport (protocol ∷ 0 ∷ 0 ∷ 0 ∷ [])
with_one m NoTransport = m
with_one m (EvenPort reserves) = with_attribute m types.even_port ((if reserves then 0x80 else 0) ∷ [])
with_one m DontFragment = with_attribute m 0x001A []
with_one m (ReservationToken token) = with_attribute m types.reservation_token token.0

-- an attribute says what the transport is
abbrev pub is_transport : Attribute → Bool
is_transport (Lifetime seconds) = false
is_transport (Peer peer) = false
is_transport (Channel number) = false
is_transport (Transport protocol) = true
is_transport NoTransport = true
is_transport (EvenPort reserves) = false
is_transport DontFragment = false
is_transport (ReservationToken token) = false

-- a request's method and transaction id, before its attributes
abbrev pub begun : Request → Content
begun r = record { class = classes.Request; method = r.method; tx = r.tx.0; attributes = [] }

-- an Allocate begins with a REQUESTED-TRANSPORT of UDP, 17, unless its attributes say what the transport is
abbrev pub with_transport : Request → Content
with_transport r =
    if (r.method == 0x003) && not (list_any is_transport r.attributes.now) then with_one (begun r) (Transport 17) else begun r

-- a message with what names the user of a request (RFC 8489, section 9.2): USERNAME, REALM and NONCE
abbrev pub identified : Content → Request → List ℕ → Content
identified m r nonce = with_attribute (with_attribute (with_attribute m types.username r.user.now) types.realm r.realm.now) types.nonce nonce

-- a request with its attributes and what names its user
unfoldable pub named : Request → List ℕ → Content
named r nonce = identified (fold with_one (with_transport r) r.attributes.now) r nonce

-- a message with the MESSAGE-INTEGRITY under a key at its end
unfoldable pub signed : List ℕ → Content → Content
signed key m = with_attribute m types.message_integrity (integrity_of key (canonical m))

-- a Send indication with transaction id zero: the peer, then the data (RFC 8656, section 11.1)
abbrev pub send_of : Endpoint → List ℕ → Content
send_of peer bytes = record {
  class = classes.Indication;
  method = 0x006;
  tx = replicate 12 0;
  attributes = record { kind = types.xor_peer_address; value = xor_value peer } ∷ record { kind = types.payload; value = bytes } ∷ [];
}
