-- What the messages of a server say (RFC 8489, section 14.8; RFC 8656, sections 18.2 to 18.5 and 18.10).
use Rattle.std.specs.Prelude.{ℕ, ◌≡◌, ◌≢◌, ◌==◌, ◌+◌, ◌*◌, nat_le, if◌then◌else◌, Option, Some, None, option_map, option_and_then, List, length, slice_index}
use Rattle.std.specs.Int.{w32, from_be_bytes}
use Rattle.turn_types.specs.declared.address.Addr.{Addr}
use Rattle.turn_types.specs.declared.address.Addr.TheVariants.{V4, V6}
use Rattle.turn_types.specs.declared.address.Endpoint.{Endpoint}
use Rattle.turn_types.specs.declared.address.PeerAddress.{PeerAddress}
use Rattle.turn_types.specs.declared.message.Class.TheVariants as classes
use Rattle.turn_types.specs.declared.message.Token.{Token}
use Rattle.turn_codec.specs.Prelude.{address_of, error_code, lifetime, payload, reservation_token, xor_peer_address, xor_relayed_address, Content, value_of}
use Rattle.turn_requests.specs.declared.received.ServerMessage.{ServerMessage}
use Rattle.turn_requests.specs.declared.received.ServerMessage.TheVariants.{Allocated, Refreshed, Success, Error, Data}

-- an address with a port, where it is one of IPv4
abbrev pub ipv4_with : Addr → ℕ → Option Endpoint
ipv4_with (V4 ip) port = Some (record { ip = ip; port = port })
ipv4_with (V6 ip) port = None

-- an address with its port, where it is IPv4
abbrev pub ipv4_of : PeerAddress → Option Endpoint
ipv4_of address = ipv4_with address.ip address.port

-- the IPv4 address in the first attribute of a type
unfoldable pub address_in : ℕ → Content → Option Endpoint
address_in kind m = option_and_then ipv4_of (option_and_then (λ value. address_of value m.tx) (value_of kind m.attributes))

-- the number in a value of four bytes
abbrev pub seconds_of : Option (List ℕ) → Option ℕ
seconds_of None = None
seconds_of (Some value) = if length value == 4 then Some (from_be_bytes w32 value) else None

-- the seconds in LIFETIME, four bytes
unfoldable pub lifetime_in : Content → Option ℕ
lifetime_in m = seconds_of (value_of lifetime m.attributes)

-- the token in a value of eight bytes
abbrev pub token_of : Option (List ℕ) → Option Token
token_of None = None
token_of (Some value) = if length value == 8 then Some (record { 0 = value }) else None

-- the token in RESERVATION-TOKEN, eight bytes
unfoldable pub token_in : Content → Option Token
token_in m = token_of (value_of reservation_token m.attributes)

-- the code in a value of at least four bytes: its hundreds in the third, the rest in the fourth
abbrev pub code_of : Option (List ℕ) → Option ℕ
code_of None = None
code_of (Some value) = if nat_le 4 (length value) then Some (slice_index value 2 * 100 + slice_index value 3) else None

-- the code in ERROR-CODE: its hundreds in the third byte, the rest in the fourth
unfoldable pub code_in : Content → Option ℕ
code_in m = code_of (value_of error_code m.attributes)

-- what a message says, by its class and its method
abbrev pub Says : Content → ServerMessage → Type 0
Says m (Allocated port life token) = (m.class ≡ classes.Success) × (m.method ≡ 0x003)
    × (option_map (λ e. e.port) (address_in xor_relayed_address m) ≡ Some port) × (lifetime_in m ≡ Some life)
    × (token ≡ token_in m)
Says m (Refreshed life) = (m.class ≡ classes.Success) × (m.method ≡ 0x004) × (lifetime_in m ≡ Some life)
Says m Success = (m.class ≡ classes.Success) × (m.method ≢ 0x003) × (m.method ≢ 0x004)
Says m (Error code) = (m.class ≡ classes.Error) × (code_in m ≡ Some code)
Says m (Data peer bytes) = (m.class ≡ classes.Indication) × (address_in xor_peer_address m ≡ Some peer)
    × (value_of payload m.attributes ≡ Some bytes.now)
