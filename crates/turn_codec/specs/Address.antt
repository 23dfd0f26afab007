-- Addresses that are masked by the cookie (RFC 8489, section 14.2; RFC 8656, section 18.3).
use Rattle.std.specs.Prelude.{ℕ, ◌==◌, ◌&&◌, bit_xor, Option, Some, None, if◌then◌else◌, List, ◌∷◌, ◌++◌, length, take, drop, slice_index}
use Rattle.std.specs.Int.{w16, w32, w128, to_be_bytes, from_be_bytes}
use Rattle.turn_types.specs.declared.address.Addr.TheVariants.{V4, V6}
use Rattle.turn_types.specs.declared.address.Endpoint.{Endpoint}
use Rattle.turn_types.specs.declared.address.PeerAddress.{PeerAddress}
use Rattle.turn_codec.specs.Grammar.{cookie}

-- a port is masked by the cookie's first two bytes
abbrev pub port_mask : ℕ
port_mask = 0x2112

-- the value of an IPv4 address: zero, family 1, the port and the address masked
unfoldable pub xor_value : Endpoint → List ℕ
xor_value e = 0 ∷ 1 ∷ to_be_bytes w16 (bit_xor e.port port_mask) ++ to_be_bytes w32 (bit_xor e.ip cookie)

-- the address that a value names, by its length and family; the first byte is ignored, and an IPv6 address is
-- masked by the cookie followed by the transaction id
abbrev pub address_of : List ℕ → List ℕ → Option PeerAddress
address_of value tx =
    let port = bit_xor (from_be_bytes w16 (take 2 (drop 2 value))) port_mask in
    if (length value == 8) && (slice_index value 1 == 1)
    then Some (record { ip = V4 (bit_xor (from_be_bytes w32 (take 4 (drop 4 value))) cookie); port = port })
    else if (length value == 20) && (slice_index value 1 == 2)
    then Some (record { ip = V6 (bit_xor (from_be_bytes w128 (take 16 (drop 4 value))) (from_be_bytes w128 (to_be_bytes w32 cookie ++ tx))); port = port })
    else None
