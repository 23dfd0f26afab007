-- A masked address is read again.
use Rattle.std.proofs.Common.{◌≡◌, ℕ, ◌^◌, ◌<◌, List, Some, refl, arith, bit_xor}
use Rattle.std.proofs.lemmas.Nat.{xor_lt, from_be_bytes-to_be_bytes_2, from_be_bytes-to_be_bytes_4}
use lib.Bits.{xor_assoc, xor_self, xor_zero_r}
use Rattle.turn_types.specs.declared.address.Addr.TheVariants.{V4}
use Rattle.turn_types.specs.declared.address.Endpoint.{Endpoint}
use Rattle.turn_codec.specs.Prelude.{cookie, xor_value, address_of}

unmasked : (a m : ℕ) → bit_xor (bit_xor a m) m ≡ a
unmasked a m = rw (xor_assoc, xor_self, xor_zero_r) refl

pub address_again : (e : Endpoint) (tx : List ℕ) → e.ip < 2 ^ 32 → e.port < 2 ^ 16 → address_of (xor_value e) tx ≡ Some (record { ip = V4 e.ip; port = e.port })
unfolding xor_value
address_again e tx h k =
    let port = from_be_bytes-to_be_bytes_2 (bit_xor e.port 0x2112) (xor_lt 16 e.port 0x2112 k (omega arith)) in
    let ip = from_be_bytes-to_be_bytes_4 (bit_xor e.ip cookie) (xor_lt 32 e.ip cookie h (omega arith)) in
    rw (port, ip, unmasked e.port 0x2112, unmasked e.ip cookie) refl
