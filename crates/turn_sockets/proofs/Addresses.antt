-- Addresses of sockets by their bits.
use Rattle.std.proofs.Common.{◌≡◌, ℕ, ◌<◌, ◌^◌, ap, ◌∙◌}
use Rattle.std.proofs.lemmas.Nat.{from_be_bytes-to_be_bytes_4}
use Rattle.std.specs.Int.{from_be_bytes, w32}
use Rattle.std.specs.Net.Addr.{ipv4_bits, IsIpv4OfBits}
use Rattle.std.specs.declared.net.ipv4_addr.Ipv4Addr.{Ipv4Addr}

pub bits_of : (a : Ipv4Addr) (n : ℕ) → n < 2 ^ 32 → IsIpv4OfBits a n → ipv4_bits a ≡ n
unfolding IsIpv4OfBits ipv4_bits
bits_of a n small same = ap (from_be_bytes w32) same ∙ from_be_bytes-to_be_bytes_4 n small
