-- The register of a CRC-32 that is fed byte by byte. No contract outside this crate cites this file.
use Rattle.std.specs.Prelude.{◌<◌, slice_index, ℕ, zero, suc, ◌/◌, ◌%◌, ◌==◌, bit_xor, if◌then◌else◌, List, [], ◌∷◌}

-- one bit of zero, over the lower_terms with its bits reversed
abbrev pub shift : ℕ → ℕ
shift c = if c % 2 == 1 then bit_xor (c / 2) 0xEDB88320 else c / 2

-- n bits of zero
unfoldable pub shifts : ℕ → ℕ → ℕ
shifts zero c = c
shifts (suc n) c = shifts n (shift c)

-- the register after bytes
unfoldable pub register_after : ℕ → List ℕ → ℕ
register_after c [] = c
register_after c (b ∷ bytes) = register_after (shifts 8 (bit_xor c b)) bytes

-- each number of the list is a byte
abbrev pub IsBytes : List ℕ → Type 0
IsBytes bytes = (i : ℕ) → slice_index bytes i < 256
