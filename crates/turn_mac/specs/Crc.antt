-- CRC-32 (ITU-T V.42, section 8.1.1.6.2, as RFC 8489, section 14.7, takes it) as the remainder of a division of
-- polynomials over the numbers 0 and 1. A polynomial is the list of its coefficients, that of the highest power first.
use Rattle.std.specs.Prelude.{◌≡◌, ℕ, zero, suc, ◌+◌, ◌*◌, ◌/◌, ◌%◌, ◌==◌, Bool, true, false, not, if◌then◌else◌, List, [], ◌∷◌, ◌++◌, length, map, reverse, replicate, flat_map}

-- the n lowest bits of a number, the lowest first
abbrev pub bits_of : ℕ → ℕ → List Bool
bits_of zero x = []
bits_of (suc n) x = (x % 2 == 1) ∷ bits_of n (x / 2)

-- the number whose bits are those of n and then these, the highest first
abbrev pub number_from : ℕ → List Bool → ℕ
number_from n [] = n
number_from n (b ∷ bits) = number_from ((if b then 1 else 0) + 2 * n) bits

-- the coefficients of x^31 to 1 of the generator polynomial
abbrev pub lower_terms : List Bool
lower_terms = reverse (bits_of 32 0x04C11DB7)

-- x^32 and the lower terms
abbrev pub generator : List Bool
generator = true ∷ lower_terms

-- the sum of two coefficients
abbrev pub bool_xor : Bool → Bool → Bool
bool_xor true b = not b
bool_xor false b = b

-- p plus q times the power of x for which q begins where p does
abbrev pub aligned_sum : List Bool → List Bool → List Bool
aligned_sum [] q = []
aligned_sum (a ∷ p) [] = a ∷ p
aligned_sum (a ∷ p) (b ∷ q) = bool_xor a b ∷ aligned_sum p q

-- what long division leaves of a polynomial of n + 32 coefficients: the first coefficient goes away, and where it is 1
-- the generator is taken off there
unfoldable pub remainder : ℕ → List Bool → List Bool
remainder zero p = p
remainder (suc n) [] = []
remainder (suc n) (c ∷ p) = remainder n (if c then aligned_sum p lower_terms else p)

-- M: the bits of the bytes, each byte's lowest first
abbrev pub message_bits : List ℕ → List Bool
message_bits bytes = flat_map (bits_of 8) bytes

-- M * x^32 + (x^31 + .. + x + 1) * x^(8n), for n bytes
abbrev pub dividend : List ℕ → List Bool
dividend bytes = aligned_sum (message_bits bytes ++ replicate 32 false) (replicate 32 true)

-- the remainder's 32 bits, complemented and in reversed order
unfoldable pub crc : List ℕ → ℕ
crc bytes = number_from 0 (reverse (map not (remainder (8 * length bytes) (dividend bytes))))

-- the remainder of a byte's bits with 32 zeros after them, in reversed order
unfoldable pub byte_remainder : ℕ → ℕ
byte_remainder byte = number_from 0 (reverse (remainder 8 (bits_of 8 byte ++ replicate 32 false)))

-- q times the generator
abbrev pub generator_times : List Bool → List Bool
generator_times [] = replicate 32 false
generator_times (b ∷ q) = aligned_sum (false ∷ generator_times q) (if b then generator else [])

-- p is a multiple of the generator plus r, which has the 32 coefficients of x^31 to 1
pub record IsRemainder (p r : List Bool) : Type 0 where
  pub quotient : List Bool
  pub is : p ≡ aligned_sum (generator_times quotient) (replicate (length quotient) false ++ r)
  pub size : length r ≡ 32
