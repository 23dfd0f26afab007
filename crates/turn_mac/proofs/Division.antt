-- The register, fed byte by byte, holds the remainder of the long division.
use Rattle.std.proofs.Common.{◌≡◌, ℕ, zero, suc, ◌+◌, ◌-◌, ◌*◌, ◌/◌, ◌%◌, ◌^◌, ◌<◌, Bool, true, false, not, cond, eqb, List, [], ◌∷◌, ◌++◌, length, refl, sym, ap, ◌∙◌, arith, bit_xor, map, reverse, replicate}
use Rattle.std.proofs.Math.Nat.{pow-suc}
use Rattle.std.proofs.lemmas.Bool.Decides.{nat_tests}
use Rattle.std.proofs.lemmas.Nat.{xor_comm, xor_of_32}
use lib.Bits.{xor_zero_r}
use Rattle.std.proofs.lemmas.List.{length-append, reverse-append}
use Rattle.turn_mac.specs.Crc.{bits_of, number_from, lower_terms, bool_xor, aligned_sum, remainder, message_bits, dividend, crc, byte_remainder}
use Rattle.turn_mac.specs.Register.{shift, shifts, register_after, IsBytes}
use Rattle.turn_mac.proofs.Bits.{xor_swap, xor_half, xor_odd, length-bits_of, bits_of-xor, bits_more, bool_xor_comm, aligned_sum_false, aligned_sum_twice, length-aligned_sum, zeros_plus, aligned_sum_zeros}

-- ---- on lists of bits

-- the register without its first bit, and with a zero at the end; the generator taken off
shifted : Bool → List Bool → List Bool
shifted c u = cond c (aligned_sum (u ++ false ∷ []) lower_terms) (u ++ false ∷ [])

length-shifted : (c : Bool) (u : List Bool) → length (shifted c u) ≡ suc (length u)
unfolding shifted
length-shifted true u = length-aligned_sum (u ++ false ∷ []) lower_terms ∙ (let e = length-append u (false ∷ []) in omega arith)
length-shifted false u = let e = length-append u (false ∷ []) in omega arith

-- the bits of the register after those of a message, taken one after the other
bits_after : List Bool → List Bool → List Bool
bits_after u [] = u
bits_after [] (b ∷ m) = []
bits_after (h ∷ u) (b ∷ m) = bits_after (shifted (bool_xor b h) u) m

one_step : (p u : List Bool) (c : Bool) → length u ≡ 31 → cond c (aligned_sum (aligned_sum p u) lower_terms) (aligned_sum p u) ≡ aligned_sum p (shifted c u)
unfolding shifted
one_step p u true h =
    ap (λ (q : List Bool). aligned_sum q lower_terms) (sym (aligned_sum_false p u))
    ∙ aligned_sum_twice p (u ++ false ∷ []) lower_terms (let e = length-append u (false ∷ []) in omega arith)
one_step p u false h = sym (aligned_sum_false p u)

-- long division is the register, fed bit by bit
divides : (m u : List Bool) → length u ≡ 32 → remainder (length m) (aligned_sum (m ++ replicate 32 false) u) ≡ bits_after u m
unfolding remainder bits_after
divides [] u h = zeros_plus 32 u h
divides (b ∷ m) [] h = absurd (omega arith)
divides (b ∷ m) (h ∷ u) len =
    ap (remainder (length m)) (one_step (m ++ replicate 32 false) u (bool_xor b h) (omega arith))
    ∙ divides m (shifted (bool_xor b h) u) (let e = length-shifted (bool_xor b h) u in omega arith)

-- ---- on numbers

-- the generator taken off a number
unfoldable pub next : Bool → ℕ → ℕ
next t x = cond t (bit_xor x 0xEDB88320) x

next_fits : (t : Bool) (x : ℕ) → x < 2 ^ 31 → next t x < 2 ^ 32
unfolding next
next_fits true x h = xor_of_32 x 0xEDB88320 (omega arith) (omega arith)
next_fits false x h = omega arith

pub next_xor : (t : Bool) (x y : ℕ) → next t (bit_xor x y) ≡ bit_xor (next t x) y
unfolding next
next_xor true x y = xor_swap x y 0xEDB88320
next_xor false x y = refl

pub shift_fits : (c : ℕ) → c < 2 ^ 32 → shift c < 2 ^ 32
unfolding next
shift_fits c h = next_fits (eqb (c % 2) 1) (c / 2) (omega arith)

pub shifts_fit : (n c : ℕ) → c < 2 ^ 32 → shifts n c < 2 ^ 32
unfolding shifts
shifts_fit zero c h = h
shifts_fit (suc n) c h = shifts_fit n (shift c) (shift_fits c h)

shifted_bits : (t : Bool) (x : ℕ) → x < 2 ^ 31 → shifted t (bits_of 31 x) ≡ bits_of 32 (next t x)
unfolding shifted next
shifted_bits true x h = ap (λ (u : List Bool). aligned_sum u lower_terms) (bits_more 31 x h) ∙ sym (bits_of-xor 32 x 0xEDB88320)
shifted_bits false x h = bits_more 31 x h

-- n bits of a number, fed into the register
fed : (n c y : ℕ) (m : List Bool) → c < 2 ^ 32 → y < 2 ^ n → bits_after (bits_of 32 c) (bits_of n y ++ m) ≡ bits_after (bits_of 32 (shifts n (bit_xor c y))) m
unfolding shifts bits_after next
fed zero c y m h k = let e : y ≡ 0 = omega arith in ap (λ (x : ℕ). bits_after (bits_of 32 x) m) (sym (xor_zero_r c) ∙ ap (bit_xor c) (sym e))
fed (suc n) c y m h k =
    let t = bool_xor (eqb (y % 2) 1) (eqb (c % 2) 1) in
    let t-is : t ≡ eqb (bit_xor c y % 2) 1 = bool_xor_comm (eqb (y % 2) 1) (eqb (c % 2) 1) ∙ sym (xor_odd c y) in
    let c' = next t (c / 2) in
    let step : bit_xor c' (y / 2) ≡ shift (bit_xor c y) =
    sym (next_xor t (c / 2) (y / 2)) ∙ ap (next t) (sym (xor_half c y)) ∙ ap (λ (b : Bool). next b (bit_xor c y / 2)) t-is in
    ap (λ (u : List Bool). bits_after u (bits_of n (y / 2) ++ m)) (shifted_bits t (c / 2) (omega arith))
    ∙ fed n c' (y / 2) m (next_fits t (c / 2) (omega arith)) (omega (arith, pow-suc 2 n))
    ∙ ap (λ (x : ℕ). bits_after (bits_of 32 (shifts n x)) m) step

register_bits : (bytes : List ℕ) (c : ℕ) → c < 2 ^ 32 → IsBytes bytes → bits_after (bits_of 32 c) (message_bits bytes) ≡ bits_of 32 (register_after c bytes)
unfolding register_after bits_after
register_bits [] c h fits = refl
register_bits (b ∷ bytes) c h fits =
    fed 8 c b (message_bits bytes) h (omega (arith, fits 0))
    ∙ register_bits bytes (shifts 8 (bit_xor c b)) (shifts_fit 8 (bit_xor c b) (xor_of_32 c b h (omega (arith, fits 0)))) (λ i. fits (suc i))

pub register_fits : (bytes : List ℕ) (c : ℕ) → c < 2 ^ 32 → IsBytes bytes → register_after c bytes < 2 ^ 32
unfolding register_after
register_fits [] c h fits = h
register_fits (b ∷ bytes) c h fits = register_fits bytes (shifts 8 (bit_xor c b)) (shifts_fit 8 (bit_xor c b) (xor_of_32 c b h (omega (arith, fits 0)))) (λ i. fits (suc i))

-- ---- the bits as a number again

-- the number of some bits, the lowest first
low_first : List Bool → ℕ
low_first [] = 0
low_first (b ∷ bits) = cond b 1 0 + 2 * low_first bits

number_from-append : (n : ℕ) (xs ys : List Bool) → number_from n (xs ++ ys) ≡ number_from (number_from n xs) ys
number_from-append n [] ys = refl
number_from-append n (b ∷ xs) ys = number_from-append (cond b 1 0 + 2 * n) xs ys

reversed : (bits : List Bool) → number_from 0 (reverse bits) ≡ low_first bits
unfolding low_first
reversed [] = refl
reversed (b ∷ bits) =
    ap (number_from 0) (reverse-append (b ∷ []) bits)
    ∙ number_from-append 0 (reverse bits) (b ∷ [])
    ∙ ap (λ (k : ℕ). cond b 1 0 + 2 * k) (reversed bits)

-- the bits complemented are what is missing to the max
complement : (n x : ℕ) → x < 2 ^ n → low_first (map not (bits_of n x)) + x + 1 ≡ 2 ^ n
unfolding low_first
complement zero x h = let e : x ≡ 0 = omega arith in rw e refl
complement (suc n) x h =
    let half = complement n (x / 2) (omega (arith, pow-suc 2 n)) in
    grind (arith, half, pow-suc 2 n, nat_tests)

message_size : (bytes : List ℕ) → length (message_bits bytes) ≡ 8 * length bytes
message_size [] = refl
message_size (b ∷ bytes) = let e = message_size bytes in length-append (bits_of 8 b) (message_bits bytes) ∙ omega (arith, length-bits_of 8 b)

-- CRC-32 is the register's complement
pub crc_is : (bytes : List ℕ) → IsBytes bytes → crc bytes ≡ 0xFFFF_FFFF - register_after 0xFFFF_FFFF bytes
unfolding crc
crc_is bytes fits =
    let divided : remainder (8 * length bytes) (dividend bytes) ≡ bits_of 32 (register_after 0xFFFF_FFFF bytes) =
    ap (λ (n : ℕ). remainder n (dividend bytes)) (sym (message_size bytes))
    ∙ divides (message_bits bytes) (replicate 32 true) refl
    ∙ register_bits bytes 0xFFFF_FFFF (omega arith) fits in
    let whole = complement 32 (register_after 0xFFFF_FFFF bytes) (register_fits bytes 0xFFFF_FFFF (omega arith) fits) in
    ap (λ (r : List Bool). number_from 0 (reverse (map not r))) divided
    ∙ reversed (map not (bits_of 32 (register_after 0xFFFF_FFFF bytes)))
    ∙ omega arith

-- ---- the remainder of one byte

number_of_bits : (n x : ℕ) → x < 2 ^ n → low_first (bits_of n x) ≡ x
unfolding low_first
number_of_bits zero x h = omega arith
number_of_bits (suc n) x h =
    let half = number_of_bits n (x / 2) (omega (arith, pow-suc 2 n)) in
    grind (arith, half, nat_tests)

-- the remainder of a byte is its register after eight steps
pub byte_remainder_is : (byte : ℕ) → byte < 256 → byte_remainder byte ≡ shifts 8 byte
unfolding byte_remainder bits_after
byte_remainder_is byte fits =
    let bits = bits_of 8 byte in
    let divided : remainder 8 (bits ++ replicate 32 false) ≡ bits_of 32 (shifts 8 (bit_xor 0 byte)) =
    ap (remainder 8) (sym (aligned_sum_zeros 32 (bits ++ replicate 32 false)))
    ∙ divides bits (replicate 32 false) refl
    ∙ fed 8 0 byte [] (omega arith) fits in
    let alone : bit_xor 0 byte ≡ byte = xor_comm 0 byte ∙ xor_zero_r byte in
    ap (λ (r : List Bool). number_from 0 (reverse r)) divided
    ∙ reversed (bits_of 32 (shifts 8 (bit_xor 0 byte)))
    ∙ number_of_bits 32 (shifts 8 (bit_xor 0 byte)) (shifts_fit 8 (bit_xor 0 byte) (xor_of_32 0 byte (omega arith) (omega arith)))
    ∙ ap (shifts 8) alone
