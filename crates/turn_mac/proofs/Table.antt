-- The table's entries are the remainders of the bytes.
use Rattle.std.proofs.Common.{◌≡◌, ℕ, zero, suc, ◌+◌, ◌*◌, ◌/◌, ◌%◌, ◌^◌, ◌<◌, Bool, false, eqb, List, [], ◌∷◌, ◌++◌, length, get_or, take, refl, sym, ap, ◌∙◌, arith, bit_xor}
use Rattle.turn_mac.specs.Register.{shift, shifts, register_after}
use Rattle.turn_mac.specs.declared.crc_table.TheConstants.{REMAINDERS}
use Rattle.std.proofs.Math.Nat.{pow-suc}
use Rattle.std.proofs.lemmas.Nat.{xor_shr}
use lib.Bits.{xor_zero_r}
use Rattle.std.proofs.lemmas.List.{take_more}
use Rattle.turn_mac.specs.Crc.{byte_remainder, remainder}
use Rattle.turn_mac.proofs.Division.{byte_remainder_is, next, next_xor}
use Rattle.turn_mac.proofs.Bits.{xor_half, xor_odd, bool_xor_false, split_at_byte}

-- the remainders of n bytes from i on
remainders : ℕ → ℕ → List ℕ
remainders zero i = []
remainders (suc n) i = byte_remainder i ∷ remainders n (i + 1)

-- the whole table, computed
table : REMAINDERS ≡ remainders 256 0
unfolding remainders byte_remainder remainder
table = refl

remainders_at : (n i k : ℕ) → k < n → get_or (remainders n i) k 0 ≡ byte_remainder (i + k)
unfolding remainders
remainders_at zero i k h = absurd (omega arith)
remainders_at (suc n) i zero h = ap byte_remainder (let e : i ≡ i + 0 = omega arith in e)
remainders_at (suc n) i (suc k) h = remainders_at n (i + 1) k (omega arith) ∙ ap byte_remainder (let e : i + 1 + k ≡ i + suc k = omega arith in e)

pub table_at : (byte : ℕ) → byte < 256 → get_or REMAINDERS byte 0 ≡ byte_remainder byte
table_at byte h = ap (λ (t : List ℕ). get_or t byte 0) table ∙ remainders_at 256 0 byte h ∙ ap byte_remainder (let e : 0 + byte ≡ byte = omega arith in e)

-- ---- eight bits at once

shift_xor : (a w : ℕ) → shift (bit_xor a (2 * w)) ≡ bit_xor (shift a) w
unfolding next
shift_xor a w =
    let half : bit_xor a (2 * w) / 2 ≡ bit_xor (a / 2) w = xor_half a (2 * w) ∙ ap (bit_xor (a / 2)) (let e : 2 * w / 2 ≡ w = omega arith in e) in
    let even : eqb (2 * w % 2) 1 ≡ false = let e : 2 * w % 2 ≡ 0 = omega arith in rw e refl in
    let odd : eqb (bit_xor a (2 * w) % 2) 1 ≡ eqb (a % 2) 1 = xor_odd a (2 * w) ∙ rw even (bool_xor_false (eqb (a % 2) 1)) in
    ap (λ (t : Bool). next t (bit_xor a (2 * w) / 2)) odd ∙ ap (next (eqb (a % 2) 1)) half ∙ next_xor (eqb (a % 2) 1) (a / 2) w

shifts_xor : (n a z : ℕ) → shifts n (bit_xor a (z * 2 ^ n)) ≡ bit_xor (shifts n a) z
unfolding shifts
shifts_xor zero a z = ap (bit_xor a) (let e : z * 1 ≡ z = omega arith in e)
shifts_xor (suc n) a z =
    ap (λ (x : ℕ). shifts n (shift (bit_xor a x))) (ap (λ (k : ℕ). z * k) (pow-suc 2 n) ∙ (let e : z * (2 ^ n * 2) ≡ 2 * (z * 2 ^ n) = omega arith in e))
    ∙ ap (shifts n) (shift_xor a (z * 2 ^ n))
    ∙ shifts_xor n (shift a) z

pub eight : (x : ℕ) → shifts 8 x ≡ bit_xor (shifts 8 (x % 256)) (x / 256)
eight x = ap (shifts 8) (split_at_byte x) ∙ shifts_xor 8 (x % 256) (x / 256)

-- one byte, by the table
pub by_table : (c b : ℕ) → b < 256 → bit_xor (byte_remainder (bit_xor c b % 256)) (c / 256) ≡ shifts 8 (bit_xor c b)
by_table c b h =
    let high : bit_xor c b / 256 ≡ c / 256 = xor_shr c b 8 ∙ ap (bit_xor (c / 256)) (let e : b / 256 ≡ 0 = omega arith in e) ∙ xor_zero_r (c / 256) in
    ap (λ (x : ℕ). bit_xor x (c / 256)) (byte_remainder_is (bit_xor c b % 256) (omega arith))
    ∙ ap (bit_xor (shifts 8 (bit_xor c b % 256))) (sym high)
    ∙ sym (eight (bit_xor c b))

pub register_after-append : (c : ℕ) (xs ys : List ℕ) → register_after c (xs ++ ys) ≡ register_after (register_after c xs) ys
unfolding register_after
register_after-append c [] ys = refl
register_after-append c (b ∷ xs) ys = register_after-append (shifts 8 (bit_xor c b)) xs ys

pub register_after-one : (c b : ℕ) → register_after c (b ∷ []) ≡ shifts 8 (bit_xor c b)
unfolding register_after
register_after-one c b = refl

pub one_more : (c r : ℕ) (bytes : List ℕ) (i : ℕ) → i < length bytes → get_or bytes i 0 < 256 → r ≡ register_after c (take i bytes)
    → bit_xor (byte_remainder (bit_xor r (get_or bytes i 0) % 256)) (r / 256) ≡ register_after c (take (i + 1) bytes)
one_more c r bytes i lt fits is =
    by_table r (get_or bytes i 0) fits
    ∙ ap (λ (x : ℕ). shifts 8 (bit_xor x (get_or bytes i 0))) is
    ∙ sym (ap (register_after c) (take_more bytes i 0 lt) ∙ register_after-append c (take i bytes) (get_or bytes i 0 ∷ []) ∙ register_after-one (register_after c (take i bytes)) (get_or bytes i 0))
