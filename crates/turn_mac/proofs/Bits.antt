-- Exclusive or, on numbers and on lists of bits.
use Rattle.std.proofs.Common.{◌≡◌, ℕ, zero, suc, ◌+◌, ◌*◌, ◌/◌, ◌%◌, ◌^◌, ◌<◌, Bool, true, false, eqb, List, [], ◌∷◌, ◌++◌, length, refl, sym, ap, ◌∙◌, arith, bit_xor, replicate}
use Rattle.std.proofs.Math.Nat.{pow-suc}
use Rattle.std.proofs.lemmas.Bool.Decides.{nat_tests}
use Rattle.std.proofs.lemmas.Nat.{xor_block, xor_comm, xor_shr}
use lib.Bits.{xor_add_and, xor_assoc, xor_zero_r}
use Rattle.turn_mac.specs.Crc.{bits_of, bool_xor, aligned_sum}

-- a and c change places
pub xor_swap : (a b c : ℕ) → bit_xor (bit_xor a b) c ≡ bit_xor (bit_xor a c) b
xor_swap a b c = xor_assoc a b c ∙ ap (bit_xor a) (xor_comm b c) ∙ sym (xor_assoc a c b)

pub xor_half : (a b : ℕ) → bit_xor a b / 2 ≡ bit_xor (a / 2) (b / 2)
xor_half a b = xor_shr a b 1

odd_sum : (x a b : ℕ) → x ≡ (a + b) % 2 → eqb x 1 ≡ bool_xor (eqb (a % 2) 1) (eqb (b % 2) 1)
odd_sum x a b e = grind (arith, nat_tests)

pub xor_odd : (a b : ℕ) → eqb (bit_xor a b % 2) 1 ≡ bool_xor (eqb (a % 2) 1) (eqb (b % 2) 1)
xor_odd a b = odd_sum (bit_xor a b % 2) a b (let both = xor_add_and a b in omega arith)

-- the two parts of a number
pub split_at_byte : (x : ℕ) → x ≡ bit_xor (x % 256) (x / 256 * 2 ^ 8)
split_at_byte x =
    let parts = xor_block 8 0 (x / 256) (x % 256) 0 (omega arith) (omega arith) in
    let low = xor_zero_r (x % 256) in
    let high = xor_comm 0 (x / 256) ∙ xor_zero_r (x / 256) in
    let front : 0 * 2 ^ 8 + x % 256 ≡ x % 256 = omega arith in
    let back : x / 256 * 2 ^ 8 + 0 ≡ x / 256 * 2 ^ 8 = omega arith in
    let both = ap (λ (k : ℕ). bit_xor k (x / 256 * 2 ^ 8 + 0)) front ∙ ap (bit_xor (x % 256)) back in
    omega arith

-- ---- lists of bits

pub length-bits_of : (n x : ℕ) → length (bits_of n x) ≡ n
length-bits_of zero x = refl
length-bits_of (suc n) x = ap suc (length-bits_of n (x / 2))

pub bits_of-xor : (n x y : ℕ) → bits_of n (bit_xor x y) ≡ aligned_sum (bits_of n x) (bits_of n y)
bits_of-xor zero x y = refl
bits_of-xor (suc n) x y =
    ap (λ (b : Bool). b ∷ bits_of n (bit_xor x y / 2)) (xor_odd x y)
    ∙ ap (λ (bits : List Bool). bool_xor (eqb (x % 2) 1) (eqb (y % 2) 1) ∷ bits) (ap (bits_of n) (xor_half x y) ∙ bits_of-xor n (x / 2) (y / 2))

pub bits_more : (n x : ℕ) → x < 2 ^ n → bits_of n x ++ false ∷ [] ≡ bits_of (suc n) x
bits_more zero x h = let e : x ≡ 0 = omega arith in rw e refl
bits_more (suc n) x h = ap (λ (bits : List Bool). eqb (x % 2) 1 ∷ bits) (bits_more n (x / 2) (omega (arith, pow-suc 2 n)))

-- ---- sums of polynomials

pub bool_xor_false : (a : Bool) → bool_xor a false ≡ a
bool_xor_false true = refl
bool_xor_false false = refl

bool_xor_assoc : (a b c : Bool) → bool_xor (bool_xor a b) c ≡ bool_xor a (bool_xor b c)
bool_xor_assoc a b c = grind arith

pub bool_xor_comm : (a b : Bool) → bool_xor a b ≡ bool_xor b a
bool_xor_comm a b = grind arith

pub aligned_sum_nil : (p : List Bool) → aligned_sum p [] ≡ p
aligned_sum_nil [] = refl
aligned_sum_nil (a ∷ p) = refl

pub aligned_sum_false : (p u : List Bool) → aligned_sum p (u ++ false ∷ []) ≡ aligned_sum p u
aligned_sum_false [] u = refl
aligned_sum_false (a ∷ p) [] = ap (λ (b : Bool). b ∷ aligned_sum p []) (bool_xor_false a) ∙ ap (λ (q : List Bool). a ∷ q) (aligned_sum_nil p)
aligned_sum_false (a ∷ p) (b ∷ u) = ap (λ (q : List Bool). bool_xor a b ∷ q) (aligned_sum_false p u)

pub aligned_sum_twice : (p u g : List Bool) → length u ≡ length g → aligned_sum (aligned_sum p u) g ≡ aligned_sum p (aligned_sum u g)
aligned_sum_twice [] u g h = refl
aligned_sum_twice (a ∷ p) [] [] h = refl
aligned_sum_twice (a ∷ p) [] (c ∷ g) h = absurd (omega arith)
aligned_sum_twice (a ∷ p) (b ∷ u) [] h = absurd (omega arith)
aligned_sum_twice (a ∷ p) (b ∷ u) (c ∷ g) h = ap (λ (d : Bool). d ∷ aligned_sum (aligned_sum p u) g) (bool_xor_assoc a b c) ∙ ap (λ (q : List Bool). bool_xor a (bool_xor b c) ∷ q) (aligned_sum_twice p u g (omega arith))

pub length-aligned_sum : (p u : List Bool) → length (aligned_sum p u) ≡ length p
length-aligned_sum [] u = refl
length-aligned_sum (a ∷ p) [] = refl
length-aligned_sum (a ∷ p) (b ∷ u) = ap suc (length-aligned_sum p u)

pub zeros_plus : (n : ℕ) (u : List Bool) → length u ≡ n → aligned_sum (replicate n false) u ≡ u
zeros_plus zero [] h = refl
zeros_plus zero (b ∷ u) h = absurd (omega arith)
zeros_plus (suc n) [] h = absurd (omega arith)
zeros_plus (suc n) (b ∷ u) h = ap (λ (q : List Bool). b ∷ q) (zeros_plus n u (omega arith))

pub aligned_sum_zeros : (n : ℕ) (p : List Bool) → aligned_sum p (replicate n false) ≡ p
aligned_sum_zeros zero p = aligned_sum_nil p
aligned_sum_zeros (suc n) [] = refl
aligned_sum_zeros (suc n) (a ∷ p) = ap (λ (b : Bool). b ∷ aligned_sum p (replicate n false)) (bool_xor_false a) ∙ ap (λ (q : List Bool). a ∷ q) (aligned_sum_zeros n p)
