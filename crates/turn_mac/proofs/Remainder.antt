-- The result of long division is a remainder.
use Rattle.std.proofs.Common.{◌≡◌, ℕ, zero, suc, ◌+◌, ◌-◌, Bool, true, false, List, [], ◌∷◌, ◌++◌, length, refl, sym, ap, ◌∙◌, arith, replicate}
use Rattle.turn_mac.specs.Crc.{lower_terms, generator, bool_xor, aligned_sum, remainder, generator_times, IsRemainder}
use Rattle.turn_mac.proofs.Bits.{length-aligned_sum, zeros_plus}

bool_xor_swap : (a b c : Bool) → bool_xor (bool_xor a b) c ≡ bool_xor (bool_xor a c) b
bool_xor_swap a b c = grind arith

bool_xor_twice : (a b : Bool) → bool_xor (bool_xor a b) b ≡ a
bool_xor_twice a b = grind arith

plus_swap : (p u v : List Bool) → aligned_sum (aligned_sum p u) v ≡ aligned_sum (aligned_sum p v) u
plus_swap [] u v = refl
plus_swap (a ∷ p) [] [] = refl
plus_swap (a ∷ p) [] (c ∷ v) = refl
plus_swap (a ∷ p) (b ∷ u) [] = refl
plus_swap (a ∷ p) (b ∷ u) (c ∷ v) = ap (λ (d : Bool). d ∷ aligned_sum (aligned_sum p u) v) (bool_xor_swap a b c) ∙ ap (λ (q : List Bool). bool_xor (bool_xor a c) b ∷ q) (plus_swap p u v)

plus_twice : (p u : List Bool) → aligned_sum (aligned_sum p u) u ≡ p
plus_twice [] u = refl
plus_twice (a ∷ p) [] = refl
plus_twice (a ∷ p) (b ∷ u) = ap (λ (d : Bool). d ∷ aligned_sum (aligned_sum p u) u) (bool_xor_twice a b) ∙ ap (λ (q : List Bool). a ∷ q) (plus_twice p u)

pub is_remainder : (n : ℕ) (p : List Bool) → length p ≡ n + 32 → IsRemainder p (remainder n p)
unfolding remainder
is_remainder zero p size = record {
  quotient = [];
  is = sym (zeros_plus 32 p (omega arith));
  size = omega arith;
}
is_remainder (suc n) [] size = absurd (omega arith)
is_remainder (suc n) (false ∷ p) size =
    let k = is_remainder n p (omega arith) in
    record {
      quotient = false ∷ k.quotient;
      is = ap (λ (q : List Bool). false ∷ q) k.is;
      size = k.size;
    }
is_remainder (suc n) (true ∷ p) size =
    let k = is_remainder n (aligned_sum p lower_terms) (length-aligned_sum p lower_terms ∙ (let e : length p ≡ n + 32 = omega arith in e)) in
    let rest = replicate (length k.quotient) false ++ remainder n (aligned_sum p lower_terms) in
    record {
      quotient = true ∷ k.quotient;
      is = ap (λ (q : List Bool). true ∷ q) (sym (plus_twice p lower_terms) ∙ ap (λ (q : List Bool). aligned_sum q lower_terms) k.is ∙ plus_swap (generator_times k.quotient) rest lower_terms);
      size = k.size;
    }

unique : (q p r : List Bool) → length r ≡ 32 → p ≡ aligned_sum (generator_times q) (replicate (length q) false ++ r) → remainder (length q) p ≡ r
unfolding remainder
unique [] p r size e = e ∙ zeros_plus 32 r size
unique (false ∷ q) p r size e =
    ap (remainder (suc (length q))) e ∙ unique q (aligned_sum (generator_times q) (replicate (length q) false ++ r)) r size refl
unique (true ∷ q) p r size e =
    let rest = replicate (length q) false ++ r in
    ap (remainder (suc (length q))) e
    ∙ ap (remainder (length q)) (plus_swap (aligned_sum (generator_times q) lower_terms) rest lower_terms ∙ ap (λ (t : List Bool). aligned_sum t rest) (plus_twice (generator_times q) lower_terms))
    ∙ unique q (aligned_sum (generator_times q) rest) r size refl

length-generator_times : (q : List Bool) → length (generator_times q) ≡ length q + 32
length-generator_times [] = refl
length-generator_times (true ∷ q) = length-aligned_sum (false ∷ generator_times q) (generator) ∙ (let e = length-generator_times q in omega arith)
length-generator_times (false ∷ q) = let e = length-generator_times q in omega arith

pub only_remainder : (p r : List Bool) → IsRemainder p r → remainder (length p - 32) p ≡ r
only_remainder p r h =
    let size : length p ≡ length h.quotient + 32 = ap length h.is ∙ length-aligned_sum (generator_times h.quotient) (replicate (length h.quotient) false ++ r) ∙ length-generator_times h.quotient in
    ap (λ (n : ℕ). remainder n p) (let e : length p - 32 ≡ length h.quotient = omega arith in e) ∙ unique h.quotient p r h.size h.is
