-- Numbers as they are written: what the readers' proofs share.
use Rattle.std.proofs.Common.{◌≡◌, ◌≢◌, ◌<◌, ◌≤◌, ◌^◌, ℕ, zero, suc, List, [], ◌∷◌, All, length, get_or, take, arith, length-take-le}
use Rattle.std.proofs.lemmas.Int.Digits.{digits_value-lt}
use Rattle.std.proofs.Math.Nat.{pow-le-pow_right}
use Rattle.std.specs.Char.{digit_value}
use Rattle.std.specs.Str.Parse.{AllDigits, digits_value}
use Rattle.turn_config.specs.Values.{IsNumberBelow}

-- a number below one bound is below each greater one
pub below_greater : (low high : ℕ) (text : List ℕ) → low ≤ high → IsNumberBelow low text → IsNumberBelow high text
below_greater low high text h n = let below = n.below in record { digits = n.digits; few = n.few; below = omega arith }

pub digit_below : (ds : List ℕ) (i d : ℕ) → AllDigits 10 ds → i < length ds → digit_value (get_or ds i d) < 10
digit_below [] i d h lt = absurd (omega arith)
digit_below (c ∷ cs) zero d h lt = h.0
digit_below (c ∷ cs) (suc i) d h lt = digit_below cs i d h.1 (omega arith)

-- nineteen digits or fewer are below 10 ^ 19
pub value_small : (text : List ℕ) (i : ℕ) → i < length text → length text ≤ 20 → AllDigits 10 (take i text)
    → digits_value 10 (take i text) < 10 ^ 19
value_small text i lt few digits =
    let len : length (take i text) ≡ i = length-take-le i text (omega arith) in
    let small : digits_value 10 (take i text) < 10 ^ length (take i text) = digits_value-lt 10 (take i text) digits in
    let ten : zero < 10 = omega arith in
    let short : length (take i text) ≤ 19 = omega arith in
    let more : 10 ^ length (take i text) ≤ 10 ^ 19 = pow-le-pow_right ten short in
    omega arith

-- a byte that is no digit stands in no number
pub number_without : (bound mark : ℕ) (text : List ℕ) → (digit_value mark < 10 → ⊥) → IsNumberBelow bound text
    → All (λ byte. byte ≢ mark) text
number_without bound mark text none n k d lt e = none (rw (← e) (digit_below text k d n.digits.1 lt))
