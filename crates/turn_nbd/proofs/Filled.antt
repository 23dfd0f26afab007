-- A buffer that is filled part by part.
use Rattle.std.proofs.Common.{◌≡◌, ◌+◌, ◌++◌, ℕ, List, length, take, ap, sym, ◌∙◌, arith}

-- after what is there up to a position, one part more
pub filled : (at next : ℕ) (old new front part value : List ℕ) → part ≡ value → at + length value ≡ next → take at old ≡ front
    → take (at + length part) new ≡ take at old ++ part → take next new ≡ front ++ value
filled at next old new front part value is reach before put =
    let size : at + length part ≡ next = omega (arith, ap length is) in
    ap (λ (n : ℕ). take n new) (sym size)
    ∙ put
    ∙ ap (λ (xs : List ℕ). xs ++ part) before
    ∙ ap (λ (xs : List ℕ). front ++ xs) is
