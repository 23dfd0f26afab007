-- Bytes that pass in pieces.
use Rattle.std.proofs.Common.{◌≡◌, ◌+◌, ◌++◌, ℕ, Bool, List, take, drop, ap, sym, ◌∙◌}
use Rattle.std.proofs.lemmas.List.{append_assoc, map-append}
use Rattle.std.proofs.Math.Seq.{take-add}
use Rattle.turn_nbd.specs.Wire.{passing}

pub passing-append : (is_sent : Bool) (xs ys : List ℕ) → passing is_sent (xs ++ ys) ≡ passing is_sent xs ++ passing is_sent ys
passing-append is_sent xs ys = map-append (λ byte. (is_sent, byte)) xs ys

-- after the first of them, some more
pub pass_more : (is_sent : Bool) (old now new : List (Bool × ℕ)) (bytes : List ℕ) (done count : ℕ)
    → now ≡ old ++ passing is_sent (take done bytes) → new ≡ now ++ passing is_sent (take count (drop done bytes))
    → new ≡ old ++ passing is_sent (take (done + count) bytes)
pass_more is_sent old now new bytes done count before more =
    more
    ∙ ap (λ (passed : List (Bool × ℕ)). passed ++ passing is_sent (take count (drop done bytes))) before
    ∙ append_assoc old (passing is_sent (take done bytes)) (passing is_sent (take count (drop done bytes)))
    ∙ ap (λ (passed : List (Bool × ℕ)). old ++ passed) (sym (passing-append is_sent (take done bytes) (take count (drop done bytes))))
    ∙ ap (λ (xs : List ℕ). old ++ passing is_sent xs) (sym (take-add done count bytes))
