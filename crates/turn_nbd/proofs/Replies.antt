-- A reply from its parts.
use Rattle.std.proofs.Common.{◌≡◌, ◌++◌, ℕ, List, length, take, drop, ap, sym, ◌∙◌, arith, drop-drop, length-drop, take-append-drop, take_all}
use Rattle.std.specs.Int.{w64, to_be_bytes}
use Rattle.turn_nbd.specs.Requests.{success, reply_magic, no_error}

pub success_of : (bytes : List ℕ) (cookie : ℕ) → length bytes ≡ 16 → take 4 bytes ≡ reply_magic → take 4 (drop 4 bytes) ≡ no_error
    → take 8 (drop 8 bytes) ≡ to_be_bytes w64 cookie → bytes ≡ success cookie
unfolding success
success_of bytes cookie size magic error tail =
    let rest : take 8 (drop 8 bytes) ≡ drop 8 bytes = take_all 8 (drop 8 bytes) (omega (arith, length-drop 8 bytes)) in
    sym (take-append-drop 4 bytes)
    ∙ ap (λ (xs : List ℕ). take 4 bytes ++ xs) (sym (take-append-drop 4 (drop 4 bytes)))
    ∙ ap (λ (xs : List ℕ). take 4 bytes ++ (take 4 (drop 4 bytes) ++ xs)) (drop-drop 4 4 bytes ∙ sym rest ∙ tail)
    ∙ ap (λ (xs : List ℕ). take 4 bytes ++ (xs ++ to_be_bytes w64 cookie)) error
    ∙ ap (λ (xs : List ℕ). xs ++ (no_error ++ to_be_bytes w64 cookie)) magic
