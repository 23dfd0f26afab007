-- An area has one reading.
use Rattle.std.proofs.Common.{◌≡◌, ⊎_elim, ℕ, ◌+◌, ◌<◌, List, [], ◌∷◌, ◌++◌, length, slice_index, refl, sym, ◌∙◌, ap, subst, arith, ◌⊎◌, ext_get_or, length-append, get_or-append-add}
use Rattle.std.specs.Int.{to_be_bytes, from_be_bytes, w32}
use Rattle.std.proofs.lemmas.Nat.{from_be_bytes-to_be_bytes_4}
use Rattle.turn_disk.specs.Prelude.{StandsAt}
use Rattle.turn_journal.specs.Frames.{framed, IsFrame, gate_after, HoldsFrames}
use Rattle.turn_journal.specs.Scan.{HasLength, IsFound, IsBadFrame}
use Rattle.turn_journal.specs.declared.found.Found.{Found}
use Rattle.turn_journal.specs.declared.found.Found.TheVariants.{End, Frame}
use Rattle.turn_journal.proofs.Growing.{stands_front}

-- two lists of one length at one position are one
pub list_once : (at : ℕ) (xs ys c : List ℕ) → length xs ≡ length ys → StandsAt at xs c → StandsAt at ys c → xs ≡ ys
list_once at xs ys c long first second = ext_get_or 0 xs ys long (λ i below. sym (first i below) ∙ second i (omega arith))

pub length_once : (gate m n : ℕ) (c : List ℕ) → HasLength gate m c → HasLength gate n c → m ≡ n
length_once gate m n c first second =
    sym (from_be_bytes-to_be_bytes_4 m first.0) ∙ ap (from_be_bytes w32) (list_once (gate + 1) (to_be_bytes w32 m) (to_be_bytes w32 n) c refl first.1 second.1) ∙ from_be_bytes-to_be_bytes_4 n second.0

-- what follows a first list
stands_rest : (at : ℕ) (xs ys c : List ℕ) → StandsAt at (xs ++ ys) c → StandsAt (at + length xs) ys c
stands_rest at xs ys c stands i below =
    let place : at + length xs + i ≡ at + (length xs + i) = omega arith in
    ap (λ (j : ℕ). slice_index c j) place ∙ stands (length xs + i) (omega (arith, length-append xs ys)) ∙ get_or-append-add xs ys i 0

pub frame_once : (gate : ℕ) (p q c : List ℕ) → IsFrame gate p c → IsFrame gate q c → p ≡ q
unfolding framed
frame_once gate p q c first second =
    let long : length p ≡ length q = length_once gate (length p) (length q) c
    (first.short, stands_front (gate + 1) (to_be_bytes w32 (length p)) p c first.stands) (second.short, stands_front (gate + 1) (to_be_bytes w32 (length q)) q c second.stands) in
    list_once (gate + 1 + 4) p q c long (stands_rest (gate + 1) (to_be_bytes w32 (length p)) p c first.stands) (stands_rest (gate + 1) (to_be_bytes w32 (length q)) q c second.stands)

pub frames_once : (gate : ℕ) (ps qs : List (List ℕ)) (limit : ℕ) (c : List ℕ) → HoldsFrames gate ps limit c → HoldsFrames gate qs limit c → ps ≡ qs
frames_once gate [] [] limit c first second = refl
frames_once gate [] (q ∷ qs) limit c first second = absurd (first.1 second.0.is_open)
frames_once gate (p ∷ ps) [] limit c first second = absurd (second.1 first.0.is_open)
frames_once gate (p ∷ ps) (q ∷ qs) limit c first second =
    let same = frame_once gate p q c first.0 second.0 in
    let there = subst (λ (r : List ℕ). HoldsFrames (gate_after gate r) qs limit c) (sym same) second.1 in
    let rest = frames_once (gate_after gate p) ps qs limit c first.1 there in
    ap (λ (r : List ℕ). r ∷ ps) same ∙ ap (λ (rs : List (List ℕ)). q ∷ rs) rest

pub found_is_good : (gate limit max_payload : ℕ) (c : List ℕ) (found : Found) → IsFound gate limit max_payload c found → IsBadFrame gate limit max_payload c → ⊥
found_is_good gate limit max_payload c End closed bad = closed bad.0
found_is_good gate limit max_payload c (Frame count) is bad =
    ⊎_elim (λ (no_room : limit < gate + 6). absurd (omega (arith, is.2.1)))
    (λ (other : (n : ℕ) × HasLength gate n c × ((max_payload < n) ⊎ (limit < gate + 6 + n))).
    let same = length_once gate count other.0 c is.1 other.1 in
    ⊎_elim (λ (long : max_payload < other.0). absurd (omega (arith, is.2.0, same))) (λ (far : limit < gate + 6 + other.0). absurd (omega (arith, is.2.1, same))) other.2)
    bad.1
