-- Bytes and numbers in a content.
use Rattle.std.proofs.Common.{◌≡◌, ◌<◌, ◌^◌, ◌-◌, inl, inr, ℕ, zero, suc, ◌+◌, List, [], ◌∷◌, ◌++◌, length, slice_index, refl, sym, ◌∙◌, ap, arith, length-append}
use Rattle.std.specs.Int.{to_be_bytes, from_be_bytes, w32, w64}
use Rattle.std.proofs.lemmas.Bool.{cases_lt}
use Rattle.std.proofs.lemmas.List.{get_or-append-add, get_or_append_left, get_or-append_right}
use Rattle.std.proofs.lemmas.Nat.{from_be_bytes-to_be_bytes_4, from_be_bytes-to_be_bytes_8}
use Rattle.turn_disk.specs.Prelude.{StandsAt}
use Rattle.turn_journal.specs.Frames.{framed, IsFrame}
use Rattle.turn_journal.specs.Scan.{HasLength}
use Rattle.turn_journal.proofs.Growing.{stands_front}
use Rattle.turn_journal.proofs.Once.{list_once}

-- the second of two lists
pub stands_back : (at : ℕ) (xs ys c : List ℕ) → StandsAt at (xs ++ ys) c → StandsAt (at + length xs) ys c
stands_back at xs ys c stands i below =
    let place : at + length xs + i ≡ at + (length xs + i) = omega arith in
    ap (λ (j : ℕ). slice_index c j) place ∙ stands (length xs + i) (omega (arith, length-append xs ys)) ∙ get_or-append-add xs ys i 0

-- two lists, one after the other
pub stands_join : (at : ℕ) (xs ys c : List ℕ) → StandsAt at xs c → StandsAt (at + length xs) ys c → StandsAt at (xs ++ ys) c
stands_join at xs ys c first second i below = elim (cases_lt i (length xs)) [
  | inl low ↦ first i low ∙ sym (get_or_append_left xs ys 0 i low)
  | inr high ↦
      let k = i - length xs in
      let place : at + i ≡ at + length xs + k = omega arith in
      let short : k < length ys = omega (arith, length-append xs ys) in
      ap (λ (j : ℕ). slice_index c j) place ∙ second k short ∙ sym (get_or-append_right xs ys (length xs) i 0 refl high)
]

pub stands_one : (at x : ℕ) (c : List ℕ) → slice_index c at ≡ x → StandsAt at (x ∷ []) c
stands_one at x c is zero below = let here : at + 0 ≡ at = omega arith in ap (λ (j : ℕ). slice_index c j) here ∙ is
stands_one at x c is (suc i) below = absurd (omega arith)

pub one_stands : (at x : ℕ) (c : List ℕ) → StandsAt at (x ∷ []) c → slice_index c at ≡ x
one_stands at x c stands = let here : at ≡ at + 0 = omega arith in ap (λ (j : ℕ). slice_index c j) here ∙ stands 0 (omega arith)

pub number_once_4 : (at m n : ℕ) (c : List ℕ) → m < 2 ^ 32 → n < 2 ^ 32 → StandsAt at (to_be_bytes w32 m) c → StandsAt at (to_be_bytes w32 n) c → m ≡ n
number_once_4 at m n c small_m small_n first second =
    sym (from_be_bytes-to_be_bytes_4 m small_m) ∙ ap (from_be_bytes w32) (list_once at (to_be_bytes w32 m) (to_be_bytes w32 n) c refl first second) ∙ from_be_bytes-to_be_bytes_4 n small_n

pub number_once_8 : (at m n : ℕ) (c : List ℕ) → m < 2 ^ 64 → n < 2 ^ 64 → StandsAt at (to_be_bytes w64 m) c → StandsAt at (to_be_bytes w64 n) c → m ≡ n
number_once_8 at m n c small_m small_n first second =
    sym (from_be_bytes-to_be_bytes_8 m small_m) ∙ ap (from_be_bytes w64) (list_once at (to_be_bytes w64 m) (to_be_bytes w64 n) c refl first second) ∙ from_be_bytes-to_be_bytes_8 n small_n

-- the length of a frame's payload follows its gate
pub frame_length : (gate : ℕ) (p c : List ℕ) → IsFrame gate p c → HasLength gate (length p) c
unfolding framed
frame_length gate p c frame = (frame.short, stands_front (gate + 1) (to_be_bytes w32 (length p)) p c frame.stands)
