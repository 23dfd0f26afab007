-- Reading elements one after the other, as a loop does.
use Rattle.std.proofs.Common.{◌≡◌, ℕ, zero, suc, ◌-◌, ◌+◌, ◌≤◌, ◌<◌, List, [], ◌∷◌, ◌++◌, Ok, Err, refl, sym, ap, ◌∙◌, arith}
use Rattle.turn_record.specs.declared.error.DecodeError.{DecodeError}
use Rattle.turn_record.specs.declared.error.ReadError.{ReadError}
use Rattle.turn_record.specs.declared.error.ReadError.TheVariants as errors
use Rattle.turn_record.specs.Prelude.{Field, Fails, many}

-- one element more was read
pub many_more : {A : Type 0} (item : List A → List ℕ → Field A) (left : ℕ) (before : List A) (bytes : List ℕ) (x : A) (after : List ℕ) → 0 < left → item before bytes ≡ Ok (x, after)
    → many item left before bytes ≡ many item (left - 1) (before ++ x ∷ []) after
unfolding many
many_more item zero before bytes x after lt h = absurd (omega arith)
many_more item (suc n) before bytes x after lt h =
    let one : many item (suc n) before bytes ≡ many item n (before ++ x ∷ []) after = rw h refl in
    let k : suc n - 1 ≡ n = omega arith in
    rw k one

pub many_err : {A : Type 0} (item : List A → List ℕ → Field A) (left : ℕ) (before : List A) (bytes : List ℕ) (f : DecodeError) → 0 < left → item before bytes ≡ Err f → many item left before bytes ≡ Err f
unfolding many
many_err item zero before bytes f lt h = absurd (omega arith)
many_err item (suc n) before bytes f lt h = rw h refl

pub many_none : {A : Type 0} (item : List A → List ℕ → Field A) (left : ℕ) (before : List A) (bytes : List ℕ) → left ≡ 0 → many item left before bytes ≡ Ok (before, bytes)
unfolding many
many_none item zero before bytes e = refl
many_none item (suc n) before bytes e = absurd cc

-- ---- In a loop

pub goes_on : {A : Type 0} (item : List A → List ℕ → Field A) (count i : ℕ) (before : List A) (bytes : List ℕ) (x : A) (after : List ℕ) (total : Field (List A)) → i < count → item before bytes ≡ Ok (x, after)
    → many item (count - i) before bytes ≡ total → many item (count - (i + 1)) (before ++ x ∷ []) after ≡ total
goes_on item count i before bytes x after total lt h so_far =
    let k : count - i - 1 ≡ count - (i + 1) = omega arith in
    ap (λ n. many item n (before ++ x ∷ []) after) (sym k) ∙ sym (many_more item (count - i) before bytes x after (omega arith) h) ∙ so_far

pub ends : {A : Type 0} (item : List A → List ℕ → Field A) (e : ReadError) (count i : ℕ) (before : List A) (bytes : List ℕ) (total : Field (List A)) → i < count → Fails e (item before bytes)
    → many item (count - i) before bytes ≡ total → Fails e total
ends item errors.Memory count i before bytes total lt h so_far = tt
ends item (errors.Malformed f) count i before bytes total lt h so_far = sym so_far ∙ many_err item (count - i) before bytes f (omega arith) h

pub is_done : {A : Type 0} (item : List A → List ℕ → Field A) (count i : ℕ) (before : List A) (bytes : List ℕ) (total : Field (List A)) → count ≤ i → many item (count - i) before bytes ≡ total → total ≡ Ok (before, bytes)
is_done item count i before bytes total le so_far = sym so_far ∙ many_none item (count - i) before bytes (omega arith)
