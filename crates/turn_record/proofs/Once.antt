-- Bytes, and addresses that stand once, said in the words of histories and as a reader meets them.
use Rattle.std.proofs.Common.{◌≡◌, ℕ, ◌<◌, ◌^◌, Bool, true, false, ◌||◌, eqb, List, [], ◌∷◌, ◌++◌, length, All, refl, sym, ap, ◌∙◌, arith, inl, inr, nat_eq}
use Rattle.std.specs.List.{AllByRecursion, IsDistinct, list_any}
use Rattle.std.proofs.lemmas.Bool.{cases_lt}
use Rattle.std.proofs.lemmas.List.{get_or_past}
use Rattle.std.proofs.lemmas.List.Elements.{All-from_get_or}
use Rattle.std.proofs.lemmas.List.Folds.{list_any-append}
use Rattle.turn_record.proofs.Readers.{EachAfter, IsBytes}

pub all_of_bytes : (xs : List ℕ) → IsBytes xs → All (λ x. x < 256) xs
all_of_bytes xs h = All-from_get_or (λ x. x < 256) xs 0 (λ i lt. h i)

pub bytes_of_all : (xs : List ℕ) → All (λ x. x < 256) xs → IsBytes xs
bytes_of_all xs h i = elim (cases_lt i (length xs)) [ inl lt ↦ h i 0 lt | inr le ↦ rw (get_or_past xs i 0 le) (omega arith) ]

-- an address that was not named before
abbrev pub FitsAddress : List ℕ → ℕ → Type 0
FitsAddress before a = (a < 2 ^ 32) × (list_any (λ y. eqb y a) before ≡ false)

abbrev NotIn : List ℕ → ℕ → Type 0
NotIn before a = list_any (λ y. eqb y a) before ≡ false

pub none_before : (xs : List ℕ) → AllByRecursion (NotIn []) xs
none_before [] = tt
none_before (x ∷ xs) = (refl, none_before xs)

or_false : (a b : Bool) → (a || b) ≡ false → (a ≡ false) × (b ≡ false)
or_false true b e = absurd cc
or_false false b e = (refl, e)

-- with one more address before
more_in : (before : List ℕ) (x y : ℕ) → list_any (λ z. eqb z y) (before ++ x ∷ []) ≡ (list_any (λ z. eqb z y) before || eqb x y)
more_in before x y = list_any-append (λ z. eqb z y) before (x ∷ []) ∙ ap (λ a. list_any (λ z. eqb z y) before || a) (or_none (eqb x y))
  where
    or_none : (a : Bool) → (a || false) ≡ a
    or_none true = refl
    or_none false = refl

both : (before : List ℕ) (x : ℕ) (ys : List ℕ) → AllByRecursion (NotIn (before ++ x ∷ [])) ys → AllByRecursion (NotIn before) ys × AllByRecursion (λ y. nat_eq x y ≡ false) ys
both before x [] h = (tt, tt)
both before x (y ∷ ys) h =
    let p = or_false (list_any (λ z. eqb z y) before) (eqb x y) (sym (more_in before x y) ∙ h.0) in
    let q = both before x ys h.1 in
    ((p.0, q.0), (p.1, q.1))

either : (before : List ℕ) (x : ℕ) (ys : List ℕ) → AllByRecursion (NotIn before) ys → AllByRecursion (λ y. nat_eq x y ≡ false) ys → AllByRecursion (NotIn (before ++ x ∷ [])) ys
either before x [] h k = tt
either before x (y ∷ ys) h k = (more_in before x y ∙ ap (λ a. a || eqb x y) h.0 ∙ k.0, either before x ys h.1 k.1)

-- each address is another than those before it
pub distinct_after : (before xs : List ℕ) → EachAfter FitsAddress before xs → AllByRecursion (λ x. x < 2 ^ 32) xs × IsDistinct nat_eq xs × AllByRecursion (NotIn before) xs
unfolding IsDistinct
distinct_after before [] h = (tt, tt, tt)
distinct_after before (x ∷ xs) h =
    let rest = distinct_after (before ++ x ∷ []) xs h.1 in
    let parts = both before x xs rest.2 in
    ((h.0.0, rest.0), (parts.1, rest.1), (h.0.1, parts.0))

pub after_distinct : (before xs : List ℕ) → AllByRecursion (λ x. x < 2 ^ 32) xs → IsDistinct nat_eq xs → AllByRecursion (NotIn before) xs → EachAfter FitsAddress before xs
unfolding IsDistinct
after_distinct before [] small distinct apart = tt
after_distinct before (x ∷ xs) small distinct apart =
    ((small.0, apart.0), after_distinct (before ++ x ∷ []) xs small.1 distinct.1 (either before x xs apart.1 distinct.0))
