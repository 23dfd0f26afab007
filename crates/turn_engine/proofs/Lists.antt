-- Histories, cut and made longer.
use Rattle.std.proofs.Common.{◌≡◌, ◌≤◌, ◌<◌, ◌+◌, ◌-◌, ℕ, List, [], ◌∷◌, ◌++◌, length, take, Option, Some, None, Result, Ok, Err, false, refl, sym, ap, ◌∙◌, arith, append-nil, rules, OnErr, OnOk, is_err, take-append-drop}
use Rattle.std.specs.List.{AllByRecursion}
use Rattle.std.proofs.Math.ListN.{drop_of_length-le}
use Rattle.turn_history.specs.Prelude.{AllFrom}
use Rattle.turn_step.specs.Prelude.{Change, added}

pub all-append : {A : Type 0} (P : A → Type 0) (xs ys : List A) → AllByRecursion P xs → AllByRecursion P ys → AllByRecursion P (xs ++ ys)
all-append P [] ys a b = b
all-append P (x ∷ xs) ys a b = (a.0, all-append P xs ys a.1 b)

pub added_from : (at t : ℕ) (change : Option Change) → at ≤ t → AllFrom at (added t change)
added_from at t None le = tt
added_from at t (Some c) le = (le, tt)

pub added_few : (t : ℕ) (change : Option Change) → length (added t change) ≤ 1
added_few t None = omega arith
added_few t (Some c) = omega arith

pub length-take-le : {A : Type 0} (k : ℕ) (xs : List A) → k ≤ length xs → length (take k xs) ≡ k
length-take-le k xs le = search rules

pub take_of_length-le : {A : Type 0} (k : ℕ) (xs : List A) → length xs ≤ k → take k xs ≡ xs
take_of_length-le k xs le = sym (append-nil (take k xs)) ∙ ap (λ (l : List _). take k xs ++ l) (sym (drop_of_length-le xs le)) ∙ take-append-drop k xs

pub none_left : {A : Type 0} (xs : List A) → length xs ≡ 0 → xs ≡ []
none_left [] e = refl
none_left (x ∷ xs) e = absurd (omega (arith, e))

pub when_ok : {T E : Type 0} (r : Result T E) (P : Type 0) → OnOk r P → is_err r ≡ false → P
when_ok (Ok x) P p e = p
when_ok (Err x) P p e = cc

-- what holds in any case
pub on_err : {T E P : Type 0} (r : Result T E) → P → OnErr r P
on_err (Ok x) p = tt
on_err (Err e) p = p

-- a batch that isn't full has room for one more, where there is room for as many as it may still take
pub room_for_one : (len left capacity acts arrivals old limit : ℕ) → len + left ≤ capacity → old < limit → left ≡ acts - arrivals → arrivals ≡ old → acts ≡ limit → len + 1 ≤ capacity
room_for_one len left capacity acts arrivals old limit enough few is same all = omega (arith, enough, few, is, same, all)
