-- What holds of each element after those before it, taken apart and put together; elements that are apart.
use Rattle.std.proofs.Common.{◌≡◌, Bool, true, false, T, List, [], ◌∷◌, ◌++◌, refl, sym, ap, subst, ◌∙◌, append_assoc, append-nil, Ordering, is_lt}
use Rattle.std.specs.Cmp.{IsTotalOrder, tied_itself}
use Rattle.std.specs.FinMap.Entries.{is_sorted}
use Rattle.std.specs.List.{AllByRecursion, list_any}
use Rattle.turn_history.proofs.Entries.{none_pass, pass_none}
use Rattle.turn_record.proofs.Readers.{EachAfter}
use Rattle.turn_record.proofs.Rising.{all_below}

pub each_more : {A : Type 0} (P Q : List A → A → Type 0) → ((before : List A) (x : A) → P before x → Q before x) → (before xs : List A) → EachAfter P before xs → EachAfter Q before xs
each_more P Q h before [] all = tt
each_more P Q h before (x ∷ xs) all = (h before x all.0, each_more P Q h (before ++ x ∷ []) xs all.1)

pub each_both : {A : Type 0} (P Q R : List A → A → Type 0) → ((before : List A) (x : A) → P before x → Q before x → R before x) → (before xs : List A) → EachAfter P before xs → EachAfter Q before xs → EachAfter R before xs
each_both P Q R h before [] p q = tt
each_both P Q R h before (x ∷ xs) p q = (h before x p.0 q.0, each_both P Q R h (before ++ x ∷ []) xs p.1 q.1)

pub each_alone : {A : Type 0} (P : A → Type 0) (before xs : List A) → EachAfter (λ front x. P x) before xs → AllByRecursion P xs
each_alone P before [] all = tt
each_alone P before (x ∷ xs) all = (all.0, each_alone P (before ++ x ∷ []) xs all.1)

pub alone_each : {A : Type 0} (P : A → Type 0) (before xs : List A) → AllByRecursion P xs → EachAfter (λ front x. P x) before xs
alone_each P before [] all = tt
alone_each P before (x ∷ xs) all = (all.0, alone_each P (before ++ x ∷ []) xs all.1)

all_joined : {A : Type 0} (P : A → Type 0) (xs ys : List A) → AllByRecursion P xs → AllByRecursion P ys → AllByRecursion P (xs ++ ys)
all_joined P [] ys p q = q
all_joined P (x ∷ xs) ys p q = (p.0, all_joined P xs ys p.1 q)

all_front : {A : Type 0} (P : A → Type 0) (xs ys : List A) → AllByRecursion P (xs ++ ys) → AllByRecursion P xs
all_front P [] ys p = tt
all_front P (x ∷ xs) ys p = (p.0, all_front P xs ys p.1)

all_back : {A : Type 0} (P : A → Type 0) (xs ys : List A) → AllByRecursion P (xs ++ ys) → AllByRecursion P ys
all_back P [] ys p = p
all_back P (x ∷ xs) ys p = all_back P xs ys p.1

pub all_more : {A : Type 0} (P Q : A → Type 0) → ((x : A) → P x → Q x) → (xs : List A) → AllByRecursion P xs → AllByRecursion Q xs
all_more P Q h [] all = tt
all_more P Q h (x ∷ xs) all = (h x all.0, all_more P Q h xs all.1)

pub all_two : {A : Type 0} (P Q R : A → Type 0) → ((x : A) → P x → Q x → R x) → (xs : List A) → AllByRecursion P xs → AllByRecursion Q xs → AllByRecursion R xs
all_two P Q R h [] p q = tt
all_two P Q R h (x ∷ xs) p q = (h x p.0 q.0, all_two P Q R h xs p.1 q.1)

-- no key is below itself
not_itself : {K : Type 0} (R : K → K → Ordering) → IsTotalOrder R → (k l : K) → k ≡ l → ¬ T (is_lt (R k l))
not_itself R o k l e lt = subst (λ r. T (is_lt r)) (ap (R k) (sym e) ∙ tied_itself o k) lt

module _ {K X : Type 0} (R : K → K → Ordering) (same : K × X → K × X → Bool) where
  -- the same as none of those before
  abbrev pub IsNew : List (K × X) → K × X → Type 0
  IsNew before x = list_any (same x) before ≡ false

  -- the same at one key alone
  abbrev pub AreOne : K × X → K × X → Type 0
  AreOne p q = same p q ≡ true → p.0 ≡ q.0

  abbrev pub Apart : List (K × X) → Type 0
  Apart xs = AllByRecursion (λ p. AllByRecursion (AreOne p) xs) xs

  module _ (o : IsTotalOrder R) (symmetric : (p q : K × X) → same p q ≡ same q p) where
    apart_after : (before xs : List (K × X)) → Apart before → EachAfter IsNew before xs → Apart (before ++ xs)
    apart_after before [] apart each = subst Apart (sym (append-nil before)) apart
    apart_after before (x ∷ xs) apart each =
        let new = pass_none (same x) before each.0 in
        let theirs : AllByRecursion (λ p. AllByRecursion (AreOne p) (before ++ x ∷ [])) before =
        all_two _ _ _ (λ p mine other. all_joined (AreOne p) before (x ∷ []) mine (λ e. absurd (let no : same p x ≡ false = symmetric p x ∙ other in cc), tt)) before apart new in
        let mine : AllByRecursion (AreOne x) (before ++ x ∷ []) = all_joined (AreOne x) before (x ∷ []) (all_more _ _ (λ q no e. absurd cc) before new) (λ e. refl, tt) in
        subst Apart (append_assoc before (x ∷ []) xs) (apart_after (before ++ x ∷ []) xs (all_joined _ before (x ∷ []) theirs (mine, tt)) each.1)

    pub apart_new : (xs : List (K × X)) → EachAfter IsNew [] xs → Apart xs
    apart_new xs each = apart_after [] xs tt each

    by_bool : (b : Bool) → (b ≡ true → b ≡ false) → b ≡ false
    by_bool true h = h refl
    by_bool false h = refl

    differs : (p x : K × X) → AreOne p x → T (is_lt (R p.0 x.0)) → same x p ≡ false
    differs p x one lt = by_bool (same x p) (λ e. absurd (not_itself R o p.0 x.0 (one (symmetric p x ∙ e)) lt))

    new_after : (before xs : List (K × X)) → T (is_sorted R (before ++ xs)) → Apart (before ++ xs) → EachAfter IsNew before xs
    new_after before [] sorted apart = tt
    new_after before (x ∷ xs) sorted apart =
        let theirs = all_front _ before (x ∷ xs) apart in
        let with_x : AllByRecursion (λ p. AreOne p x) before = all_more _ _ (λ p all. (all_back (AreOne p) before (x ∷ xs) all).0) before theirs in
        let lower = all_below R o before x xs sorted in
        let others : AllByRecursion (λ p. same x p ≡ false) before = all_two _ _ _ (λ p one lt. differs p x one lt) before with_x lower in
        let grouped = append_assoc before (x ∷ []) xs in
        (none_pass (same x) before others, new_after (before ++ x ∷ []) xs (subst (λ ys. T (is_sorted R ys)) (sym grouped) sorted) (subst Apart (sym grouped) apart))

    pub new_apart : (xs : List (K × X)) → T (is_sorted R xs) → Apart xs → EachAfter IsNew [] xs
    new_apart xs sorted apart = new_after [] xs sorted apart
