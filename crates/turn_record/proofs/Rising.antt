-- Keys that each rise above the one before make a sorted list, and the other way round.
use Rattle.std.proofs.Common.{◌≡◌, ◌-◌, Bool, true, false, T, List, [], ◌∷◌, ◌++◌, length, Some, refl, sym, ap, subst, ◌∙◌, arith, length-append, slice_get, Ordering, is_lt}
use Rattle.std.specs.Cmp.{IsTotalOrder}
use Rattle.std.specs.FinMap.Entries.{is_sorted, below_all}
use Rattle.std.specs.List.{AllByRecursion}
use Rattle.turn_history.proofs.Entries.{first, second, both, less}
use Rattle.turn_record.specs.Prelude.{passes, last_passes}
use Rattle.turn_record.proofs.Readers.{EachAfter}

get_last : {A : Type 0} (before : List A) (x : A) → slice_get (before ++ x ∷ []) (length before) ≡ Some x
get_last [] x = refl
get_last (y ∷ before) x = get_last before x

pub last_of : {A : Type 0} (before : List A) (x : A) → slice_get (before ++ x ∷ []) (length (before ++ x ∷ []) - 1) ≡ Some x
last_of before x =
    let n : length (before ++ x ∷ []) - 1 ≡ length before = omega (arith, length-append before (x ∷ [])) in
    rw n (get_last before x)

pub true_of : (b : Bool) → T b → b ≡ true
true_of true p = refl
true_of false p = absurd p

goes_over : {K : Type 0} (R : K → K → Ordering) → IsTotalOrder R → (a b c : K) → T (is_lt (R a b)) → T (is_lt (R b c)) → T (is_lt (R a c))
goes_over R o a b c p q = subst (λ r. T (is_lt r)) (sym (o.trans a b c (less _ p) (less _ q))) tt

module _ {K X : Type 0} (R : K → K → Ordering) (o : IsTotalOrder R) where
  -- a key above the last one
  abbrev pub Rises : List (K × X) → K × X → Type 0
  Rises before e = last_passes (λ last. is_lt (R last.0 e.0)) before ≡ true

  below_more : (x y : K) (es : List (K × X)) → T (is_lt (R x y)) → T (below_all R y es) → T (below_all R x es)
  below_more x y [] h all = tt
  below_more x y (e ∷ es) h all = both _ _ (goes_over R o x y e.0 h (first _ _ all)) (below_more x y es h (second _ _ all))

  sorted_after : (before : List (K × X)) (x : K × X) (es : List (K × X)) → EachAfter Rises (before ++ x ∷ []) es → T (is_sorted R (x ∷ es))
  sorted_after before x [] h = tt
  sorted_after before x (e ∷ es) h =
      let rest : T (is_sorted R (e ∷ es)) = sorted_after (before ++ x ∷ []) e es h.1 in
      let below : is_lt (R x.0 e.0) ≡ true = ap (passes (λ (b : K × X). is_lt (R b.0 e.0))) (sym (last_of before x)) ∙ h.0 in
      let lt : T (is_lt (R x.0 e.0)) = subst T (sym below) tt in
      both _ _ (both _ _ lt (below_more x.0 e.0 es lt (first _ _ rest))) rest

  pub sorted_rising : (es : List (K × X)) → EachAfter Rises [] es → T (is_sorted R es)
  sorted_rising [] h = tt
  sorted_rising (e ∷ es) h = sorted_after [] e es h.1

  after_sorted : (before : List (K × X)) (x : K × X) (es : List (K × X)) → T (is_sorted R (x ∷ es)) → EachAfter Rises (before ++ x ∷ []) es
  after_sorted before x [] h = tt
  after_sorted before x (e ∷ es) h =
      let below : is_lt (R x.0 e.0) ≡ true = true_of _ (first _ _ (first _ _ h)) in
      (ap (passes (λ (b : K × X). is_lt (R b.0 e.0))) (last_of before x) ∙ below, after_sorted (before ++ x ∷ []) e es (second _ _ h))

  pub rising_sorted : (es : List (K × X)) → T (is_sorted R es) → EachAfter Rises [] es
  rising_sorted [] h = tt
  rising_sorted (e ∷ es) h = (refl, after_sorted [] e es h)

  -- in a sorted list what stands before a key is below it
  below_later : (k : K) (before : List (K × X)) (x : K × X) (es : List (K × X)) → T (below_all R k (before ++ x ∷ es)) → T (is_lt (R k x.0))
  below_later k [] x es h = first _ _ h
  below_later k (b ∷ before) x es h = below_later k before x es (second _ _ h)

  pub all_below : (before : List (K × X)) (x : K × X) (es : List (K × X)) → T (is_sorted R (before ++ x ∷ es)) → AllByRecursion (λ q. T (is_lt (R q.0 x.0))) before
  all_below [] x es h = tt
  all_below (b ∷ before) x es h = (below_later b.0 before x es (first _ _ h), all_below before x es (second _ _ h))
