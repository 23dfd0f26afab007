-- Lists of entries whose keys rise, as maps.
use Rattle.std.proofs.Common.{◌≡◌, ℕ, zero, suc, set, ◌<◌, ◌≤◌, Bool, true, false, cond, not, ◌&&◌, List, map, [], ◌∷◌, length, refl, sym, ap, ◌∙◌, subst, arith, T, ltb, Option, Some, None, Result, Ok, Err, get_or, Ordering, Less, Equal, Greater, option_and_then, option_map}
use Rattle.std.specs.Ordering.{ordering_reverse, ordering_index, is_eq, is_lt, eq_by_cmp}
use Rattle.std.specs.Cmp.{IsTotalOrder}
use Rattle.std.specs.List.{AllByRecursion, insert, remove, filter, HoldsAt}
use Rattle.std.specs.List.Sorted.{IsSearchInRange, IsBinarySearchResult, IsNonDecreasingBy, IsPartitionPoint}
use Rattle.std.proofs.lemmas.List.{length-map}
use Rattle.std.proofs.lemmas.Cmp.{alike_right, eq_by_cmp_equiv, tied_itself}
use Rattle.std.specs.FinMap as fin
use Rattle.std.specs.FinMap.{FinMap, IsAntisymmetric, is_sorted, entries_sorted, entries-from_sorted, len-entries, get-empty, get-entries, get-from_sorted, same_map, get-insert, get-remove}
use Rattle.std.specs.FinMap.Entries.{put, by_order, find, below_all, where_key, is_sorted-put, is_sorted-where_key, find-put, find-where_key}
use Rattle.turn_history.proofs.Entries.{both, find-all, first, less, second, unfound}
use Rattle.turn_history.proofs.Maps.{from_eq, get-map_of-all, outside_keys}
use Rattle.turn_table.specs.Prelude.{still, ahead_by, scan, scan_on, further}

pub holds : (b : Bool) → b ≡ true → T b
holds b h = subst T (sym h) tt

pub yes : (b : Bool) → T b → b ≡ true
yes true h = refl
yes false h = absurd h

pub get-removed : {K X : Type 0} {R : K → K → Ordering} → IsTotalOrder R → (m : FinMap R X) (k : K) → fin.get (fin.remove m k) k ≡ None
get-removed o m k = get-remove o m k k ∙ ap (λ r. cond (is_eq r) None (fin.get m k)) (tied_itself o k)

module _ {K : Type 0} {R : K → K → Ordering} (o : IsTotalOrder R) where
  -- a comparison with a later key ranks no lower
  later_rank : (f x y : K) → R x y ≡ Less → (r : Ordering) → R x f ≡ r → ordering_index r ≤ ordering_index (R y f)
  later_rank f x y lt Less e = omega arith
  later_rank f x y lt Equal e =
      let after : R y f ≡ Greater = o.antisymm y f ∙ ap ordering_reverse (sym (o.congr x f y e) ∙ lt) in omega (arith, ap ordering_index after)
  later_rank f x y lt Greater e =
      let after : R y f ≡ Greater = o.antisymm y f ∙ ap ordering_reverse (o.trans f x y (o.antisymm f x ∙ ap ordering_reverse e) lt) in omega (arith, ap ordering_index after)

module _ {K X : Type 0} {R : K → K → Ordering} (o : IsTotalOrder R) (exact : IsAntisymmetric R) where
  pub from_sorted-none : fin.from_sorted {R = R} [] ≡ fin.empty {X = X}
  from_sorted-none = same_map o exact _ _ (λ q. get-from_sorted R [] q tt ∙ sym (get-empty R q))

  pub get-still : (expiry : X → ℕ) (t : ℕ) (m : FinMap R X) (k : K) → fin.get (still expiry t m) k ≡ option_and_then (ahead_by expiry t) (fin.get m k)
  unfolding still
  get-still expiry t m k =
      get-map_of-all o exact (fin.keys m) (λ q. option_and_then (ahead_by expiry t) (fin.get m q)) k
      (λ none. ap (option_and_then (ahead_by expiry t)) (outside_keys o exact m k none))

  -- a key below all of a list is not found in it
  pub find_below : (f g : K) (xs : List (K × X)) → R f g ≡ Less → T (below_all R g xs) → find R f xs ≡ None
  find_below f g [] lt h = refl
  find_below f g (x ∷ xs) lt h =
      ap (λ r. cond (is_eq r) (Some x.1) (find R f xs)) (o.trans f g x.0 lt (less _ (first _ _ h))) ∙ find_below f g xs lt (second _ _ h)

  -- where a key stands, or else would stand
  pub data Place (f : K) : List (K × X) → Bool → ℕ → Type 0 where
    here : {x : K × X} {xs : List (K × X)} → R f x.0 ≡ Equal → Place f (x ∷ xs) true zero
    before : {x : K × X} {xs : List (K × X)} → R f x.0 ≡ Less → Place f (x ∷ xs) false zero
    at_end : Place f [] false zero
    past : {x : K × X} {xs : List (K × X)} {b : Bool} {i : ℕ} → R f x.0 ≡ Greater → Place f xs b i → Place f (x ∷ xs) b (suc i)

  -- by the answer of a walk
  abbrev Answers : K → List (K × X) → Result ℕ ℕ → Type 0
  Answers f xs (Ok i) = Place f xs true i
  Answers f xs (Err i) = Place f xs false i

  answers-scan : (f : K) (xs : List (K × X)) → Answers f xs (scan R f xs)
  answers-scan f [] = at_end
  answers-scan f (x ∷ xs) = by_order_of (R f x.0) refl (scan R f xs) (answers-scan f xs)
    where
      by_order_of : (r : Ordering) → R f x.0 ≡ r → (rest : Result ℕ ℕ) → Answers f xs rest → Answers f (x ∷ xs) (scan_on r rest)
      by_order_of Less c rest at = before c
      by_order_of Equal c rest at = here c
      by_order_of Greater c (Ok i) at = past c at
      by_order_of Greater c (Err i) at = past c at

  pub found-scan : (f : K) (xs : List (K × X)) (i : ℕ) → Ok i ≡ scan R f xs → Place f xs true i
  found-scan f xs i e = subst (Answers f xs) (sym e) (answers-scan f xs)

  pub gap-scan : (f : K) (xs : List (K × X)) (i : ℕ) → Err i ≡ scan R f xs → Place f xs false i
  gap-scan f xs i e = subst (Answers f xs) (sym e) (answers-scan f xs)

  find_step : (f : K) (x : K × X) (xs : List (K × X)) (o : Ordering) → R f x.0 ≡ o → find R f (x ∷ xs) ≡ cond (is_eq o) (Some x.1) (find R f xs)
  find_step f x xs o e = ap (λ r. cond (is_eq r) (Some x.1) (find R f xs)) e

  pub find-found : (f : K) (xs : List (K × X)) (i : ℕ) (d : K × X) → Place f xs true i → find R f xs ≡ Some (get_or xs i d).1
  find-found f [] i d h = elim h [ ]
  find-found f (x ∷ xs) zero d (here c) = find_step f x xs Equal c
  find-found f (x ∷ xs) (suc i) d (past c more) = find_step f x xs Greater c ∙ find-found f xs i d more

  pub find-gap : (f : K) (xs : List (K × X)) (i : ℕ) → T (is_sorted R xs) → Place f xs false i → find R f xs ≡ None
  find-gap f [] zero s at_end = refl
  find-gap f [] (suc i) s h = elim h [ ]
  find-gap f (x ∷ xs) zero s (before c) = find_step f x xs Less c ∙ find_below f x.0 xs c (first _ _ s)
  find-gap f (x ∷ xs) (suc i) s (past c more) = find_step f x xs Greater c ∙ find-gap f xs i (second _ _ s) more

  -- ---- What the list's edits do

  pub insert-gap : (f : K) (v : X) (xs : List (K × X)) (i : ℕ) → Place f xs false i → insert xs i (f, v) ≡ put R f v xs
  insert-gap f v [] zero at_end = refl
  insert-gap f v [] (suc i) h = elim h [ ]
  insert-gap f v (x ∷ xs) zero (before c) = ap (λ o. by_order o ((f, v) ∷ x ∷ xs) ((x.0, v) ∷ xs) (x ∷ put R f v xs)) (sym c)
  insert-gap f v (x ∷ xs) (suc i) (past c more) = ap (λ ys. x ∷ ys) (insert-gap f v xs i more) ∙ ap (λ o. by_order o ((f, v) ∷ x ∷ xs) ((x.0, v) ∷ xs) (x ∷ put R f v xs)) (sym c)

  pub set-found : (f : K) (v : X) (xs : List (K × X)) (i : ℕ) → Place f xs true i → set xs i (f, v) ≡ put R f v xs
  set-found f v [] i h = elim h [ ]
  set-found f v (x ∷ xs) zero (here c) = ap (λ k. (k, v) ∷ xs) (exact f x.0 c) ∙ ap (λ o. by_order o ((f, v) ∷ x ∷ xs) ((x.0, v) ∷ xs) (x ∷ put R f v xs)) (sym c)
  set-found f v (x ∷ xs) (suc i) (past c more) = ap (λ ys. x ∷ ys) (set-found f v xs i more) ∙ ap (λ o. by_order o ((f, v) ∷ x ∷ xs) ((x.0, v) ∷ xs) (x ∷ put R f v xs)) (sym c)

  -- a key below all of a list is none of its keys
  others : (g : K) (xs : List (K × X)) → T (below_all R g xs) → where_key R (λ k. not (eq_by_cmp R g k)) xs ≡ xs
  others g [] h = refl
  others g (x ∷ xs) h =
      let left = where_key R (λ k. not (eq_by_cmp R g k)) xs in
      ap (λ r. cond (not (is_eq r)) (x ∷ left) left) (less _ (first _ _ h)) ∙ ap (λ ys. x ∷ ys) (others g xs (second _ _ h))

  -- without the entry at a key's place, the entries of the other keys are left
  remove-found : (f : K) (xs : List (K × X)) (i : ℕ) → Place f xs true i → T (is_sorted R xs) → remove xs i ≡ where_key R (λ k. not (eq_by_cmp R f k)) xs
  remove-found f [] i h s = elim h [ ]
  remove-found f (x ∷ xs) zero (here c) s =
      let left = where_key R (λ k. not (eq_by_cmp R f k)) xs in
      sym ((λ j. cond (not (is_eq (c j))) (x ∷ left) left) ∙ subst (λ g. where_key R (λ k. not (eq_by_cmp R g k)) xs ≡ xs) (sym (exact f x.0 c)) (others x.0 xs (first _ _ s)))
  remove-found f (x ∷ xs) (suc i) (past c more) s =
      let left = where_key R (λ k. not (eq_by_cmp R f k)) xs in
      ap (λ ys. x ∷ ys) (remove-found f xs i more (second _ _ s)) ∙ sym (λ j. cond (not (is_eq (c j))) (x ∷ left) left)

  pub from_sorted-put : (xs : List (K × X)) → is_sorted R xs ≡ true → (f : K) (v : X) → fin.from_sorted {R = R} (put R f v xs) ≡ fin.insert (fin.from_sorted xs) f v
  from_sorted-put xs s f v = same_map o exact _ _ (λ q.
      get-from_sorted R (put R f v xs) q (is_sorted-put R o f v xs (holds _ s))
      ∙ find-put R o q f v xs
      ∙ sym (get-insert o (fin.from_sorted xs) f v q ∙ ap (cond (eq_by_cmp R q f) (Some v)) (get-from_sorted R xs q (holds _ s))))

  -- ---- The map of a list after an edit

  put_is : (xs ys : List (K × X)) (f : K) (v : X) → is_sorted R xs ≡ true → ys ≡ put R f v xs → (is_sorted R ys ≡ true) × (fin.from_sorted {R = R} ys ≡ fin.insert (fin.from_sorted xs) f v)
  put_is xs ys f v s is = (ap (is_sorted R) is ∙ yes _ (is_sorted-put R o f v xs (holds _ s)), ap fin.from_sorted is ∙ from_sorted-put xs s f v)

  pub inserted : (xs ys : List (K × X)) (k : K) (i : ℕ) (v : X) → is_sorted R xs ≡ true → Err i ≡ scan R k xs → ys ≡ insert xs i (k, v) → (is_sorted R ys ≡ true) × (fin.from_sorted {R = R} ys ≡ fin.insert (fin.from_sorted xs) k v)
  inserted xs ys k i v s e is = put_is xs ys k v s (is ∙ insert-gap k v xs i (gap-scan k xs i e))

  key-found : (f : K) (xs : List (K × X)) (i : ℕ) (d : K × X) → Place f xs true i → (get_or xs i d).0 ≡ f
  key-found f [] i d h = elim h [ ]
  key-found f (x ∷ xs) zero d (here c) = sym (exact f x.0 c)
  key-found f (x ∷ xs) (suc i) d (past c more) = key-found f xs i d more

  pub written : (xs ys : List (K × X)) (k : K) (i : ℕ) (x : K × X) (v : X) → is_sorted R xs ≡ true → Ok i ≡ scan R k xs → x ≡ get_or xs i x → ys ≡ set xs i (x.0, v) → (is_sorted R ys ≡ true) × (fin.from_sorted {R = R} ys ≡ fin.insert (fin.from_sorted xs) k v)
  written xs ys k i x v s e at is =
      let found = found-scan k xs i e in
      put_is xs ys k v s (is ∙ ap (λ q. set xs i (q, v)) (ap (λ y. y.0) at ∙ key-found k xs i x found) ∙ set-found k v xs i found)

  pub get-ok : (xs : List (K × X)) → is_sorted R xs ≡ true → (f : K) (i : ℕ) (x : K × X) → Ok i ≡ scan R f xs → x ≡ get_or xs i x → fin.get (fin.from_sorted {R = R} xs) f ≡ Some x.1
  get-ok xs s f i x e is = get-from_sorted R xs f (holds _ s) ∙ find-found f xs i x (found-scan f xs i e) ∙ ap (λ y. Some y.1) (sym is)

  pub get-err : (xs : List (K × X)) → is_sorted R xs ≡ true → (f : K) (i : ℕ) → Err i ≡ scan R f xs → fin.get (fin.from_sorted {R = R} xs) f ≡ None
  get-err xs s f i e = get-from_sorted R xs f (holds _ s) ∙ find-gap f xs i (holds _ s) (gap-scan f xs i e)

  pub removed : (xs ys : List (K × X)) (k : K) (i : ℕ) → is_sorted R xs ≡ true → Ok i ≡ scan R k xs → ys ≡ remove xs i → (is_sorted R ys ≡ true) × (fin.from_sorted {R = R} ys ≡ fin.remove (fin.from_sorted xs) k)
  removed xs ys k i s e is =
      let cut = remove-found k xs i (found-scan k xs i e) (holds _ s) in
      let left : T (is_sorted R (remove xs i)) = subst (λ zs. T (is_sorted R zs)) (sym cut) (is_sorted-where_key R (λ x. not (eq_by_cmp R k x)) xs (holds _ s)) in (
        ap (is_sorted R) is ∙ yes _ left,
        ap fin.from_sorted is ∙ same_map o exact _ _ (λ q.
            get-from_sorted R (remove xs i) q left ∙ ap (find R q) cut
            ∙ find-where_key R (λ x. not (eq_by_cmp R k x)) q (λ x t. ap (λ r. not (is_eq r)) (sym (alike_right o q x k t))) xs
            ∙ turned (eq_by_cmp R k q) (find R q xs) ∙ ap (λ b. cond b None (find R q xs)) ((eq_by_cmp_equiv o).symm k q)
            ∙ sym (get-remove o (fin.from_sorted xs) k q ∙ ap (cond (eq_by_cmp R q k) None) (get-from_sorted R xs q (holds _ s)))),
      )
    where
      turned : (b : Bool) (v : Option X) → cond (not b) v None ≡ cond b None v
      turned true v = refl
      turned false v = refl

  below-at : (g : K) (xs : List (K × X)) (i : ℕ) (d : K × X) → T (below_all R g xs) → i < length xs → R g (get_or xs i d).0 ≡ Less
  below-at g [] i d h lt = absurd (omega arith)
  below-at g (x ∷ xs) zero d h lt = less _ (first _ _ h)
  below-at g (x ∷ xs) (suc i) d h lt = below-at g xs i d (second _ _ h) (omega arith)

  -- an entry stands at its key
  pub found-at : (xs : List (K × X)) (i : ℕ) (d : K × X) → T (is_sorted R xs) → i < length xs → Place (get_or xs i d).0 xs true i
  found-at [] i d s lt = absurd (omega arith)
  found-at (x ∷ xs) zero d s lt = here (tied_itself o x.0)
  found-at (x ∷ xs) (suc i) d s lt =
      let in_rest : i < length xs = omega arith in
      past (o.antisymm (get_or xs i d).0 x.0 ∙ ap ordering_reverse (below-at x.0 xs i d (first _ _ s) in_rest)) (found-at xs i d (second _ _ s) in_rest)

  -- ---- A search by halves

  -- along keys that rise, the comparisons with a key rise
  ranks_rise : (f : K) (xs : List (K × X)) → T (is_sorted R xs) → IsNonDecreasingBy (λ x. ordering_index (R x.0 f)) xs
  ranks_rise f [] s i j d le lt = absurd (omega arith)
  ranks_rise f (x ∷ xs) s zero zero d le lt = omega arith
  ranks_rise f (x ∷ xs) s zero (suc j) d le lt = later_rank o f x.0 (get_or xs j d).0 (below-at x.0 xs j d (first _ _ s) (omega arith)) (R x.0 f) refl
  ranks_rise f (x ∷ xs) s (suc i) zero d le lt = absurd (omega arith)
  ranks_rise f (x ∷ xs) s (suc i) (suc j) d le lt = ranks_rise f xs (second _ _ s) i j d (omega arith) (omega arith)

  scan-tied : (f : K) (xs : List (K × X)) (i : ℕ) → T (is_sorted R xs) → i < length xs → HoldsAt (λ x. R x.0 f ≡ Equal) xs i → Ok i ≡ scan R f xs
  scan-tied f [] i s lt at = absurd (omega arith)
  scan-tied f (x ∷ xs) zero s lt at = ap (λ r. scan_on r (scan R f xs)) (sym (o.antisymm f x.0 ∙ ap ordering_reverse (at x)))
  scan-tied f (x ∷ xs) (suc i) s lt at =
      let in_rest : i < length xs = omega arith in
      let before : R x.0 f ≡ Less = ap (R x.0) (sym (exact (get_or xs i x).0 f (at x))) ∙ below-at x.0 xs i x (first _ _ s) in_rest in
      ap further (scan-tied f xs i (second _ _ s) in_rest at) ∙ ap (λ r. scan_on r (scan R f xs)) (sym (o.antisymm f x.0 ∙ ap ordering_reverse before))

  scan-parted : (f : K) (xs : List (K × X)) (i : ℕ) → i ≤ length xs → IsPartitionPoint (λ x. R x.0 f ≡ Less) (λ x. R x.0 f ≡ Greater) xs i → Err i ≡ scan R f xs
  scan-parted f [] zero le parted = refl
  scan-parted f [] (suc i) le parted = absurd (omega arith)
  scan-parted f (x ∷ xs) zero le parted = ap (λ r. scan_on r (scan R f xs)) (sym (o.antisymm f x.0 ∙ ap ordering_reverse (parted.1 zero x (omega arith) (omega arith))))
  scan-parted f (x ∷ xs) (suc i) le parted =
      ap further (scan-parted f xs i (omega arith) (λ k d a b. parted.0 (suc k) d (omega arith) (omega arith), λ k d a b. parted.1 (suc k) d (omega arith) (omega arith)))
      ∙ ap (λ r. scan_on r (scan R f xs)) (sym (o.antisymm f x.0 ∙ ap ordering_reverse (parted.0 zero x (omega arith) (omega arith))))

  -- a search by halves ends where a walk does
  pub searched : (f : K) (xs : List (K × X)) (r : Result ℕ ℕ) → is_sorted R xs ≡ true → IsSearchInRange r (length xs) → IsBinarySearchResult (λ x. R x.0 f) xs r → r ≡ scan R f xs
  searched f xs (Ok i) s lt at = scan-tied f xs i (holds _ s) lt at
  searched f xs (Err i) s le parted = scan-parted f xs i le (parted (ranks_rise f xs (holds _ s)))

  -- ---- A filter by the values

  module _ (test : X → Bool) where
    below-filter : (g : K) (xs : List (K × X)) → T (below_all R g xs) → T (below_all R g (filter (λ e. test e.1) xs))
    below-filter g [] h = tt
    below-filter g (x ∷ xs) h =
        let rest = below-filter g xs (second _ _ h) in
        elim (test x.1) as (λ b. T (below_all R g (cond b (x ∷ filter (λ e. test e.1) xs) (filter (λ e. test e.1) xs)))) [ true ↦ both _ _ (first _ _ h) rest | false ↦ rest ]

    sorted-filter : (xs : List (K × X)) → T (is_sorted R xs) → T (is_sorted R (filter (λ e. test e.1) xs))
    sorted-filter [] h = tt
    sorted-filter (x ∷ xs) h =
        let rest = sorted-filter xs (second _ _ h) in
        elim (test x.1) as (λ b. T (is_sorted R (cond b (x ∷ filter (λ e. test e.1) xs) (filter (λ e. test e.1) xs)))) [ true ↦ both _ _ (below-filter x.0 xs (first _ _ h)) rest | false ↦ rest ]

    abbrev passing : X → Option X
    passing v = cond (test v) (Some v) None

    find-filter : (q : K) (xs : List (K × X)) → T (is_sorted R xs) → find R q (filter (λ e. test e.1) xs) ≡ option_and_then passing (find R q xs)
    find-filter q [] h = refl
    find-filter q (x ∷ xs) h = by_tests (find-filter q xs (second _ _ h)) (eq_by_cmp R q x.0) refl (test x.1) refl
      where
        by_tests : find R q (filter (λ e. test e.1) xs) ≡ option_and_then passing (find R q xs) → (a : Bool) → eq_by_cmp R q x.0 ≡ a → (b : Bool) → test x.1 ≡ b → find R q (cond b (x ∷ filter (λ e. test e.1) xs) (filter (λ e. test e.1) xs)) ≡ option_and_then passing (cond a (Some x.1) (find R q xs))
        by_tests ih true ea true eb = ap (λ a. cond a (Some x.1) (find R q (filter (λ e. test e.1) xs))) ea ∙ ap (λ b. cond b (Some x.1) None) (sym eb)
        by_tests ih true ea false eb = ih ∙ ap (option_and_then passing) (ap (λ k. find R k xs) (from_eq R exact q x.0 ea) ∙ unfound o exact x.0 xs (first _ _ h)) ∙ ap (λ b. cond b (Some x.1) None) (sym eb)
        by_tests ih false ea true eb = ap (λ a. cond a (Some x.1) (find R q (filter (λ e. test e.1) xs))) ea ∙ ih
        by_tests ih false ea false eb = ih

  -- those that have not expired
  pub still_is : (expiry : X → ℕ) (t : ℕ) (xs ys : List (K × X)) → is_sorted R xs ≡ true → ys ≡ filter (λ e. ltb t (expiry e.1)) xs → (is_sorted R ys ≡ true) × (fin.from_sorted {R = R} ys ≡ still expiry t (fin.from_sorted xs))
  still_is expiry t xs ys s is =
      let left = sorted-filter (λ v. ltb t (expiry v)) xs (holds _ s) in (
        ap (is_sorted R) is ∙ yes _ left,
        ap fin.from_sorted is ∙ same_map o exact _ _ (λ q.
            get-from_sorted R (filter (λ e. ltb t (expiry e.1)) xs) q left ∙ find-filter (λ v. ltb t (expiry v)) q xs (holds _ s)
            ∙ ap (option_and_then (ahead_by expiry t)) (sym (get-from_sorted R xs q (holds _ s))) ∙ sym (get-still expiry t (fin.from_sorted xs) q)),
      )

  -- ---- Other facts of the maps

  -- without a key that isn't there, a map is the same
  pub remove-absent : (m : FinMap R X) (k : K) → fin.get m k ≡ None → m ≡ fin.remove m k
  remove-absent m k none = same_map o exact _ _ (λ q. by_test q (eq_by_cmp R q k) refl ∙ sym (get-remove o m k q))
    where
      by_test : (q : K) (b : Bool) → eq_by_cmp R q k ≡ b → fin.get m q ≡ cond (eq_by_cmp R q k) None (fin.get m q)
      by_test q true same = ap (fin.get m) (from_eq R exact q k same) ∙ none ∙ ap (λ b. cond b None (fin.get m q)) (sym same)
      by_test q false other = ap (λ b. cond b None (fin.get m q)) (sym other)

  -- what holds of the values in a list holds of those of its map
  pub of_items : (P : X → Type 0) (xs : List (K × X)) → is_sorted R xs ≡ true → AllByRecursion (λ e. P e.1) xs → (k : K) (v : X) → fin.get (fin.from_sorted {R = R} xs) k ≡ Some v → P v
  of_items P xs s all k v is = find-all o exact (λ q x. P x) k xs v all (sym (get-from_sorted R xs k (holds _ s)) ∙ is)

-- ---- Maps whose values come from those of another map

module _ {K X Y : Type 0} (R : K → K → Ordering) (g : X → Y) where
  abbrev pub values_by : List (K × X) → List (K × Y)
  values_by xs = map (λ e. (e.0, g e.1)) xs

  below-values_by : (k : K) (xs : List (K × X)) → below_all R k (values_by xs) ≡ below_all R k xs
  below-values_by k [] = refl
  below-values_by k (x ∷ xs) = ap (λ b. is_lt (R k x.0) && b) (below-values_by k xs)

  pub sorted-values_by : (xs : List (K × X)) → is_sorted R (values_by xs) ≡ is_sorted R xs
  sorted-values_by [] = refl
  sorted-values_by (x ∷ xs) = λ j. below-values_by x.0 xs j && sorted-values_by xs j

  pub find-values_by : (q : K) (xs : List (K × X)) → find R q (values_by xs) ≡ option_map g (find R q xs)
  find-values_by q [] = refl
  find-values_by q (x ∷ xs) = by_test (find-values_by q xs) (eq_by_cmp R q x.0)
    where
      by_test : find R q (values_by xs) ≡ option_map g (find R q xs) → (b : Bool) → cond b (Some (g x.1)) (find R q (values_by xs)) ≡ option_map g (cond b (Some x.1) (find R q xs))
      by_test ih true = refl
      by_test ih false = ih

module _ {K X Y : Type 0} {R : K → K → Ordering} (o : IsTotalOrder R) (exact : IsAntisymmetric R) (g : X → Y) (m : FinMap R X) (n : FinMap R Y)
    (maps : (q : K) → fin.get n q ≡ option_map g (fin.get m q)) where
  pub entries-values_by : fin.entries n ≡ values_by R g (fin.entries m)
  entries-values_by =
      let sorted : T (is_sorted R (values_by R g (fin.entries m))) = subst T (sym (sorted-values_by R g (fin.entries m))) (entries_sorted m) in
      let same : n ≡ fin.from_sorted (values_by R g (fin.entries m)) =
      same_map o exact _ _ (λ q.
      maps q ∙ ap (option_map g) (get-entries m q) ∙ sym (find-values_by R g q (fin.entries m))
      ∙ sym (get-from_sorted R (values_by R g (fin.entries m)) q sorted)) in
      ap fin.entries same ∙ entries-from_sorted R (values_by R g (fin.entries m)) sorted

  pub len-values_by : fin.len n ≡ fin.len m
  len-values_by =
      len-entries n ∙ ap length entries-values_by ∙ length-map (fin.entries m) (λ e. (e.0, g e.1)) ∙ sym (len-entries m)

-- what a write that succeeded left
pub on_success : {X : Type 0} (b : Bool) (after ok earlier : List X) → after ≡ cond b ok earlier → b ≡ true → after ≡ ok
on_success true after ok earlier is succeeded = is
on_success false after ok earlier is succeeded = cc
