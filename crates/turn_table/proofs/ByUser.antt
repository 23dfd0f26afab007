-- The list of five-tuples by their users, and the map of entries.
use Rattle.std.proofs.Common.{◌≡◌, ℕ, zero, suc, ◌+◌, ◌-◌, ◌<◌, ◌≤◌, leb, ⊎_elim, Bool, true, false, cond, T, List, [], ◌∷◌, length, get_or, Option, Some, None, option_map, unwrap_or, slice_get, refl, sym, ap, ◌∙◌, subst, arith, bytes_eq, Ordering, Less, Equal, Greater}
use Rattle.std.specs.FinMap as fin
use Rattle.std.specs.FinMap.{FinMap, is_sorted, entries-insert, entries_sorted, entries-from_sorted, get-entries, get-from_sorted, get-insert, get-remove, len-entries, len-empty, same_map}
use Rattle.std.specs.FinMap.Entries.{put, by_order, find}
use Rattle.std.specs.List.{AllByRecursion, AllWithin, Contains, count_by, fold, insert, remove}
use Rattle.std.specs.Option.{option_map_or}
use Rattle.std.specs.Cmp.{IsStrictWeakOrder}
use Rattle.std.specs.List.Sorted.{IsPartitionedBy, IsSortedBy}
use Rattle.std.specs.Ordering.{is_eq, is_le, is_lt, ordering_index, ordering_reverse}
use Rattle.std.specs.Cmp.Lexicographic.{texts_ties}
use Rattle.std.proofs.lemmas.Bool.{cases_order}
use Rattle.std.proofs.lemmas.Cmp.{eq_by_cmp_equiv, nat_list_cmp_total}
use Rattle.std.proofs.lemmas.List.Edits.{length-insert, get_or-insert_below, get_or-insert_at, get_or-insert_above, length-remove, get_or-remove_below, get_or-remove_above}
use Rattle.std.proofs.lemmas.List.Sorted.{IsPartitionedBy-leb, IsPermutation-insert, IsPermutation-remove, ranks_by, searchable_from_sorted, sorted_far, sum_by-IsPermutation}
use Rattle.std.proofs.lemmas.List.Sums.{sum_by-cons, get_or-le-sum_by, count_by-le-length}
use Rattle.std.proofs.lemmas.Option.{get_or_from_slice_get, slice_get_within}
use Rattle.std.proofs.lemmas.Map.Views.{Contains-from_any}
use Rattle.turn_history.proofs.Entries.{all_entries, pass_none}
use Rattle.turn_history.proofs.Maps.{tuple_total, tuple_exact, from_eq}
use Rattle.turn_types.specs.Prelude.{tuple_cmp, same_tuple}
use Rattle.turn_types.specs.declared.address.FiveTuple.{FiveTuple}
use Rattle.turn_table.specs.Prelude.{NamesRise, IsFirstOf, IsEndOf, IsByUser, name_of, name_cmp}
use Rattle.turn_table.proofs.Options.{is_false, is_true, some_none}
use Rattle.turn_table.proofs.Sorted.{get-removed, values_by, sorted-values_by, find-values_by, entries-values_by}
use Rattle.turn_table.proofs.Tuples.{itself, same_tuple-is}

-- ---- Places

pub lt_is : (o : Ordering) → leb (ordering_index o) 0 ≡ is_lt o
lt_is Less = refl
lt_is Equal = refl
lt_is Greater = refl

pub le_is : (o : Ordering) → leb (ordering_index o) 1 ≡ is_le o
le_is Less = refl
le_is Equal = refl
le_is Greater = refl

-- a test of low answers passes no later name where it fails
pub parted : (name : FiveTuple → List ℕ) (user : List ℕ) (tuples : List FiveTuple) (test : Ordering → Bool) (t : ℕ) → ((o : Ordering) → leb (ordering_index o) t ≡ test o) → NamesRise name tuples → IsPartitionedBy (λ f. test (name_cmp (name f) user)) tuples
parted name user tuples test t is up =
    subst (λ p. IsPartitionedBy p tuples) (λ i f. is (name_cmp (name f) user) i)
    (IsPartitionedBy-leb (λ f. ordering_index (name_cmp (name f) user)) tuples t (searchable_from_sorted nat_list_cmp_total name tuples user up))

-- ---- Edits of sorted lists

module _ {X : Type 0} (before : X → X → Bool) (xs : List X) (up : IsSortedBy before xs) where
  sorted-insert : (i : ℕ) (y : X) → i ≤ length xs → ((k : ℕ) (d : X) → k < i → before y (get_or xs k d) ≡ false) → ((k : ℕ) (d : X) → i ≤ k → k < length xs → before (get_or xs k d) y ≡ false) → IsSortedBy before (insert xs i y)
  sorted-insert i y le low high k d from within = ⊎_elim last (⊎_elim below above) (cases_order (k + 1) i)
    where
      long : length (insert xs i y) ≡ length xs + 1
      long = length-insert xs i y le

      last : k + 1 ≡ i → before (get_or (insert xs i y) (k + 1) d) (get_or (insert xs i y) k d) ≡ false
      last e = (λ j. before ((ap (λ n. get_or (insert xs i y) n d) e ∙ get_or-insert_at xs i y d le) j) (get_or-insert_below xs i y d k (omega arith) le j)) ∙ low k d (omega arith)

      below : k + 1 < i → before (get_or (insert xs i y) (k + 1) d) (get_or (insert xs i y) k d) ≡ false
      below h = (λ j. before (get_or-insert_below xs i y d (k + 1) h le j) (get_or-insert_below xs i y d k (omega arith) le j)) ∙ up k d (omega arith) (omega arith)

      next : (h : i ≤ k) → get_or (insert xs i y) (k + 1) d ≡ get_or xs k d
      next h = get_or-insert_above xs i y d k h le

      above : i < k + 1 → before (get_or (insert xs i y) (k + 1) d) (get_or (insert xs i y) k d) ≡ false
      above h = ⊎_elim
          (λ e. (λ j. before (next (omega arith) j) ((ap (λ n. get_or (insert xs i y) n d) e ∙ get_or-insert_at xs i y d le) j)) ∙ high k d (omega arith) (omega (arith, long)))
          (⊎_elim
          (λ no. absurd (omega arith))
          (λ far.
          let e : k ≡ (k - 1) + 1 = omega arith in
          (λ j. before ((next (omega arith) ∙ ap (λ n. get_or xs n d) e) j) ((ap (λ n. get_or (insert xs i y) n d) e ∙ get_or-insert_above xs i y d (k - 1) (omega arith) le) j))
          ∙ up (k - 1) d (omega arith) (omega (arith, long))))
          (cases_order k i)

  -- what stands at a place of the rest stood there, or one further
  stood : (i : ℕ) → i < length xs → (k : ℕ) (d : X) → (j : ℕ) × (k ≤ j) × (j ≤ k + 1) × (get_or (remove xs i) k d ≡ get_or xs j d)
  stood i lt k d =
      let further : i ≤ k → (j : ℕ) × (k ≤ j) × (j ≤ k + 1) × (get_or (remove xs i) k d ≡ get_or xs j d) = λ le. (k + 1, omega arith, omega arith, get_or-remove_above xs i d k le lt) in
      ⊎_elim (λ same. further (omega arith)) (⊎_elim (λ below. (k, omega arith, omega arith, get_or-remove_below xs i d k below lt)) (λ above. further (omega arith))) (cases_order k i)

  sorted-remove : IsStrictWeakOrder before → (i : ℕ) → i < length xs → IsSortedBy before (remove xs i)
  sorted-remove o i lt k d from within =
      let low = stood i lt k d in
      let high = stood i lt (k + 1) d in
      (λ j. before (high.3 j) (low.3 j)) ∙ sorted_far before o xs up low.0 high.0 d (omega (arith, low.2, high.1)) (omega (arith, high.2, length-remove xs i lt))

-- ---- Names

not_above : (a b : List ℕ) → is_le (name_cmp a b) ≡ true → is_lt (name_cmp b a) ≡ false
not_above a b h = ap is_lt (nat_list_cmp_total.antisymm b a) ∙ turned (name_cmp a b) h
  where
    turned : (o : Ordering) → is_le o ≡ true → is_lt (ordering_reverse o) ≡ false
    turned Less h = refl
    turned Equal h = refl
    turned Greater h = cc

not_below : (o : Ordering) → is_le o ≡ false → is_lt o ≡ false
not_below Less h = cc
not_below Equal h = refl
not_below Greater h = refl

module _ (name : FiveTuple → List ℕ) (tuples : List FiveTuple) (up : NamesRise name tuples) where
  pub rises-insert : (user : List ℕ) (tuple : FiveTuple) (end : ℕ) → name tuple ≡ user → IsEndOf name user tuples end → NamesRise name (insert tuples end tuple)
  rises-insert user tuple end named place =
      sorted-insert (λ f g. is_lt (name_cmp (name f) (name g))) tuples up end tuple place.within
      (λ k d lt. ap (λ n. is_lt (name_cmp n (name (get_or tuples k d)))) named ∙ not_above (name (get_or tuples k d)) user (place.point.0 k d (omega arith) lt))
      (λ k d le lt. ap (λ n. is_lt (name_cmp (name (get_or tuples k d)) n)) named ∙ not_below (name_cmp (name (get_or tuples k d)) user) (place.point.1 k d le lt))

  pub rises-remove : (i : ℕ) → i < length tuples → NamesRise name (remove tuples i)
  rises-remove i lt = sorted-remove (λ f g. is_lt (name_cmp (name f) (name g))) tuples up (ranks_by nat_list_cmp_total name) i lt

-- ---- Counts

abbrev one : Bool → ℕ
one b = cond b 1 0

module _ {X : Type 0} where
  count-cons : (p : X → Bool) (x : X) (xs : List X) → count_by p (x ∷ xs) ≡ one (p x) + count_by p xs
  count-cons p x xs = sum_by-cons (λ y. one (p y)) x xs

  -- as many pass as stand before the place where they end
  count-split : (p : X → Bool) (xs : List X) (i : ℕ) → i ≤ length xs → AllWithin (λ x. p x ≡ true) xs 0 i → AllWithin (λ x. p x ≡ false) xs i (length xs) → count_by p xs ≡ i
  count-split p [] zero le before after = refl
  count-split p [] (suc i) le before after = absurd (omega arith)
  count-split p (x ∷ xs) zero le before after =
      let here = ap one (after 0 x (omega arith) (omega arith)) in
      let rest = count-split p xs 0 (omega arith) (λ k d from within. absurd (omega arith)) (λ k d from within. after (suc k) d (omega arith) (omega arith)) in
      omega (arith, count-cons p x xs)
  count-split p (x ∷ xs) (suc i) le before after =
      let here = ap one (before 0 x (omega arith) (omega arith)) in
      let rest = count-split p xs i (omega arith) (λ k d from within. before (suc k) d (omega arith) (omega arith)) (λ k d from within. after (suc k) d (omega arith) (omega arith)) in
      omega (arith, count-cons p x xs)

  count-sum : (p q r : X → Bool) → ((x : X) → one (r x) ≡ one (p x) + one (q x)) → (xs : List X) → count_by r xs ≡ count_by p xs + count_by q xs
  count-sum p q r is [] = refl
  count-sum p q r is (x ∷ xs) = omega (arith, is x, count-sum p q r is xs, count-cons p x xs, count-cons q x xs, count-cons r x xs)

  count-alike : (p q : X → Bool) (xs : List X) → AllByRecursion (λ x. p x ≡ q x) xs → count_by p xs ≡ count_by q xs
  count-alike p q [] h = refl
  count-alike p q (x ∷ xs) h = omega (arith, ap one h.0, count-alike p q xs h.1, count-cons p x xs, count-cons q x xs)

  count-none : (p : X → Bool) (xs : List X) → AllByRecursion (λ x. p x ≡ false) xs → count_by p xs ≡ 0
  count-none p [] h = refl
  count-none p (x ∷ xs) h = omega (arith, ap one h.0, count-none p xs h.1, count-cons p x xs)

-- ---- Those of one user

le_sum : (o : Ordering) → one (is_le o) ≡ one (is_lt o) + one (is_eq o)
le_sum Less = refl
le_sum Equal = refl
le_sum Greater = refl

-- between the two places of a user stand as many as have the user's name
pub between : (name : FiveTuple → List ℕ) (user : List ℕ) (tuples : List FiveTuple) (first end : ℕ) → IsFirstOf name user tuples first → IsEndOf name user tuples end → first + count_by (λ f. bytes_eq (name f) user) tuples ≡ end
between name user tuples first end low high =
    let below = count-split (λ f. is_lt (name_cmp (name f) user)) tuples first low.within low.point.0 low.point.1 in
    let upto = count-split (λ f. is_le (name_cmp (name f) user)) tuples end high.within high.point.0 high.point.1 in
    let all = count-sum (λ f. is_lt (name_cmp (name f) user)) (λ f. is_eq (name_cmp (name f) user)) (λ f. is_le (name_cmp (name f) user)) (λ f. le_sum (name_cmp (name f) user)) tuples in
    let same = ap (λ p. count_by p tuples) (λ i f. texts_ties (name f) user i) in
    omega (arith, below, upto, all, same)

module _ {X : Type 0} (user : X → List ℕ) where
  -- as many five-tuples have a name as entries do
  users-counted : (m : FinMap tuple_cmp X) (tuples : List FiveTuple) → IsByUser user m tuples → (name : List ℕ) → count_by (λ f. bytes_eq (name_of user (fin.get m) f) name) tuples ≡ count_by (λ e. bytes_eq (user e.1) name) (fin.entries m)
  users-counted m tuples by name =
      by.counted (λ f. bytes_eq (name_of user (fin.get m) f) name)
      ∙ count-alike (λ e. bytes_eq (name_of user (fin.get m) e.0) name) (λ e. bytes_eq (user e.1) name) (fin.entries m)
      (all_entries tuple_total tuple_exact (λ e. bytes_eq (name_of user (fin.get m) e.0) name ≡ bytes_eq (user e.1) name) m (λ f e is. ap (λ o. bytes_eq (option_map_or user o []) name) is))

-- ---- Counts of keys

abbrev by_key : {K X : Type 0} → (K → Bool) → K × X → Bool
by_key p e = p e.0

module _ {K X : Type 0} (R : K → K → Ordering) where
  count-put : (p : K → Bool) (k : K) (v : X) (es : List (K × X)) → find R k es ≡ None → count_by (by_key p) (put R k v es) ≡ one (p k) + count_by (by_key p) es
  count-put p k v [] none = count-cons (by_key p) (k, v) []
  count-put p k v (e ∷ es) none = by_place (count-put p k v es) (R k e.0) none
    where
      by_place : (find R k es ≡ None → count_by (by_key p) (put R k v es) ≡ one (p k) + count_by (by_key p) es) → (o : Ordering) → cond (is_eq o) (Some e.1) (find R k es) ≡ None → count_by (by_key p) (by_order o ((k, v) ∷ e ∷ es) ((e.0, v) ∷ es) (e ∷ put R k v es)) ≡ one (p k) + count_by (by_key p) (e ∷ es)
      by_place ih Less none = count-cons (by_key p) (k, v) (e ∷ es)
      by_place ih Equal none = cc
      by_place ih Greater none = omega (arith, ih none, count-cons (by_key p) e (put R k v es), count-cons (by_key p) e es)

abbrev keys-counted : {X : Type 0} → FinMap tuple_cmp X → (FiveTuple → Bool) → ℕ
keys-counted m p = count_by (by_key p) (fin.entries m)

module _ {X : Type 0} (m : FinMap tuple_cmp X) (tuple : FiveTuple) where
  counted-insert : (v : X) → fin.get m tuple ≡ None → (p : FiveTuple → Bool) → keys-counted (fin.insert m tuple v) p ≡ one (p tuple) + keys-counted m p
  counted-insert v none p = ap (count_by (by_key p)) (entries-insert tuple_total m tuple v) ∙ count-put tuple_cmp p tuple v (fin.entries m) (sym (get-entries m tuple) ∙ none)

  put_back : (v : X) → fin.get m tuple ≡ Some v → fin.insert (fin.remove m tuple) tuple v ≡ m
  put_back v some = same_map tuple_total tuple_exact _ _ (λ q. get-insert tuple_total (fin.remove m tuple) tuple v q ∙ ap (cond (same_tuple q tuple) (Some v)) (get-remove tuple_total m tuple q) ∙ by_test q (same_tuple q tuple) refl)
    where
      by_test : (q : FiveTuple) (b : Bool) → same_tuple q tuple ≡ b → cond b (Some v) (cond b None (fin.get m q)) ≡ fin.get m q
      by_test q true is = sym some ∙ ap (fin.get m) (sym (from_eq tuple_cmp tuple_exact q tuple is))
      by_test q false is = refl

module _ {X : Type 0} (m : FinMap tuple_cmp X) (tuple : FiveTuple) (v : X) (some : fin.get m tuple ≡ Some v) where
  counted-remove : (p : FiveTuple → Bool) → one (p tuple) + keys-counted (fin.remove m tuple) p ≡ keys-counted m p
  counted-remove p = sym (counted-insert (fin.remove m tuple) tuple v (get-removed tuple_total m tuple) p) ∙ ap (λ n. keys-counted n p) (put_back m tuple v some)

-- ---- Maps of the same values

count-values_by : {K X Y : Type 0} (R : K → K → Ordering) (g : X → Y) (p : K → Bool) (n : ℕ) (es : List (K × X)) → fold (λ a e. a + one (by_key p e)) n (values_by R g es) ≡ fold (λ a e. a + one (by_key p e)) n es
count-values_by R g p n [] = refl
count-values_by R g p n (e ∷ es) = count-values_by R g p (n + one (p e.0)) es

counted-alike : {X Y Z : Type 0} (f : X → Z) (g : Y → Z) (m : FinMap tuple_cmp X) (n : FinMap tuple_cmp Y) → ((q : FiveTuple) → option_map g (fin.get n q) ≡ option_map f (fin.get m q)) → (p : FiveTuple → Bool) → keys-counted m p ≡ keys-counted n p
counted-alike f g m n is p =
    let values = values_by tuple_cmp f (fin.entries m) in
    let sorted : T (is_sorted tuple_cmp values) = subst T (sym (sorted-values_by tuple_cmp f (fin.entries m))) (entries_sorted m) in
    let both = fin.from_sorted {R = tuple_cmp} values in
    let of_n = entries-values_by tuple_total tuple_exact g n both (λ q. get-from_sorted tuple_cmp values q sorted ∙ find-values_by tuple_cmp f q (fin.entries m) ∙ ap (option_map f) (sym (get-entries m q)) ∙ sym (is q)) in
    sym (count-values_by tuple_cmp f p 0 (fin.entries m))
    ∙ ap (count_by (by_key p)) (sym (entries-from_sorted tuple_cmp values sorted) ∙ of_n)
    ∙ count-values_by tuple_cmp g p 0 (fin.entries n)

-- ---- Five-tuples that are listed

abbrev Counted : {X : Type 0} → FinMap tuple_cmp X → List FiveTuple → Type 0
Counted m tuples = (p : FiveTuple → Bool) → count_by p tuples ≡ keys-counted m p

contained : (tuple : FiveTuple) (tuples : List FiveTuple) → 1 ≤ count_by (same_tuple tuple) tuples → Contains tuples tuple
contained tuple tuples some = Contains-from_any same_tuple-is tuple tuples (is_true _ (λ none.
    let zero = count-none (same_tuple tuple) tuples (pass_none (same_tuple tuple) tuples none) in
    absurd (omega (arith, some, zero))))

module _ {X : Type 0} (m : FinMap tuple_cmp X) (tuples : List FiveTuple) (counted : Counted m tuples) (tuple : FiveTuple) where
  pub listed : (v : X) → fin.get m tuple ≡ Some v → Contains tuples tuple
  listed v some = contained tuple tuples (omega (arith, ap one (itself tuple), counted-remove m tuple v some (same_tuple tuple), counted (same_tuple tuple)))

  unlisted : fin.get m tuple ≡ None → (k : ℕ) (d : FiveTuple) → k < length tuples → same_tuple (get_or tuples k d) tuple ≡ false
  unlisted none k d lt =
      let missing = count-none (by_key (same_tuple tuple)) (fin.entries m)
      (all_entries tuple_total tuple_exact (λ e. same_tuple tuple e.0 ≡ false) m (λ q v is. is_false _ (λ same. some_none is (ap (fin.get m) (sym (same_tuple-is tuple q same)) ∙ none)))) in
      (eq_by_cmp_equiv tuple_total).symm (get_or tuples k d) tuple
      ∙ is_false _ (λ same. absurd (omega (arith, ap one same, missing, counted (same_tuple tuple), get_or-le-sum_by (λ f. one (same_tuple tuple f)) tuples k d lt)))

-- ---- Names that stay

-- the five-tuples of the list have the same names
abbrev Alike : (FiveTuple → List ℕ) → (FiveTuple → List ℕ) → List FiveTuple → Type 0
Alike name other tuples = (k : ℕ) (d : FiveTuple) → k < length tuples → other (get_or tuples k d) ≡ name (get_or tuples k d)

module _ (name other : FiveTuple → List ℕ) (tuples : List FiveTuple) (alike : Alike name other tuples) where
  rises-alike : NamesRise name tuples → NamesRise other tuples
  rises-alike up k d from within = (λ i. is_lt (name_cmp (alike (k + 1) d within i) (alike k d (omega arith) i))) ∙ up k d from within

  end-alike : (user : List ℕ) (end : ℕ) → IsEndOf name user tuples end → IsEndOf other user tuples end
  end-alike user end place = record {
    within = place.within;
    point = (
      λ k d from within. (let le = place.within in ap (λ n. is_le (name_cmp n user)) (alike k d (omega arith))) ∙ place.point.0 k d from within,
      λ k d from within. ap (λ n. is_le (name_cmp n user)) (alike k d within) ∙ place.point.1 k d from within,
    );
  }

module _ {X : Type 0} (user : X → List ℕ) where
  -- the empty list is that of the empty map
  pub none : IsByUser user fin.empty []
  none = record {
    rises = λ k d from within. absurd (omega arith);
    counted = λ p.
        let size = len-entries (fin.empty {X = X} {R = tuple_cmp}) in
        let few = count_by-le-length (by_key p) (fin.entries (fin.empty {X = X} {R = tuple_cmp})) in
        omega (arith, len-empty tuple_cmp X);
  }

  named-insert : (m : FinMap tuple_cmp X) (tuple : FiveTuple) (v : X) (f : FiveTuple) (b : Bool) → same_tuple f tuple ≡ b → name_of user (fin.get (fin.insert m tuple v)) f ≡ option_map_or user (cond b (Some v) (fin.get m f)) []
  named-insert m tuple v f b is = ap (λ o. option_map_or user o []) (get-insert tuple_total m tuple v f ∙ ap (λ b. cond b (Some v) (fin.get m f)) is)

  named-remove : (m : FinMap tuple_cmp X) (tuple : FiveTuple) (f : FiveTuple) → same_tuple f tuple ≡ false → name_of user (fin.get (fin.remove m tuple)) f ≡ name_of user (fin.get m) f
  named-remove m tuple f is = ap (λ o. option_map_or user o []) (get-remove tuple_total m tuple f ∙ ap (λ b. cond b None (fin.get m f)) is)

  -- a five-tuple that gets an entry goes after the last of its user
  pub inserted : (m : FinMap tuple_cmp X) (tuples : List FiveTuple) → IsByUser user m tuples → (tuple : FiveTuple) (v : X) (end : ℕ) → fin.get m tuple ≡ None → IsEndOf (name_of user (fin.get m)) (user v) tuples end → IsByUser user (fin.insert m tuple v) (insert tuples end tuple)
  inserted m tuples by tuple v end absent place =
      let old = name_of user (fin.get m) in
      let new = name_of user (fin.get (fin.insert m tuple v)) in
      let alike : Alike old new tuples = λ k d lt. named-insert m tuple v (get_or tuples k d) false (unlisted m tuples by.counted tuple absent k d lt) in
      let own : new tuple ≡ user v = named-insert m tuple v tuple true (itself tuple) in
      record {
        rises = rises-insert new tuples (rises-alike old new tuples alike by.rises) (user v) tuple end own (end-alike old new tuples alike (user v) end place);
        counted = λ p. sum_by-IsPermutation (λ f. one (p f)) (tuple ∷ tuples) (insert tuples end tuple) (IsPermutation-insert tuples end tuple) ∙ count-cons p tuple tuples ∙ ap (λ n. one (p tuple) + n) (by.counted p) ∙ sym (counted-insert m tuple v absent p);
      }

  -- one that loses its entry is taken out
  pub removed : (m : FinMap tuple_cmp X) (tuples : List FiveTuple) → IsByUser user m tuples → (tuple : FiveTuple) (v : X) (place : ℕ) → fin.get m tuple ≡ Some v → slice_get tuples place ≡ Some tuple → IsByUser user (fin.remove m tuple) (remove tuples place)
  removed m tuples by tuple v place there at =
      let old = name_of user (fin.get m) in
      let new = name_of user (fin.get (fin.remove m tuple)) in
      let left = remove tuples place in
      let lt = slice_get_within tuples place tuple at in
      let counted : Counted (fin.remove m tuple) left = λ p.
      let all = sum_by-IsPermutation (λ f. one (p f)) tuples (tuple ∷ left) (IsPermutation-remove tuples place tuple lt (sym (get_or_from_slice_get tuples place tuple tuple at))) in
      let parts = count-cons p tuple left in
      omega (arith, by.counted p, counted-remove m tuple v there p) in
      let alike : Alike old new left = λ k d within. named-remove m tuple (get_or left k d) (unlisted (fin.remove m tuple) left counted tuple (get-removed tuple_total m tuple) k d within) in
      record {
        rises = rises-alike old new left alike (rises-remove old tuples by.rises place lt);
        counted = counted;
      }

-- ---- Another map with the same five-tuples and users

unwrapped : {X : Type 0} (user : X → List ℕ) (o : Option X) → option_map_or user o [] ≡ unwrap_or (option_map user o) []
unwrapped user None = refl
unwrapped user (Some x) = refl

renamed : {X Y : Type 0} (user : X → List ℕ) (other : Y → List ℕ) (m : FinMap tuple_cmp X) (n : FinMap tuple_cmp Y) → ((f : FiveTuple) → option_map other (fin.get n f) ≡ option_map user (fin.get m f)) → (f : FiveTuple) → name_of other (fin.get n) f ≡ name_of user (fin.get m) f
renamed user other m n is f = unwrapped other (fin.get n f) ∙ ap (λ o. unwrap_or o []) (is f) ∙ sym (unwrapped user (fin.get m f))

-- has the same list
pub kept : {X Y : Type 0} (user : X → List ℕ) (other : Y → List ℕ) (m : FinMap tuple_cmp X) (n : FinMap tuple_cmp Y) (tuples : List FiveTuple) → ((f : FiveTuple) → option_map other (fin.get n f) ≡ option_map user (fin.get m f)) → IsByUser user m tuples → IsByUser other n tuples
kept user other m n tuples is by = record {
  rises = rises-alike (name_of user (fin.get m)) (name_of other (fin.get n)) tuples (λ k d lt. renamed user other m n is (get_or tuples k d)) by.rises;
  counted = λ p. by.counted p ∙ counted-alike user other m n is p;
}

-- as many five-tuples have a name as entries of such a map do
pub counted-in : {X Y : Type 0} (user : X → List ℕ) (other : Y → List ℕ) (m : FinMap tuple_cmp X) (n : FinMap tuple_cmp Y) (tuples : List FiveTuple) → ((f : FiveTuple) → option_map other (fin.get n f) ≡ option_map user (fin.get m f)) → IsByUser user m tuples → (name : List ℕ) → count_by (λ f. bytes_eq (name_of user (fin.get m) f) name) tuples ≡ count_by (λ e. bytes_eq (other e.1) name) (fin.entries n)
counted-in user other m n tuples is by name =
    ap (λ p. count_by p tuples) (λ i f. bytes_eq (sym (renamed user other m n is f) i) name)
    ∙ users-counted other n tuples (kept user other m n tuples is by) name
