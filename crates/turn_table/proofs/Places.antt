-- Places in lists, by tests of what stands there.
use Rattle.std.proofs.Common.{◌≡◌, ℕ, zero, suc, ◌+◌, ◌<◌, ◌≤◌, Bool, true, false, cond, List, [], ◌∷◌, length, refl, sym, ap, ◌∙◌, subst, arith, Some, None, get_or, slice_get, take, drop, ◌-◌, add-one, find, nat_le, nat_cmp, leb-false, leb-true}
use Rattle.std.specs.List.{AllByRecursion, position_from}
use Rattle.std.specs.Map.{values_of}
use Rattle.std.proofs.lemmas.Cmp.{nat_cmp_total}
use Rattle.std.proofs.lemmas.List.{length-drop, length-map, take_all}
use Rattle.std.proofs.lemmas.Option.{same_Some}
use Rattle.std.specs.FinMap as fin
use Rattle.std.specs.FinMap.{FinMap, entries_sorted, get-entries, get-from_entries, nat_cmp-IsAntisymmetric}
use Rattle.turn_history.proofs.Entries.{find-all, of_entries}
use Rattle.turn_history.proofs.Maps.{tuple_total, tuple_exact}
use Rattle.turn_history.specs.declared.reservation.Reservation.{Reservation}
use Rattle.turn_history.specs.Prelude.{FiveTuple}
use Rattle.turn_table.specs.Prelude.{held_in, Held}
use Rattle.turn_table.proofs.Sorted.{find-found, found-at}

-- ---- A list

module _ {X : Type 0} (p : X → Bool) where
  -- what a search by the test finds
  found_place : (xs : List X) (n i : ℕ) (d : X) → position_from p n xs ≡ Some i → (k : ℕ) × (i ≡ n + k) × (k < length xs) × (p (get_or xs k d) ≡ true) × (find p xs ≡ Some (get_or xs k d))
  found_place [] n i d e = cc
  found_place (x ∷ xs) n i d e = by_test (found_place xs (n + 1) i d) (p x) refl e
    where
      by_test : (position_from p (n + 1) xs ≡ Some i → (k : ℕ) × (i ≡ (n + 1) + k) × (k < length xs) × (p (get_or xs k d) ≡ true) × (find p xs ≡ Some (get_or xs k d))) → (b : Bool) → p x ≡ b
          → cond b (Some n) (position_from p (n + 1) xs) ≡ Some i → (k : ℕ) × (i ≡ n + k) × (k < suc (length xs)) × (p (get_or (x ∷ xs) k d) ≡ true) × (find p (x ∷ xs) ≡ Some (get_or (x ∷ xs) k d))
      by_test ih true px e = let same : n ≡ i = cc in (zero, omega arith, omega arith, px, ap (λ b. cond b (Some x) (find p xs)) px)
      by_test ih false px e = let more = ih e in (suc more.0, omega (arith, more.1), omega (arith, more.2), more.3, ap (λ b. cond b (Some x) (find p xs)) px ∙ more.4)

  pub passes : (xs : List X) (i : ℕ) (d : X) → Some i ≡ position_from p 0 xs → (i < length xs) × (p (get_or xs i d) ≡ true)
  passes xs i d e =
      let found = found_place xs 0 i d (sym e) in
      let same : i ≡ found.0 = omega (arith, found.1) in
      (omega (arith, found.2), ap p (ap (λ k. get_or xs k d) same) ∙ found.3)

  pub found_is : (xs : List X) (i : ℕ) (d : X) → Some i ≡ position_from p 0 xs → find p xs ≡ Some (get_or xs i d)
  found_is xs i d e = let found = found_place xs 0 i d (sym e) in found.4 ∙ ap (λ k. Some (get_or xs k d)) (omega (arith, found.1))

  pub position_none : (xs : List X) (n : ℕ) → position_from p n xs ≡ None → AllByRecursion (λ x. p x ≡ false) xs
  position_none [] n e = tt
  position_none (x ∷ xs) n e = by_test (position_none xs (n + 1)) (p x) refl e
    where
      by_test : (position_from p (n + 1) xs ≡ None → AllByRecursion (λ y. p y ≡ false) xs) → (b : Bool) → p x ≡ b → cond b (Some n) (position_from p (n + 1) xs) ≡ None → (p x ≡ false) × AllByRecursion (λ y. p y ≡ false) xs
      by_test ih true px e = cc
      by_test ih false px e = (px, ih e)

  pub find-none : (xs : List X) → AllByRecursion (λ x. p x ≡ false) xs → find p xs ≡ None
  find-none [] all = refl
  find-none (x ∷ xs) all = ap (λ b. cond b (Some x) (find p xs)) all.0 ∙ find-none xs all.1

module _ {X : Type 0} (P Q : X → Type 0) (weaker : (x : X) → P x → Q x) where
  all_next_suc : (xs : List X) (i : ℕ) (x : X) → i < length xs → x ≡ get_or xs i x → Q x → AllByRecursion P (take i xs) → AllByRecursion Q (take (suc i) xs)
  all_next_suc [] i x lt is q all = absurd (omega arith)
  all_next_suc (y ∷ ys) zero x lt is q all = (subst Q is q, tt)
  all_next_suc (y ∷ ys) (suc i) x lt is q all = (weaker y all.0, all_next_suc ys i x (omega arith) is q all.1)

  -- one more
  pub all_next : (xs : List X) (i : ℕ) (x : X) → i < length xs → x ≡ get_or xs i x → Q x → AllByRecursion P (take i xs) → AllByRecursion Q (take (i + 1) xs)
  all_next xs i x lt is q all = rw add-one (all_next_suc xs i x lt is q all)

pub all_of : {X : Type 0} (P : X → Type 0) (xs : List X) (i : ℕ) → length xs ≤ i → AllByRecursion P (take i xs) → AllByRecursion P xs
all_of P xs i le all = subst (AllByRecursion P) (take_all i xs le) all

-- all from a place on
pub all_taken : {X : Type 0} (xs : List X) (k : ℕ) → take (length xs - k) (drop k xs) ≡ drop k xs
all_taken xs k = take_all (length xs - k) (drop k xs) (omega (arith, length-drop k xs))

-- ---- The entries of a map

-- what a read past the end of the reserved ports gives
abbrev pub no_port : ℕ × Reservation
no_port = (0, record { token = record { 0 = [] }; expiry = 0 })

module _ {V : Type 0} (test : ℕ × V → Bool) (m : FinMap nat_cmp V) where
  pub entry_found : (xs : List (ℕ × V)) → xs ≡ fin.entries m → (i : ℕ) (d : ℕ × V) → Some i ≡ position_from test 0 xs
      → (fin.get m (get_or xs i d).0 ≡ Some (get_or xs i d).1) × (test (get_or xs i d) ≡ true)
  entry_found xs is = subst (λ ys. (i : ℕ) (d : ℕ × V) → Some i ≡ position_from test 0 ys → (fin.get m (get_or ys i d).0 ≡ Some (get_or ys i d).1) × (test (get_or ys i d) ≡ true)) (sym is) (λ i d found.
      let place = passes test (fin.entries m) i d found in (
        get-entries m (get_or (fin.entries m) i d).0
            ∙ find-found nat_cmp_total nat_cmp-IsAntisymmetric (get_or (fin.entries m) i d).0 (fin.entries m) i d
            (found-at nat_cmp_total nat_cmp-IsAntisymmetric (fin.entries m) i d (entries_sorted m) place.0),
        place.1,
      ))

  pub no_entry : (xs : List (ℕ × V)) → xs ≡ fin.entries m → None ≡ position_from test 0 xs → (q : ℕ) (v : V) → fin.get m q ≡ Some v → test (q, v) ≡ false
  no_entry xs is none =
      of_entries nat_cmp_total nat_cmp-IsAntisymmetric (λ p. test p ≡ false) m (subst (AllByRecursion (λ p. test p ≡ false)) is (position_none test xs 0 (sym none)))

-- ---- What is held

-- what holds of all values holds of what is found
pub all_in : (P : Held → Type 0) (xs : List (FiveTuple × Held)) → AllByRecursion P (values_of xs) → (f : FiveTuple) (h : Held) → fin.get (held_in xs) f ≡ Some h → P h
all_in P xs all f h is = find-all tuple_total tuple_exact (λ q k. P k) f xs h (each xs all) (sym (get-from_entries tuple_total xs f) ∙ is)
  where
    each : (ys : List (FiveTuple × Held)) → AllByRecursion P (values_of ys) → AllByRecursion (λ p. P p.1) ys
    each [] all = tt
    each (y ∷ ys) all = (all.0, each ys all.1)

value_got : (xs : List (FiveTuple × Held)) (i : ℕ) (x : FiveTuple × Held) → slice_get xs i ≡ Some x → get_or (values_of xs) i x.1 ≡ x.1
value_got [] i x is = cc
value_got (y ∷ ys) zero x is = ap (λ p. p.1) (same_Some y x is)
value_got (y ∷ ys) (suc i) x is = value_got ys i x is

module _ (t : ℕ) (xs : List (FiveTuple × Held)) where
  pub none_past : None ≡ position_from (λ h. nat_le h.entry.expiry t) 0 (values_of xs) → (f : FiveTuple) (h : Held) → fin.get (held_in xs) f ≡ Some h → t < h.entry.expiry
  none_past none f h is =
      leb-false h.entry.expiry t
      (all_in (λ k. nat_le k.entry.expiry t ≡ false) xs (position_none (λ k. nat_le k.entry.expiry t) (values_of xs) 0 (sym none)) f h is)

  pub past : (i : ℕ) → Some i ≡ position_from (λ h. nat_le h.entry.expiry t) 0 (values_of xs) → (x : FiveTuple × Held) → slice_get xs i ≡ Some x → x.1.entry.expiry ≤ t
  past i found x is =
      leb-true x.1.entry.expiry t
      (ap (λ h. nat_le h.entry.expiry t) (sym (value_got xs i x is)) ∙ (passes (λ h. nat_le h.entry.expiry t) (values_of xs) i x.1 found).1)

pub within : (t : ℕ) (xs : List (FiveTuple × Held)) (i : ℕ) → Some i ≡ position_from (λ h. nat_le h.entry.expiry t) 0 (values_of xs) → i < length xs
within t [] i found = cc
within t (x ∷ xs) i found =
    let lt = (passes (λ k. nat_le k.entry.expiry t) (values_of (x ∷ xs)) i x.1 found).0 in
    omega (arith, lt, length-map xs (λ e. e.1))
