-- Entries without what has expired in them.
use Rattle.std.proofs.Common.{◌≡◌, ℕ, zero, suc, ◌+◌, ◌<◌, ◌≤◌, set, List, [], ◌∷◌, ◌++◌, map, take, drop, length, sym, ap, ◌∙◌, arith, get_or, slice_get, Some, option_map}
use Rattle.std.specs.Map.{values_of}
use Rattle.std.specs.FinMap as fin
use Rattle.std.specs.FinMap.{find, get-from_entries}
use Rattle.std.proofs.Math.ListN.{drop_of_length-le}
use Rattle.std.proofs.lemmas.List.{append-nil, get_or-map, take_all}
use Rattle.std.proofs.lemmas.List.Edits.{map_over_more}
use Rattle.std.proofs.lemmas.Option.{same_Some}
use Rattle.indexmap.specs.IndexMap.{set_value_at}
use Rattle.turn_history.proofs.Maps.{tuple_total}
use Rattle.turn_history.specs.Prelude.{Entry, FiveTuple}
use Rattle.turn_types.specs.Prelude.{tuple_cmp}
use Rattle.turn_table.specs.Prelude.{held_in, still_entry, still_pair, entries_of, Held, pair_of, pairs}
use Rattle.turn_table.proofs.Held.{get-entries_of}
use Rattle.turn_table.proofs.Options.{mapped_twice}
use Rattle.turn_table.proofs.Sorted.{find-values_by}

-- ---- One after another

value_at : (xs : List (FiveTuple × Held)) (i : ℕ) (h : Held) → slice_get (values_of xs) i ≡ Some h → (f : FiveTuple) × (i < length xs) × (get_or xs i (f, h) ≡ (f, h))
value_at [] i h is = cc
value_at (x ∷ xs) zero h is = (x.0, omega arith, λ j. (x.0, same_Some x.1 h is j))
value_at (x ∷ xs) (suc i) h is = let more = value_at xs i h is in (more.0, omega (arith, more.1), more.2)

pairs-set_value_at : (xs : List (FiveTuple × Held)) (i : ℕ) (x : FiveTuple × Held) (k : Held) → i < length xs → get_or xs i x ≡ x → pairs (set_value_at xs i k) ≡ set (pairs xs) i (x.0, k.entry)
pairs-set_value_at [] i x k lt is = absurd (omega arith)
pairs-set_value_at (y ∷ ys) zero x k lt is = ap (λ z. (z.0, k.entry) ∷ pairs ys) is
pairs-set_value_at (y ∷ ys) (suc i) x k lt is = ap (λ zs. pair_of y ∷ zs) (pairs-set_value_at ys i x k (omega arith) is)

-- one more entry is purged
pub purged_more : (t : ℕ) (ps : List (FiveTuple × Entry)) (xs : List (FiveTuple × Held)) (i : ℕ) (h k : Held) → i < length ps → pairs xs ≡ map (still_pair t) (take i ps) ++ drop i ps → slice_get (values_of xs) i ≡ Some h → k.entry ≡ still_entry t h.entry → pairs (set_value_at xs i k) ≡ map (still_pair t) (take (i + 1) ps) ++ drop (i + 1) ps
purged_more t ps xs i h k lt so at is =
    let place = value_at xs i h at in
    let x : FiveTuple × Held = (place.0, h) in
    pairs-set_value_at xs i x k place.1 place.2
    ∙ ap (λ e. set (pairs xs) i (place.0, e)) is
    ∙ map_over_more (still_pair t) ps (pairs xs) i (pair_of x) lt so (sym (get_or-map pair_of xs i x (pair_of x) place.1 ∙ ap pair_of place.2))

-- at the end all are
pub purged_end : (t : ℕ) (ps qs : List (FiveTuple × Entry)) (i : ℕ) → length ps ≤ i → qs ≡ map (still_pair t) (take i ps) ++ drop i ps → qs ≡ map (still_pair t) ps
purged_end t ps qs i le so =
    so ∙ (λ j. map (still_pair t) (take_all i ps le j) ++ drop_of_length-le ps {i = i} le j) ∙ append-nil (map (still_pair t) ps)

-- ---- All

module _ (t : ℕ) (xs ys : List (FiveTuple × Held)) (are : pairs ys ≡ map (still_pair t) (pairs xs)) where
  pub get-purged_entries : (q : FiveTuple) → fin.get (entries_of (held_in ys)) q ≡ option_map (still_entry t) (fin.get (entries_of (held_in xs)) q)
  get-purged_entries q =
      entry-find ys ∙ ap (find tuple_cmp q) are ∙ find-values_by tuple_cmp (still_entry t) q (pairs xs)
      ∙ ap (option_map (still_entry t)) (sym (entry-find xs))
    where
      entry-find : (zs : List (FiveTuple × Held)) → fin.get (entries_of (held_in zs)) q ≡ find tuple_cmp q (pairs zs)
      entry-find zs =
          get-entries_of (held_in zs) q ∙ ap (option_map (λ h. h.entry)) (get-from_entries tuple_total zs q)
          ∙ sym (find-values_by tuple_cmp (λ h. h.entry) q zs)

  -- what a purge leaves of an entry is the same at each five-tuple
  pub same_purged : {Z : Type 0} (of : Entry → Z) → (λ e. of (still_entry t e)) ≡ of → (q : FiveTuple) → option_map (λ h. of h.entry) (fin.get (held_in ys) q) ≡ option_map (λ h. of h.entry) (fin.get (held_in xs) q)
  same_purged of same q =
      sym (mapped_twice of (λ h. h.entry) (fin.get (held_in ys) q))
      ∙ ap (option_map of) (sym (get-entries_of (held_in ys) q) ∙ get-purged_entries q ∙ ap (option_map (still_entry t)) (get-entries_of (held_in xs) q))
      ∙ mapped_twice of (still_entry t) (option_map (λ h. h.entry) (fin.get (held_in xs) q))
      ∙ ap (λ g. option_map g (option_map (λ h. h.entry) (fin.get (held_in xs) q))) same
      ∙ mapped_twice of (λ h. h.entry) (fin.get (held_in xs) q)
