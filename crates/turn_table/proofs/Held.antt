-- What is held of the live five-tuples, as maps.
use Rattle.std.proofs.Common.{◌≡◌, ℕ, cond, is_some, List, [], ◌∷◌, ◌++◌, map, refl, sym, ap, ◌∙◌, Option, Some, None, IsSome, option_map, option_to_list}
use Rattle.std.specs.List.{AllByRecursion}
use Rattle.std.specs.Map.{lookup}
use Rattle.std.specs.Ordering.{eq_by_cmp}
use Rattle.std.specs.FinMap as fin
use Rattle.std.specs.FinMap.{find, same_map, get-empty, get-from_entries, get-insert, get-remove}
use Rattle.turn_history.proofs.Entries.{all_entries}
use Rattle.turn_history.proofs.Maps.{tuple_total, tuple_exact, get-map_of-all, outside_keys}
use Rattle.turn_history.specs.Prelude.{Entry, FiveTuple}
use Rattle.turn_types.specs.Prelude.{tuple_cmp, same_tuple}
use Rattle.turn_table.specs.Prelude.{held_in, Holdings, entries_of, placed, listed, Held}
use Rattle.turn_table.proofs.Sorted.{entries-values_by, len-values_by}
use Rattle.turn_table.proofs.Options.{mapped_cond, mapped_then}
use Rattle.turn_table.proofs.Tuples.{tuple_eq, tuple_same, tuple_same_back}

-- ---- A list of entries, as the map of entries keeps it

find-lookup : (q : FiveTuple) (xs : List (FiveTuple × Held)) → find tuple_cmp q xs ≡ lookup (tuple_eq q) xs
find-lookup q [] = refl
find-lookup q (x ∷ xs) = λ j. cond (tuple_same q x.0 j) (Some x.1) (find-lookup q xs j)

pub get-held_in : (xs : List (FiveTuple × Held)) (q : FiveTuple) → fin.get (held_in xs) q ≡ lookup (tuple_eq q) xs
get-held_in xs q = get-from_entries tuple_total xs q ∙ find-lookup q xs

-- one five-tuple has this now, or nothing, and the others have what they had
abbrev pub Updated : List (FiveTuple × Held) → FiveTuple → Option Held → List (FiveTuple × Held) → Type 0
Updated xs f o ys = (q : FiveTuple) → lookup (tuple_eq q) ys ≡ cond (tuple_eq f q) o (lookup (tuple_eq q) xs)

pub get-updated : (xs ys : List (FiveTuple × Held)) (f : FiveTuple) (o : Option Held) → Updated xs f o ys → (q : FiveTuple) → fin.get (held_in ys) q ≡ cond (same_tuple q f) o (fin.get (held_in xs) q)
get-updated xs ys f o is q =
    get-held_in ys q ∙ is q ∙ (λ j. cond (tuple_same_back f q j) o (sym (get-held_in xs q) j))

pub held-inserted : (xs ys : List (FiveTuple × Held)) (f : FiveTuple) (h : Held) → Updated xs f (Some h) ys → held_in ys ≡ fin.insert (held_in xs) f h
held-inserted xs ys f h is = same_map tuple_total tuple_exact _ _ (λ q. get-updated xs ys f (Some h) is q ∙ sym (get-insert tuple_total (held_in xs) f h q))

pub held-removed : (xs ys : List (FiveTuple × Held)) (f : FiveTuple) → Updated xs f None ys → held_in ys ≡ fin.remove (held_in xs) f
held-removed xs ys f is = same_map tuple_total tuple_exact _ _ (λ q. get-updated xs ys f None is q ∙ sym (get-remove tuple_total (held_in xs) f q))

-- ---- The entries alone

pub get-entries_of : (m : Holdings) (q : FiveTuple) → fin.get (entries_of m) q ≡ option_map (λ h. h.entry) (fin.get m q)
unfolding entries_of
get-entries_of m q =
    get-map_of-all tuple_total tuple_exact (fin.keys m) (λ f. option_map (λ h. h.entry) (fin.get m f)) q
    (λ none. ap (option_map (λ h. h.entry)) (outside_keys tuple_total tuple_exact m q none))

module _ (m : Holdings) (f : FiveTuple) where
  pub entries_of-insert : (h : Held) → entries_of (fin.insert m f h) ≡ fin.insert (entries_of m) f h.entry
  entries_of-insert h = same_map tuple_total tuple_exact _ _ (λ q.
      get-entries_of (fin.insert m f h) q
      ∙ ap (option_map (λ k. k.entry)) (get-insert tuple_total m f h q)
      ∙ mapped_cond (λ k. k.entry) (eq_by_cmp tuple_cmp q f) (Some h) (fin.get m q)
      ∙ sym (get-insert tuple_total (entries_of m) f h.entry q ∙ ap (cond (eq_by_cmp tuple_cmp q f) (Some h.entry)) (get-entries_of m q)))

  pub entries_of-remove : entries_of (fin.remove m f) ≡ fin.remove (entries_of m) f
  entries_of-remove = same_map tuple_total tuple_exact _ _ (λ q.
      get-entries_of (fin.remove m f) q
      ∙ ap (option_map (λ k. k.entry)) (get-remove tuple_total m f q)
      ∙ mapped_cond (λ k. k.entry) (eq_by_cmp tuple_cmp q f) None (fin.get m q)
      ∙ sym (get-remove tuple_total (entries_of m) f q ∙ ap (cond (eq_by_cmp tuple_cmp q f) None) (get-entries_of m q)))

pub entries_of-empty : entries_of fin.empty ≡ fin.empty
entries_of-empty = same_map tuple_total tuple_exact _ _ (λ q.
    get-entries_of fin.empty q ∙ ap (option_map (λ h. h.entry)) (get-empty tuple_cmp q) ∙ sym (get-empty tuple_cmp q))

pub len-entries_of : (m : Holdings) → fin.len (entries_of m) ≡ fin.len m
len-entries_of m = len-values_by tuple_total tuple_exact (λ h. h.entry) m (entries_of m) (get-entries_of m)

-- what is held of each entry
pub of_entry : (m : Holdings) (f : FiveTuple) (e : Entry) → fin.get (entries_of m) f ≡ Some e → (h : Held) × (fin.get m f ≡ Some h) × (h.entry ≡ e)
of_entry m f e is = mapped_then (λ h. h.entry) (fin.get m f) e (sym (get-entries_of m f) ∙ is) (λ h at same. (h, at, same))

pub entry_at : (m : Holdings) (f : FiveTuple) (h : Held) → fin.get m f ≡ Some h → fin.get (entries_of m) f ≡ Some h.entry
entry_at m f h is = get-entries_of m f ∙ ap (option_map (λ k. k.entry)) is

-- ---- In their order

abbrev pub AreHeld : Holdings → List (FiveTuple × Held) → Type 0
AreHeld m xs = AllByRecursion (λ p. fin.get m p.0 ≡ Some p.1) xs

all_held : (m : Holdings) → AreHeld m (fin.entries m)
all_held m = all_entries tuple_total tuple_exact (λ p. fin.get m p.0 ≡ Some p.1) m (λ k v is. is)

pub held-placed : (m : Holdings) → AllByRecursion (λ (p : FiveTuple × ℕ). IsSome (fin.get m p.0)) (placed m)
held-placed m = each (fin.entries m) (all_held m)
  where
    each : (xs : List (FiveTuple × Held)) → AreHeld m xs → AllByRecursion (λ (p : FiveTuple × ℕ). IsSome (fin.get m p.0)) (map (λ p. (p.0, p.1.entry.port)) xs)
    each [] all = tt
    each (x ∷ xs) all = (ap is_some all.0, each xs all.1)

pub listed-placed : (m : Holdings) → listed m (placed m) ≡ fin.entries (entries_of m)
listed-placed m = each (fin.entries m) (all_held m) ∙ sym (entries-values_by tuple_total tuple_exact (λ h. h.entry) m (entries_of m) (get-entries_of m))
  where
    each : (xs : List (FiveTuple × Held)) → AreHeld m xs → listed m (map (λ p. (p.0, p.1.entry.port)) xs) ≡ map (λ p. (p.0, p.1.entry)) xs
    each [] all = refl
    each (x ∷ xs) all = λ j. option_to_list (option_map (λ h. (x.0, h.entry)) (all.0 j)) ++ each xs all.1 j
