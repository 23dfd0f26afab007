-- The five-tuples of a table in the order of their users' names.
use Rattle.std.specs.Prelude.{ℕ, ◌≡◌, ◌≤◌, Bool, true, false, List, [], Option, length, count_by}
use Rattle.std.specs.Cmp.Lexicographic.{slice_cmp}
use Rattle.std.specs.FinMap as fin
use Rattle.std.specs.List.Sorted.{IsSortedByKey, IsPartitionPoint}
use Rattle.std.specs.Option.{option_map_or}
use Rattle.std.specs.Ordering.{nat_cmp, is_lt, is_le}
use Rattle.std.specs.declared.cmp.Ordering.{Ordering}
use Rattle.turn_types.specs.Prelude.{tuple_cmp}
use Rattle.turn_types.specs.declared.address.FiveTuple.{FiveTuple}
use Rattle.turn_table.specs.Indexed.{held_in}
use Rattle.turn_table.specs.State.{Held}

-- the order of byte strings
abbrev pub name_cmp : List ℕ → List ℕ → Ordering
name_cmp = slice_cmp nat_cmp

-- the name of the user of what is found at a five-tuple, or the empty one
abbrev pub name_of : {X : Type 0} → (X → List ℕ) → (FiveTuple → Option X) → FiveTuple → List ℕ
name_of user find f = option_map_or user (find f) []

-- the name of the user of what is held
abbrev pub user_of : Held → List ℕ
user_of h = h.entry.user

-- the names of the users of a list of what is held
abbrev pub names_in : List (FiveTuple × Held) → FiveTuple → List ℕ
names_in xs = name_of user_of (fin.get (held_in xs))

-- the names never fall
abbrev pub NamesRise : (FiveTuple → List ℕ) → List FiveTuple → Type 0
NamesRise name tuples = IsSortedByKey name name_cmp tuples

-- a test passes before the place, and fails from it on
pub record IsSplitAt (test : FiveTuple → Bool) (tuples : List FiveTuple) (place : ℕ) : Type 0 where
  pub within : place ≤ length tuples
  pub point : IsPartitionPoint (λ f. test f ≡ true) (λ f. test f ≡ false) tuples place

-- the names before the place are below a name, and none is from it on
abbrev pub IsFirstOf : (FiveTuple → List ℕ) → List ℕ → List FiveTuple → ℕ → Type 0
IsFirstOf name user = IsSplitAt (λ f. is_lt (name_cmp (name f) user))

-- the names before the place are not above a name, and all are from it on
abbrev pub IsEndOf : (FiveTuple → List ℕ) → List ℕ → List FiveTuple → ℕ → Type 0
IsEndOf name user = IsSplitAt (λ f. is_le (name_cmp (name f) user))

-- the list has the keys of the map, in the order of their users' names
pub record IsByUser {X : Type 0} (user : X → List ℕ) (m : fin.FinMap tuple_cmp X) (tuples : List FiveTuple) : Type 0 where
  pub rises : NamesRise (name_of user (fin.get m)) tuples
  pub counted : (P : FiveTuple → Bool) → count_by P tuples ≡ count_by (λ e. P e.0) (fin.entries m)
