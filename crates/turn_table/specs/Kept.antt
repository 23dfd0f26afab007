-- What of an entry has not expired.
use Rattle.std.specs.Prelude.{ℕ, Option, None, Some, List, if◌then◌else◌, nat_lt, option_and_then}
use Rattle.std.specs.declared.cmp.Ordering.{Ordering}
use Rattle.std.specs.FinMap as fin
use Rattle.turn_history.specs.Prelude.{map_of, Entry, still_permitted, still_bound, FiveTuple}

-- a value that is still ahead of a moment
abbrev pub ahead_by : {V : Type 0} → (V → ℕ) → ℕ → V → Option V
ahead_by expiry t v = if nat_lt t (expiry v) then Some v else None

-- what of a map has not expired
unfoldable pub still : {K V : Type 0} {R : K → K → Ordering} → (V → ℕ) → ℕ → fin.FinMap R V → fin.FinMap R V
still {R = R} expiry t m = map_of R (fin.keys m) (λ k. option_and_then (ahead_by expiry t) (fin.get m k))

-- the map of a list whose keys rise, without the room that it has
abbrev pub map_in : {K V : Type 0} (R : K → K → Ordering) → List (K × V) × ℕ → fin.FinMap R V
map_in R m = fin.from_sorted {R = R} m.0

-- what is left of an entry that has not expired
abbrev pub still_entry : ℕ → Entry → Entry
still_entry t e = record e { permissions = still_permitted t e.permissions; channels = still_bound t e.channels }

-- a five-tuple with what is left of its entry
abbrev pub still_pair : ℕ → FiveTuple × Entry → FiveTuple × Entry
still_pair t p = (p.0, still_entry t p.1)
