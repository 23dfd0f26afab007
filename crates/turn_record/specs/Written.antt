-- What the writer of snapshots asks of an entry.
use Rattle.std.specs.Prelude.{◌≡◌, ◌≤◌, [], ℕ, List, length, Option, Some, None, IfSome}
use Rattle.std.specs.FinMap as fin
use Rattle.std.specs.Int.{to_be_bytes, w32}
use Rattle.std.specs.List.{AllByRecursion}
use Rattle.turn_history.specs.Prelude.{Entry, FiveTuple, Bounds}
use Rattle.turn_types.specs.Prelude.{max_bounds}

-- the parts of an entry are no longer than the limits allow
pub record IsShort (b : Bounds) (e : Entry) : Type 0 where
  pub user : length e.user ≤ b.name_bytes
  pub tx : length e.tx.0 ≡ 12
  pub token : IfSome e.token (λ k. length k.0 ≡ 8)
  pub permissions : fin.len e.permissions ≤ b.permissions
  pub channels : fin.len e.channels ≤ b.channels

-- the parts of each entry are no longer than the max limits allow
abbrev pub AreShort : List (FiveTuple × Entry) → Type 0
AreShort es = AllByRecursion (λ p. IsShort max_bounds p.1) es

-- the count of the reserved ports, where it is still to be written
abbrev pub count_if : Option ℕ → List ℕ
count_if None = []
count_if (Some n) = to_be_bytes w32 n
