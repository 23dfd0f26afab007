-- How entries are found.
use Rattle.std.specs.Prelude.{ℕ, ◌≡◌, Option, Some, List, option_map}
use Rattle.std.specs.FinMap as fin
use Rattle.turn_types.specs.declared.address.FiveTuple.{FiveTuple}
use Rattle.turn_table.specs.Live.{Holdings}
use Rattle.turn_table.specs.State.{Held}

-- what a list holds, at each five-tuple the first
abbrev pub held_in : List (FiveTuple × Held) → Holdings
held_in xs = fin.from_entries xs

-- `place` has the port of each five-tuple that is found, and `holder` the five-tuple of each such port
pub record IsIndexed (find : FiveTuple → Option Held) (place : FiveTuple → Option ℕ) (holder : ℕ → Option FiveTuple) : Type 0 where
  pub placed : (f : FiveTuple) → place f ≡ option_map (λ h. h.entry.port) (find f)
  pub held : (f : FiveTuple) (port : ℕ) → place f ≡ Some port → holder port ≡ Some f
  pub holds : (f : FiveTuple) (port : ℕ) → holder port ≡ Some f → place f ≡ Some port
