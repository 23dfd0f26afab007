use Rattle.std.proofs.Common.{take}
use Rattle.std.specs.List.{AllByRecursion}
use Rattle.turn_table.specs.Prelude.{IsQuiet}
use Rattle.turn_table.proofs.search.earliest_of.Given as goal

-- nothing of the entries before expires earlier
abbrev pub invariant-loop-entry : goal.invariant-loop-entry
invariant-loop-entry g l = AllByRecursion (λ h. IsQuiet l.earliest h.entry) (take l.entry-index l.entries)
