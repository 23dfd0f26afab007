use Rattle.std.proofs.Common.{◌≤◌, take}
use Rattle.std.specs.List.{AllByRecursion}
use Rattle.turn_table.proofs.sorted_map.earliest.Given as goal

-- no value before expires earlier
abbrev pub invariant-loop-slot : goal.invariant-loop-slot
invariant-loop-slot g l = AllByRecursion (λ e. l.earliest ≤ g.V.Expires.expiry e.1) (take l.slot-index l.items)
