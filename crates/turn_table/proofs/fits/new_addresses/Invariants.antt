use Rattle.std.proofs.Common.{◌≡◌, ◌+◌, ◌≤◌, length, drop}
use Rattle.std.specs.FinMap as fin
use Rattle.turn_history.specs.Prelude.{install}
use Rattle.turn_table.proofs.fits.new_addresses.Given as goal

-- the later addresses are counted
abbrev pub invariant-loop-left : goal.invariant-loop-left
invariant-loop-left g l =
    (l.left ≤ length l.addresses) × (l.new + l.left ≤ length l.addresses)
    × (l.new + fin.len l.entry.entry.permissions ≡ fin.len (install 0 (drop l.left l.addresses) l.entry.entry.permissions))

abbrev pub decreases-loop-left : goal.decreases-loop-left
decreases-loop-left g l = l.left
