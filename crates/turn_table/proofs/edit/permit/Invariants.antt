use Rattle.std.proofs.Common.{◌≡◌, ◌≤◌, length, drop}
use Rattle.turn_history.specs.Prelude.{permitting}
use Rattle.turn_table.proofs.edit.permit.Given as goal

-- the later addresses are installed, and there is room for the others
abbrev pub invariant-loop-left : goal.invariant-loop-left
invariant-loop-left g l =
    (l.left ≤ length l.addresses) × (l.left ≤ l.entry.permission_room)
    × (l.entry.entry ≡ permitting l.expiry (drop l.left l.addresses) l.fn.entry.entry)

abbrev pub decreases-loop-left : goal.decreases-loop-left
decreases-loop-left g l = l.left
