use Rattle.std.proofs.Common.{◌+◌, ◌-◌, ◌^◌, ◌≤◌, length}
use Rattle.turn_table.proofs.FreePorts.{IsRun}
use Rattle.turn_table.proofs.search.run_from.Given as goal

-- the run so far, and where it may end
abbrev pub invariant-loop-low : goal.invariant-loop-low
invariant-loop-low g l = IsRun l.first l.ports l.low × (l.first + l.low ≤ 2 ^ 16) × (l.low ≤ l.high) × (l.high ≤ length l.ports)

abbrev pub decreases-loop-low : goal.decreases-loop-low
decreases-loop-low g l = l.high - l.low
