use Rattle.std.proofs.Common.{length, ◌-◌, ◌≡◌, ◌≤◌}
use Rattle.bench.proofs.records.calls.fill.Given as goal

abbrev pub invariant-parts : goal.invariant-parts
invariant-parts g l = record {
  within : l.size ≤ 4096;
  size_of_piece : length l.piece ≡ 4096;
}

abbrev pub decreases-parts : goal.decreases-parts
decreases-parts g l = 4096 - l.size
