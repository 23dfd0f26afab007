use Rattle.std.proofs.Common.{length, take, ◌++◌, ◌-◌, ◌≡◌, ◌≤◌}
use Rattle.turn_disk.proofs.produced.fill_piece.Given as goal

abbrev pub invariant-parts : goal.invariant-parts
invariant-parts g l = record {
  within : l.size ≤ 4096;
  size_of_piece : length l.piece ≡ 4096;
  gives : g.P.Producer.rest l.initial.producer ≡ take l.size l.piece ++ g.P.Producer.rest l.producer;
}

abbrev pub decreases-parts : goal.decreases-parts
decreases-parts g l = 4096 - l.size
