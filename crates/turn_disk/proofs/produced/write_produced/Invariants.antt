use Rattle.std.proofs.Common.{length, drop, ◌-◌, ◌≡◌, ◌≤◌}
use Rattle.turn_disk.specs.Prelude.{IsSettled, Passes}
use Rattle.turn_disk.proofs.Pieces.{SoFar}
use Rattle.turn_disk.proofs.produced.write_produced.Given as goal

abbrev pub invariant-pieces : goal.invariant-pieces
invariant-pieces g l = record {
  size_of_piece : length l.piece ≡ 4096;
  within : l.done ≤ length (g.P.Producer.rest l.initial.producer);
  rest : g.P.Producer.rest l.producer ≡ drop l.done (g.P.Producer.rest l.initial.producer);
  size : g.D.Disk.capacity l.disk ≡ g.D.Disk.capacity l.initial.disk;
  count : g.D.Disk.failed l.disk ≡ g.D.Disk.failed l.initial.disk;
  crash_model : g.D.Disk.follows_crash_model l.disk → g.D.Disk.follows_crash_model l.initial.disk;
  so_far : g.D.Disk.follows_crash_model l.disk → IsSettled (g.D.Disk.trace l.initial.disk).now → SoFar l.at (g.P.Producer.rest l.initial.producer) l.done (g.D.Disk.trace l.initial.disk) (g.D.Disk.trace l.disk);
  meanwhile : Passes g.M.Meanwhile.passes l.initial.other l.other;
}

abbrev pub decreases-pieces : goal.decreases-pieces
decreases-pieces g l = length (g.P.Producer.rest l.initial.producer) - l.done
