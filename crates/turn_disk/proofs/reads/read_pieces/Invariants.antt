use Rattle.std.proofs.Common.{length, take, ◌-◌, ◌≡◌, ◌≤◌}
use Rattle.turn_disk.specs.Prelude.{StandsAt}
use Rattle.turn_disk.proofs.reads.read_pieces.Given as goal

abbrev pub invariant-loop-done : goal.invariant-loop-done
invariant-loop-done g l = record {
  within : l.done ≤ length l.buffer;
  len : length l.buffer ≡ length l.initial.buffer;
  size : g.D.Disk.capacity l.disk ≡ g.D.Disk.capacity l.initial.disk;
  count : g.D.Disk.failed l.disk ≡ g.D.Disk.failed l.initial.disk;
  crash_model : g.D.Disk.follows_crash_model l.disk → g.D.Disk.follows_crash_model l.initial.disk;
  same : g.D.Disk.follows_crash_model l.disk → g.D.Disk.trace l.disk ≡ g.D.Disk.trace l.initial.disk;
  read : g.D.Disk.follows_crash_model l.disk → StandsAt l.at (take l.done l.buffer) (g.D.Disk.trace l.initial.disk).now.bytes;
}

abbrev pub decreases-loop-done : goal.decreases-loop-done
decreases-loop-done g l = length l.buffer - l.done
