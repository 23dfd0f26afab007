use Rattle.std.proofs.Common.{◌-◌, ◌≡◌, ◌≤◌}
use Rattle.turn_commands.proofs.format.write_over.Given as goal

abbrev pub invariant-loop-done : goal.invariant-loop-done
invariant-loop-done g l = record {
  within : l.done ≤ l.size;
  size : g.D.Disk.capacity l.disk ≡ g.D.Disk.capacity l.initial.disk;
  count : g.D.Disk.failed l.disk ≡ g.D.Disk.failed l.initial.disk;
  crash_model : g.D.Disk.follows_crash_model l.disk → g.D.Disk.follows_crash_model l.initial.disk;
}

abbrev pub decreases-loop-done : goal.decreases-loop-done
decreases-loop-done g l = l.size - l.done
