use Rattle.std.proofs.Common.{◌≡◌, ℕ, List, ◌≤◌, ◌-◌, take, drop}
use Rattle.turn_record.specs.Prelude.{WasFed}
use Rattle.turn_store.specs.Prelude.{AreBytes}
use Rattle.turn_store.proofs.snapshots.read_snapshot.Given as goal

abbrev pub invariant-loop-done : goal.invariant-loop-done
invariant-loop-done g l = record {
  within : l.done ≤ l.count;
  size : g.D.Disk.capacity l.disk ≡ g.D.Disk.capacity l.initial.disk;
  count : g.D.Disk.failed l.disk ≡ g.D.Disk.failed l.initial.disk;
  crash_model : g.D.Disk.follows_crash_model l.disk → g.D.Disk.follows_crash_model l.initial.disk;
  same : g.D.Disk.follows_crash_model l.disk → g.D.Disk.trace l.disk ≡ g.D.Disk.trace l.initial.disk;
  some : (fed : List ℕ) × AreBytes fed × WasFed l.fn.version l.fn.limits l.reader fed;
  bytes : g.D.Disk.follows_crash_model l.disk → AreBytes (take l.done (drop l.at (g.D.Disk.trace l.initial.disk).now.bytes));
  fed : g.D.Disk.follows_crash_model l.disk → WasFed l.fn.version l.fn.limits l.reader (take l.done (drop l.at (g.D.Disk.trace l.initial.disk).now.bytes));
}

abbrev pub decreases-loop-done : goal.decreases-loop-done
decreases-loop-done g l = l.count - l.done
