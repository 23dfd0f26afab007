use Rattle.std.proofs.Common.{◌≡◌, ◌≤◌, ◌<◌, ◌+◌, ◌-◌, length}
use Rattle.turn_record.specs.Prelude.{Holds}
use Rattle.turn_store.specs.Prelude.{snapshot_of}
use Rattle.turn_store.proofs.Logs.{SoFar}
use Rattle.turn_store.proofs.log.replay_log.Given as goal

abbrev pub invariant-frames : goal.invariant-frames
invariant-frames g l = record {
  within : l.end < l.journal.size;
  few : l.frames ≤ l.end;
  size : g.D.Disk.capacity l.disk ≡ g.D.Disk.capacity l.initial.disk;
  count : g.D.Disk.failed l.disk ≡ g.D.Disk.failed l.initial.disk;
  crash_model : g.D.Disk.follows_crash_model l.disk → g.D.Disk.follows_crash_model l.initial.disk;
  same : g.D.Disk.follows_crash_model l.disk → g.D.Disk.trace l.disk ≡ g.D.Disk.trace l.initial.disk;
  buffer : length l.payload ≡ length l.initial.payload;
  bounds : l.table.bounds ≡ l.initial.table.bounds;
  holds : Holds l.version l.initial.table.contents → Holds l.version l.table.contents;
  so_far : g.D.Disk.follows_crash_model l.disk → SoFar l.version l.limits (l.journal.start + l.journal.end) (snapshot_of l.initial.table) (l.journal.start + l.end) l.frames (snapshot_of l.table) (g.D.Disk.trace l.initial.disk).now.bytes;
}

abbrev pub decreases-frames : goal.decreases-frames
decreases-frames g l = l.journal.size - l.end
