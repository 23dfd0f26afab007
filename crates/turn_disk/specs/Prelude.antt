-- The names of this crate's definitions that proofs and the crates above cite, passed on from one place. Declares nothing.
pub use Rattle.turn_disk.specs.Calls.{FollowCrashModel, LoggedCall, after_call, replay}
pub use Rattle.turn_disk.specs.Counts.{Rises}
pub use Rattle.turn_disk.specs.Crash.{left_by, left_of, part_of, replaced_at}
pub use Rattle.turn_disk.specs.Device.{Reads, Uses}
pub use Rattle.turn_disk.specs.Disk.{AllWithin, ChangesOnly, EachImageOf, EachImageSince, IsImage, IsOutside, IsSettled, IsSettledBut, Overwrites, Range, StandsAt, State, SyncOutcome, Syncs, ThroughOutcome, Trace, WriteOutcome, Writes, WritesOnce, WritesThrough, inside_write}
pub use Rattle.turn_disk.specs.Meanwhile.{Passes, more, none}
pub use Rattle.turn_disk.specs.Record.{IsRecord, past_of, pending_of, trace_of}
pub use Rattle.turn_disk.specs.Views.{InFile, InMemory}
