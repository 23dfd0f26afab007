-- What a call that uses a disk says of its device calls.
use Rattle.std.specs.Prelude.{◌≡◌}
use Rattle.turn_disk.specs.Counts.{Rises}
use Rattle.turn_disk.specs.declared.disk.Disk as disks

-- a call that may write, and in which a device call failed where `failed` holds
pub record Uses {D : Type 0} (disk : disks.Ghosts D) (old new : D) (failed : Type 0) : Type 0 where
  -- the size stays
  pub size : disk.capacity new ≡ disk.capacity old
  -- the count of failures rises by one if a device call failed
  pub device : failed → Rises (disk.failed old) (disk.failed new)
  -- and stays if none did
  pub count : (failed → ⊥) → disk.failed new ≡ disk.failed old
  -- a disk that follows the crash model followed the crash model before
  pub crash_model : disk.follows_crash_model new → disk.follows_crash_model old

-- a call that only reads, likewise
pub record Reads {D : Type 0} (disk : disks.Ghosts D) (old new : D) (failed : Type 0) : Type 0 where
  -- the size stays
  pub size : disk.capacity new ≡ disk.capacity old
  -- the count of failures rises by one if a device call failed
  pub device : failed → Rises (disk.failed old) (disk.failed new)
  -- and stays if none did
  pub count : (failed → ⊥) → disk.failed new ≡ disk.failed old
  -- a disk that follows the crash model followed the crash model before
  pub crash_model : disk.follows_crash_model new → disk.follows_crash_model old
  -- what the disk holds stays, and what a stop may leave of it
  pub same : disk.follows_crash_model new → disk.trace new ≡ disk.trace old
