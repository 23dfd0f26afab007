-- Disks over files, by the state in which each file was found when it was opened.
use Rattle.std.specs.Prelude.{◌≡◌, length}
use Rattle.turn_disk.specs.Prelude.{FollowCrashModel, replay, State, InFile}
use Rattle.turn_disk.specs.declared.disk.Disk as disks

-- what contracts say of a disk over a file that was found in this state when it was opened
abbrev pub file_of : State → disks.Ghosts InFile
file_of found = record {
  capacity = λ disk. disk.size;
  failed = λ disk. disk.failures;
  follows_crash_model = λ disk. (length found.bytes ≡ disk.size) × FollowCrashModel found disk.events;
  trace = λ disk. replay found disk.events;
}
