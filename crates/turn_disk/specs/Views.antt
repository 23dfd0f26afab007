-- What contracts see of the disks.
use Rattle.std.specs.Prelude.{ℕ, List}
use Rattle.turn_disk.specs.Calls.{LoggedCall}
use Rattle.turn_disk.specs.Disk.{Trace}

-- a disk in memory: its trace, and the count of its failures
pub record InMemory : Type 0 where
  pub trace : Trace
  -- how many device calls failed, modulo 2^64
  pub failures : ℕ

-- a disk over a file: its size, the count of its failures, and its calls, the newest first
pub record InFile : Type 0 where
  pub size : ℕ
  -- how many device calls failed, modulo 2^64
  pub failures : ℕ
  -- the calls with their answers, the newest first
  pub events : List LoggedCall
