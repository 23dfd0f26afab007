-- What contracts see of a connection and of a disk over an export.
use Rattle.std.specs.Prelude.{ℕ, Bool, List}
use Rattle.turn_disk.specs.Prelude.{LoggedCall}

-- a connection on which the export was agreed
pub record InConnection : Type 0 where
  -- what passed over it: each byte, with whether it was sent
  pub wire : List (Bool × ℕ)
  -- the cookie of the next request
  pub cookie : ℕ
  -- no request failed on it
  pub is_open : Bool

-- a disk over an export: its size, the count of its failures, its calls, and its connection
pub record InExport : Type 0 where
  pub size : ℕ
  -- how many device calls failed, modulo 2^64
  pub failures : ℕ
  -- the calls with their answers, the newest first
  pub events : List LoggedCall
  -- it was opened to be written
  pub can_write : Bool
  -- the server has FUA
  pub has_fua : Bool
  -- nothing is pending, neither of what it wrote nor of what it found
  pub is_settled : Bool
  pub connection : InConnection
