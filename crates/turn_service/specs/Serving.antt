-- What the words of `turn serve` say of its turns, and what it makes of its store.
use Rattle.std.specs.Prelude.{◌≡◌, ℕ, Option, Some, None, []}
use Rattle.turn_cred.specs.declared.handler.AuthHandler as handlers
use Rattle.turn_disk.specs.Prelude.{InFile}
use Rattle.turn_disk.specs.declared.disk.Disk as disks
use Rattle.turn_engine.specs.Prelude.{ServerState}
use Rattle.turn_ports.specs.declared.generator.RelayAddressGenerator as generators
use Rattle.turn_serving.specs.Starts.{KeepsImages, Started}
use Rattle.turn_serving.specs.Turns.{Served}
use Rattle.turn_sockets.specs.Moments.{IsMoment}
use Rattle.turn_types.specs.Prelude.{Config}
use Rattle.turn_serving.specs.declared.manner.Commits.{Commits}
use Rattle.turn_serving.specs.declared.manner.Commits.TheVariants.{EachTurn, Paced}

-- each turn commits where turns are counted; else requests wait
abbrev pub commits_of : Option ℕ → Commits
commits_of None = Paced
commits_of (Some turns) = EachTurn

-- a disk over a file of so many bytes that was just opened
abbrev pub just_opened : ℕ → InFile
just_opened size = record { size = size; failures = 0; events = [] }

-- a disk over a file was just opened
abbrev pub IsOpened : InFile → Type 0
IsOpened opened = (size : ℕ) × (opened ≡ just_opened size)

-- a second that the system's clock told, of which nothing is known
abbrev pub AnySecond : ℕ → Type 0
AnySecond second = Unit {0}

-- a server was started over a disk
pub record StartedOver {D H G : Type 0} (disk : disks.Ghosts D) (handler : handlers.Ghosts H) (ports : generators.Ghosts G) (opened : D) (server : ServerState D H G) : Type 0 where
  pub config : Config
  pub users : H
  -- the first and the last relay port
  pub range : ℕ × ℕ
  pub started : Started disk handler ports opened config users range server

-- What a service makes of a disk: a server was started over it and took turns, or its start was refused.
pub data Serves {D H G : Type 0} (disk : disks.Ghosts D) (handler : handlers.Ghosts H) (ports : generators.Ghosts G) (opened last : D) : Type 0 where
  serves : (server after : ServerState D H G) → StartedOver disk handler ports opened server → Served disk handler ports (IsMoment AnySecond) server after
      → after.store.disk ≡ last → Serves disk handler ports opened last
  starts_no_server : KeepsImages disk opened last → Serves disk handler ports opened last

-- what a service makes of a disk that was just opened, of which this holds
pub record ServesOpened {D H G : Type 0} (disk : disks.Ghosts D) (handler : handlers.Ghosts H) (ports : generators.Ghosts G) (IsNew : D → Type 0) (last : D) : Type 0 where
  pub opened : D
  pub is_new : IsNew opened
  pub serves : Serves disk handler ports opened last
