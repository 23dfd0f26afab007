-- The exit status of the program.
use Rattle.std.specs.Prelude.{ℕ, ◌≡◌, ◌⊎◌}
use Rattle.turn_faults.specs.declared.error.ProgramError.{ProgramError}
use Rattle.turn_faults.specs.declared.error.ProgramError.TheVariants.{Usage, BadDatagram, BadLine, NotAStore, Damaged, LimitsDiffer, AreaTooSmall, Worn, StoreInUse, Device, Socket, Differs, Memory, Probe}

-- 1: what was asked; 2: the store; 3: a store in use, the device or a socket; 4: a scenario that differs; 5: memory; 6: a server that a probe asked
abbrev pub status_of : ProgramError → ℕ
status_of Usage = 1
status_of BadDatagram = 1
status_of (BadLine number) = 1
status_of NotAStore = 2
status_of (Damaged place) = 2
status_of LimitsDiffer = 2
status_of (AreaTooSmall needed) = 2
status_of Worn = 2
status_of StoreInUse = 3
status_of Device = 3
status_of Socket = 3
status_of (Differs number) = 4
status_of Memory = 5
status_of (Probe fault) = 6

-- 0 where the command is done, else that of the fault that ended it
abbrev pub IsStatus : ℕ → Type 0
IsStatus status = (status ≡ 0) ⊎ ((fault : ProgramError) × (status ≡ status_of fault))
