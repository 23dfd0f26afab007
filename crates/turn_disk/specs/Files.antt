-- Why a file isn't opened as a disk.
use Rattle.turn_disk.specs.declared.opened.FileError.{FileError}
use Rattle.turn_disk.specs.declared.opened.FileError.TheVariants.{InUse, Device}

-- not that it is in use, but what the system or the file gives for it
abbrev pub IsOfDevice : FileError → Type 0
IsOfDevice InUse = ⊥
IsOfDevice (Device reason) = Unit {0}
