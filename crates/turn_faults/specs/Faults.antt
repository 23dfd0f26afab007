-- The faults of the crates below as faults of the program.
use Rattle.turn_config.specs.declared.config.ConfigTextError.{ConfigTextError}
use Rattle.turn_config.specs.declared.config.ConfigTextError.TheVariants as config_faults
use Rattle.turn_disk.specs.declared.opened.FileError.{FileError}
use Rattle.turn_disk.specs.declared.opened.FileError.TheVariants as file_faults
use Rattle.turn_faults.specs.declared.error.ProgramError.{ProgramError}
use Rattle.turn_faults.specs.declared.error.ProgramError.TheVariants.{BadLine, NotAStore, Damaged, LimitsDiffer, AreaTooSmall, Worn, StoreInUse, Device, Memory}
use Rattle.turn_reading.specs.declared.error.ReadingError.{ReadingError}
use Rattle.turn_reading.specs.declared.error.ReadingError.TheVariants as reading_faults
use Rattle.turn_store.specs.declared.error.OpenError.{OpenError}
use Rattle.turn_store.specs.declared.error.OpenError.TheVariants as open_faults
use Rattle.turn_store.specs.declared.error.StoreError.{StoreError}
use Rattle.turn_store.specs.declared.error.StoreError.TheVariants as store_faults
use Rattle.turn_store.specs.declared.formatting.FormatError.{FormatError}
use Rattle.turn_store.specs.declared.formatting.FormatError.TheVariants as format_faults

-- the fault of a store's file
abbrev pub of_file : FileError → ProgramError
of_file file_faults.InUse = StoreInUse
of_file (file_faults.Device reason) = Device

-- the fault of a configuration
abbrev pub of_config : ConfigTextError → ProgramError
of_config (config_faults.BadLine number) = BadLine number
of_config config_faults.Memory = Memory

-- the fault of a reading of a store; one that changes is one that a server has open
abbrev pub of_reading : ReadingError → ProgramError
of_reading reading_faults.Device = Device
of_reading reading_faults.Memory = Memory
of_reading reading_faults.NotAStore = NotAStore
of_reading reading_faults.LimitsDiffer = LimitsDiffer
of_reading (reading_faults.Damaged place) = Damaged place
of_reading reading_faults.Changing = StoreInUse

-- the fault of an opening
abbrev pub of_open : OpenError → ProgramError
of_open open_faults.Device = Device
of_open open_faults.Memory = Memory
of_open open_faults.NotAStore = NotAStore
of_open open_faults.LimitsDiffer = LimitsDiffer
of_open (open_faults.Damaged place) = Damaged place

-- the fault of a formatting, with the min size of an area where it is too small
abbrev pub of_format : FormatError → ProgramError
of_format format_faults.Device = Device
of_format (format_faults.AreaTooSmall needed) = AreaTooSmall needed

-- the fault of a commit; a store stops after a failed device call
abbrev pub of_store : StoreError → ProgramError
of_store store_faults.Device = Device
of_store store_faults.Worn = Worn
of_store store_faults.Stopped = Device
