-- Why a line is refused.
use Rattle.turn_codec.specs.declared.builder.PushError.{PushError}
use Rattle.turn_codec.specs.declared.builder.PushError.TheVariants.{TooLong, Memory}
use Rattle.turn_scenario.specs.declared.error.LineError.{LineError}
use Rattle.turn_scenario.specs.declared.error.LineError.TheVariants as faults

-- a datagram that would be too long makes its line bad
abbrev pub fault_of : PushError → LineError
fault_of TooLong = faults.Bad
fault_of Memory = faults.Memory
