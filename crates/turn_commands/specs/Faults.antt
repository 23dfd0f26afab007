-- The faults of a scenario and of an end of allocations as faults of the program.
use Rattle.turn_ending.specs.declared.error.EndError.{EndError}
use Rattle.turn_ending.specs.declared.error.EndError.TheVariants as end_faults
use Rattle.turn_faults.specs.Faults.{of_store}
use Rattle.turn_faults.specs.declared.error.ProgramError.{ProgramError}
use Rattle.turn_faults.specs.declared.error.ProgramError.TheVariants.{BadLine, Device, Differs, Memory}
use Rattle.turn_scenario.specs.declared.error.ScenarioError.{ScenarioError}
use Rattle.turn_scenario.specs.declared.error.ScenarioError.TheVariants as scenario_faults

-- the fault of a scenario text
abbrev pub of_scenario : ScenarioError → ProgramError
of_scenario (scenario_faults.BadLine number) = BadLine number
of_scenario (scenario_faults.Differs number) = Differs number
of_scenario scenario_faults.Memory = Memory

-- the fault of an end of allocations; a Refresh of a live allocation is not refused
abbrev pub of_end : EndError → ProgramError
of_end (end_faults.Store fault) = of_store fault
of_end end_faults.Memory = Memory
of_end end_faults.Refused = Device
