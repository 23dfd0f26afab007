-- Why a probe ended, and where.
use Rattle.std.specs.Prelude.{◌≡◌, ◌⊎◌}
use Rattle.turn_client.specs.declared.error.ClientError.{ClientError}
use Rattle.turn_client.specs.declared.error.ClientError.TheVariants as client_faults
use Rattle.turn_faults.specs.declared.error.ProgramError.{ProgramError}
use Rattle.turn_faults.specs.declared.error.ProgramError.TheVariants as program_faults
use Rattle.turn_faults.specs.declared.probe.ProbeReason.{ProbeReason}
use Rattle.turn_faults.specs.declared.probe.ProbeReason.TheVariants as reasons
use Rattle.turn_faults.specs.declared.probe.ProbeStep.{ProbeStep}
use Rattle.turn_faults.specs.declared.probe.ProbeStep.TheVariants as steps
use Rattle.turn_probe.specs.declared.error.ProbeError.{ProbeError}
use Rattle.turn_probe.specs.declared.error.ProbeError.TheVariants.{Memory, Step}

-- the fault of a probe as one of the program
abbrev pub of_probe : ProbeError → ProgramError
of_probe Memory = program_faults.Memory
of_probe (Step fault) = program_faults.Probe fault

-- the reason that the fault of a client is
abbrev pub reason_of : ClientError → ProbeReason
reason_of client_faults.Silent = reasons.Silent
reason_of client_faults.Socket = reasons.Socket
reason_of client_faults.Unexpected = reasons.Unexpected
reason_of client_faults.TooLong = reasons.Unexpected
reason_of client_faults.Memory = reasons.Unexpected
reason_of (client_faults.Start fault) = reasons.Unexpected
reason_of (client_faults.Turn fault) = reasons.Unexpected

-- the fault of a step that a client's fault ended
abbrev pub of_client : ProbeStep → ClientError → ProbeError
of_client step client_faults.Memory = Memory
of_client step client_faults.Silent = Step (record { step = step; reason = reasons.Silent })
of_client step client_faults.Socket = Step (record { step = step; reason = reasons.Socket })
of_client step client_faults.Unexpected = Step (record { step = step; reason = reasons.Unexpected })
of_client step client_faults.TooLong = Step (record { step = step; reason = reasons.Unexpected })
of_client step (client_faults.Start fault) = Step (record { step = step; reason = reasons.Unexpected })
of_client step (client_faults.Turn fault) = Step (record { step = step; reason = reasons.Unexpected })

-- a probe ended at this step, or memory was out
abbrev pub IsAt : ProbeStep → ProbeError → Type 0
IsAt step fault = (fault ≡ Memory) ⊎ ((reason : ProbeReason) × (fault ≡ Step (record { step = step; reason = reason })))

-- a step comes after the Binding
abbrev pub IsLater : ProbeStep → Type 0
IsLater steps.Binding = ⊥
IsLater steps.Allocate = Unit {0}
IsLater steps.Permission = Unit {0}
IsLater steps.Data = Unit {0}
IsLater steps.Refresh = Unit {0}

-- a probe ended at a step after the Binding, or memory was out
abbrev pub IsAfterBinding : ProbeError → Type 0
IsAfterBinding fault = (step : ProbeStep) × IsLater step × IsAt step fault
