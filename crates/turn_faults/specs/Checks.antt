-- The faults of a configuration and of the addresses that clients send to.
use Rattle.std.specs.Prelude.{◌≡◌, ◌⊎◌, ◌∷◌, List}
use Rattle.turn_config.specs.declared.config.ConfigTextError.{ConfigTextError}
use Rattle.turn_faults.specs.Faults.{of_config}
use Rattle.turn_faults.specs.declared.error.ProgramError.{ProgramError}
use Rattle.turn_faults.specs.declared.error.ProgramError.TheVariants.{Device, Usage}
use Rattle.turn_sockets.specs.Own.{AreListened}
use Rattle.turn_types.specs.declared.address.Endpoint.{Endpoint}

-- The fault of a configuration: its file can't be read, or its lines are refused.
abbrev pub IsConfigTextError : ProgramError → Type 0
IsConfigTextError fault = (fault ≡ Device) ⊎ ((of : ConfigTextError) × (fault ≡ of_config of))

-- The fault of a configuration, or a usage fault where one of its address and others is there twice, or they are too many.
abbrev pub IsErrorBeforeStore : List Endpoint → ProgramError → Type 0
IsErrorBeforeStore others fault = IsConfigTextError fault ⊎ ((fault ≡ Usage) × ((configured : Endpoint) × ¬ AreListened (configured ∷ others)))
