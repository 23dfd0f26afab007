-- What a check tells of a store: the fault of a start, as a start tells it.
use Rattle.std.specs.Prelude.{◌≡◌, ◌⊎◌, ℕ, List}
use Rattle.turn_faults.specs.Faults.{of_open}
use Rattle.turn_faults.specs.declared.error.ProgramError.{ProgramError}
use Rattle.turn_faults.specs.declared.error.ProgramError.TheVariants.{StoreInUse}
use Rattle.turn_store.specs.Prelude.{WhyRefused}
use Rattle.turn_store.specs.declared.error.OpenError.{OpenError}
use Rattle.turn_types.specs.declared.limits.Bounds.{Bounds}

-- The fault of a store under these limits: that of an opening, the first reason that applies to the content, or that the store
-- changes.
abbrev pub IsStoreError : Bounds → List ℕ → ProgramError → Type 0
IsStoreError b content fault = (fault ≡ StoreInUse) ⊎ ((of : OpenError) × (fault ≡ of_open of) × WhyRefused b content of)
