-- The fault of a store that was not read under the limits of a configuration.
use Rattle.std.proofs.Common.{ℕ, List, Some, refl, subst, inl, inr}
use Rattle.turn_commands.specs.Checks.{IsStoreError}
use Rattle.turn_faults.specs.Faults.{of_reading}
use Rattle.turn_reading.specs.Readings.{WhyUnread}
use Rattle.turn_reading.specs.declared.error.ReadingError.{ReadingError}
use Rattle.turn_reading.specs.declared.error.ReadingError.TheVariants as reading_faults
use Rattle.turn_store.specs.Prelude.{WhyRefused}
use Rattle.turn_store.specs.declared.error.OpenError.TheVariants as open_faults
use Rattle.turn_types.specs.declared.limits.Bounds.{Bounds}

pub store_fault : (b : Bounds) (content : List ℕ) (fault : ReadingError) → WhyUnread (Some b) content fault → IsStoreError b content (of_reading fault)
store_fault b content reading_faults.Device why = inr (open_faults.Device, refl, tt)
store_fault b content reading_faults.Memory why = inr (open_faults.Memory, refl, tt)
store_fault b content reading_faults.NotAStore why = inr (open_faults.NotAStore, refl, why)
store_fault b content reading_faults.LimitsDiffer why = inr (open_faults.LimitsDiffer, refl, why)
store_fault b content (reading_faults.Damaged place) why =
    inr (open_faults.Damaged place, refl, subst (λ its. WhyRefused its content (open_faults.Damaged place)) why.1 why.2)
store_fault b content reading_faults.Changing why = inl refl
