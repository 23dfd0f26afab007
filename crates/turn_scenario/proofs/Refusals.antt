-- Why a disk is not made a store.
use Rattle.std.proofs.Common.{◌≡◌, ◌<◌, ℕ, Result, Ok, Err, IfErr, IsErr, refl, inl, inr, ◌⊎◌, ◌↔◌}
use Rattle.turn_disk.specs.Prelude.{Rises}
use Rattle.turn_store.specs.declared.formatting.FormatError.{FormatError}
use Rattle.turn_store.specs.declared.formatting.FormatError.TheVariants.{AreaTooSmall, Device}

pub why_refused : (r : Result (Unit {0}) FormatError) (area least old new : ℕ) → (r ≡ Err Device → Rises old new)
    → ((needed : ℕ) → (r ≡ Err (AreaTooSmall needed)) ↔ ((area < least) × (needed ≡ least)))
    → IsErr r → (area < least) ⊎ Rises old new
why_refused (Ok x) area least old new device small e = absurd cc
why_refused (Err Device) area least old new device small e = inr (device refl)
why_refused (Err (AreaTooSmall n)) area least old new device small e = inl ((small n).0 refl).0

pub by_outcome : (r : Result (Unit {0}) FormatError) (P Q : Type 0) → (r ≡ Ok tt → P) → (IsErr r → Q) → P ⊎ Q
by_outcome (Ok x) P Q f g = inl (f refl)
by_outcome (Err e) P Q f g = inr (g refl)
