-- The ranges of limits.
use Rattle.std.specs.Prelude.{◌≤◌}
use Rattle.turn_types.specs.Profile.{max_allocations}
use Rattle.turn_types.specs.declared.limits.Bounds.{Bounds}

-- 1 to 1,024 allocations, 1 to 32 permissions and channels of each, 1 to 64 acts of a frame, and 1 to 508 bytes of a user's
-- name
pub record AreInRange (b : Bounds) : Type 0 where
  pub allocations : (1 ≤ b.allocations) × (b.allocations ≤ max_allocations)
  pub permissions : (1 ≤ b.permissions) × (b.permissions ≤ 32)
  pub channels : (1 ≤ b.channels) × (b.channels ≤ 32)
  pub acts : (1 ≤ b.acts) × (b.acts ≤ 64)
  pub name_bytes : (1 ≤ b.name_bytes) × (b.name_bytes ≤ 508)

-- the limits with the last value of each range
abbrev pub max_bounds : Bounds
max_bounds = record { allocations = max_allocations; permissions = 32; channels = 32; acts = 64; name_bytes = 508 }
