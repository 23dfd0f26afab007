-- The min sizes of areas.
use Rattle.std.proofs.Common.{◌*◌, ◌<◌, ◌≤◌, ◌^◌, arith}
use Rattle.std.proofs.Math.Nat.{mul-le-mul_left}
use Rattle.turn_record.specs.Prelude.{max_act, max_entry}
use Rattle.turn_store.specs.Prelude.{Version, V1, V2, least_area}
use Rattle.turn_types.specs.declared.limits.Bounds.{Bounds}

-- that of version 1 is the smallest
pub smallest : (v : Version) (b : Bounds) → least_area V1 b ≤ least_area v b
smallest V1 b = omega arith
smallest V2 b =
    let entries : b.allocations * max_entry V1 b ≤ b.allocations * max_entry V2 b = mul-le-mul_left b.allocations (omega arith) in
    let acts : b.acts * max_act V1 b ≤ b.acts * max_act V2 b = mul-le-mul_left b.acts (omega arith) in
    omega (arith, entries, acts)

-- what holds of both versions holds of each
pub each_small : (b : Bounds) → least_area V1 b < 2 ^ 32 → least_area V2 b < 2 ^ 32 → (v : Version) → least_area v b < 2 ^ 32
each_small b one two V1 = one
each_small b one two V2 = two
