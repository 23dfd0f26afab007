-- What contracts see of a batch.
use Rattle.std.specs.Prelude.{◌≡◌, ◌≤◌, ◌+◌, ◌*◌, ℕ, List, length, slice_index}
use Rattle.turn_record.specs.Prelude.{max_act, max_payload}
use Rattle.turn_record.specs.declared.version.Version.{Version}
use Rattle.turn_types.specs.Prelude.{AreInRange}
use Rattle.turn_types.specs.declared.address.FiveTuple.{FiveTuple}
use Rattle.turn_types.specs.declared.limits.Bounds.{Bounds}

-- what contracts see of a batch: the limits, the version of the records, the payload of the acts that are staged, how many there
-- are, and of which five-tuples
pub record Staged : Type 0 where
  pub bounds : Bounds
  pub version : Version
  -- a count in one byte, and the act entries that are staged
  pub payload : List ℕ
  -- how many these are
  pub acts : ℕ
  -- in their order
  pub tuples : List FiveTuple

-- a buffer has room for as many acts as the limits allow, and its payload begins with their number; so has the list of their five-tuples
pub record IsSound (v : Version) (b : Bounds) (acts : ℕ) (payload : List ℕ) (capacity : ℕ) (tuples : List FiveTuple) (places : ℕ) : Type 0 where
  pub in_range : AreInRange b
  pub few : acts ≤ b.acts
  pub counted : slice_index payload 0 ≡ acts
  pub some : 1 ≤ length payload
  pub short : length payload ≤ 1 + acts * max_act v b
  pub room : max_payload v b ≤ capacity
  pub each : length tuples ≡ acts
  pub places_for_all : b.acts ≤ places
