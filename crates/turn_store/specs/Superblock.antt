-- The first bytes of a store.
use Rattle.std.specs.Prelude.{◌∷◌, ◌++◌, ◌≤◌, ◌<◌, ◌^◌, ◌+◌, [], List, ℕ, length}
use Rattle.std.specs.Int.{to_be_bytes, w16, w32, w64}
use Rattle.turn_disk.specs.Prelude.{StandsAt}
use Rattle.turn_journal.specs.Layout.{frame_room}
use Rattle.turn_record.specs.Prelude.{max_snapshot, max_payload}
use Rattle.turn_record.specs.declared.version.Version.{Version}
use Rattle.turn_store.specs.Layout.{head_size, superblock_size}
use Rattle.turn_types.specs.Prelude.{AreInRange}
use Rattle.turn_types.specs.declared.limits.Bounds.{Bounds}

-- the letters RTURNST1
abbrev pub magic : List ℕ
magic = 0x52 ∷ 0x54 ∷ 0x55 ∷ 0x52 ∷ 0x4E ∷ 0x53 ∷ 0x54 ∷ 0x31 ∷ []

-- 36 zeros
abbrev pub zeros : List ℕ
zeros = 0 ∷ 0 ∷ 0 ∷ 0 ∷ 0 ∷ 0 ∷ 0 ∷ 0 ∷ 0 ∷ 0 ∷ 0 ∷ 0 ∷ 0 ∷ 0 ∷ 0 ∷ 0 ∷ 0 ∷ 0 ∷ 0 ∷ 0 ∷ 0 ∷ 0 ∷ 0 ∷ 0 ∷ 0 ∷ 0 ∷ 0 ∷ 0 ∷ 0 ∷ 0 ∷ 0 ∷ 0 ∷ 0 ∷ 0 ∷ 0 ∷ 0 ∷ []

-- the letters, the size of an area, the limits, and zeros; the highest byte of a number is first
unfoldable pub superblock : ℕ → Bounds → List ℕ
superblock area b =
    magic ++ (to_be_bytes w64 area ++ (to_be_bytes w32 b.allocations ++ (to_be_bytes w16 b.permissions ++ (to_be_bytes w16 b.channels
    ++ (to_be_bytes w16 b.acts ++ (to_be_bytes w16 b.name_bytes ++ zeros))))))

-- the content begins with the superblock of an area of this size and of these limits
pub record HasSuperblock (area : ℕ) (b : Bounds) (content : List ℕ) : Type 0 where
  pub long : superblock_size ≤ length content
  pub addressable : area < 2 ^ 64
  pub in_range : AreInRange b
  pub stands : StandsAt 0 (superblock area b) content

-- the min size of an area of a version, in bytes: what is before the snapshot, a frame and the gate after it, for the longest snapshot
-- and the longest payload
abbrev pub least_area : Version → Bounds → ℕ
least_area v b = head_size + frame_room + max_snapshot v b + max_payload v b
