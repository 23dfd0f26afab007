-- What the bytes of a store hold.
use Rattle.std.specs.Prelude.{◌^◌, ◌≡◌, ◌⊎◌, ◌↔◌, ◌∷◌, ◌++◌, ◌<◌, ◌≤◌, ◌+◌, [], List, ℕ, Bool, true, length}
use Rattle.std.specs.Int.{to_be_bytes, w32, w64}
use Rattle.turn_disk.specs.Prelude.{State, StandsAt, IsSettled}
use Rattle.turn_journal.specs.Frames.{IsOpen, IsClosed, HoldsFrames, last_gate}
use Rattle.turn_record.specs.declared.version.Version.{Version}
use Rattle.turn_record.specs.declared.version.Version.TheVariants.{V1, V2}
use Rattle.turn_store.specs.Layout.{first_area, generation_at, head_size, second_area, store_size, version_at}
use Rattle.turn_store.specs.Superblock.{superblock, least_area}
use Rattle.turn_types.specs.Prelude.{AreInRange}
use Rattle.turn_types.specs.declared.limits.Bounds.{Bounds}

-- what never changes of a store: its limits, and the size of an area
pub record Form : Type 0 where
  pub bounds : Bounds
  -- the size of an area, in bytes
  pub area : ℕ

-- the limits are in range, an area of this version has room for each batch, and each byte has a position
pub record IsForm (v : Version) (form : Form) : Type 0 where
  pub in_range : AreInRange form.bounds
  -- an area has room for the longest snapshot and the longest payload
  pub room : least_area v form.bounds ≤ form.area
  -- each byte has a position below 2^64
  pub addressable : store_size form.area < 2 ^ 64

-- the areas follow the superblock, in either order
abbrev pub AreAreas : ℕ → ℕ → ℕ → Type 0
AreAreas size start other =
    ((start ≡ first_area) × (other ≡ second_area size)) ⊎ ((start ≡ second_area size) × (other ≡ first_area))

-- the byte of a version
abbrev pub version_byte : Version → ℕ
version_byte V1 = 1
version_byte V2 = 2

-- what follows an area's gate: the version, the generation, the snapshot's length, the snapshot
unfoldable pub area_front : Version → ℕ → List ℕ → List ℕ
area_front v generation snapshot = (version_byte v ∷ []) ++ (to_be_bytes w64 generation ++ (to_be_bytes w32 (length snapshot) ++ snapshot))

-- An open area of this version and generation holds a snapshot, and frames with these payloads after it, up to the first closed
-- gate.
pub record AreaHolds (v : Version) (start size generation : ℕ) (snapshot : List ℕ) (payloads : List (List ℕ)) (content : List ℕ) : Type 0 where
  pub in_range : generation < 2 ^ 64
  pub short : length snapshot < 2 ^ 32
  pub is_open : IsOpen start content
  pub front : StandsAt (start + version_at) (area_front v generation snapshot) content
  pub frames : HoldsFrames (start + head_size + length snapshot) payloads (start + size) content

-- the generation after an area's gate is below this one
pub record IsBelow (start generation : ℕ) (content : List ℕ) : Type 0 where
  pub lower : ℕ
  pub less : lower < generation
  pub stands : StandsAt (start + generation_at) (to_be_bytes w64 lower) content

-- an area isn't active beside an open one of this generation: its gate is closed, or its generation is below
abbrev pub Yields : ℕ → ℕ → List ℕ → Type 0
Yields start generation content = IsClosed start content ⊎ IsBelow start generation content

-- After the superblock of this form, the area at start holds this snapshot and these payloads in this version. The other area may
-- hold anything in either version.
pub record HoldsIn (v : Version) (form : Form) (start other generation : ℕ) (snapshot : List ℕ) (payloads : List (List ℕ)) (content : List ℕ) : Type 0 where
  pub is_form : IsForm v form
  pub front : StandsAt 0 (superblock form.area form.bounds) content
  -- the content has no other bytes
  pub whole : length content ≡ store_size form.area
  pub places : AreAreas form.area start other
  pub area : AreaHolds v start form.area generation snapshot payloads content

-- An area is active: it holds this snapshot and these payloads in this version, and the other area yields.
pub record Holds (v : Version) (form : Form) (snapshot : List ℕ) (payloads : List (List ℕ)) (image : List ℕ) : Type 0 where
  -- where the active area begins
  pub start : ℕ
  -- where the other one begins
  pub other : ℕ
  pub generation : ℕ
  pub active : HoldsIn v form start other generation snapshot payloads image
  -- the other area isn't active
  pub yields : Yields other generation image

-- Nothing is pending, and the area at start holds this snapshot and these payloads.
pub record HoldsAt (v : Version) (form : Form) (start other generation : ℕ) (snapshot : List ℕ) (payloads : List (List ℕ)) (state : State) : Type 0 where
  pub settled : IsSettled state
  pub active : HoldsIn v form start other generation snapshot payloads state.bytes

-- The area is active too, its log ends at this gate, counted from the area's first byte, and is_below says whether the other
-- area's generation is below.
pub record RecoversToParts
    (v : Version) (form : Form) (start other generation end : ℕ) (is_below : Bool) (snapshot : List ℕ) (payloads : List (List ℕ)) (state : State) : Type 0 where
  pub holds : HoldsAt v form start other generation snapshot payloads state
  pub ends : last_gate (start + head_size + length snapshot) payloads ≡ start + end
  pub below : (is_below ≡ true) ↔ IsBelow other generation state.bytes
  pub yields : Yields other generation state.bytes
