-- What contracts see of a store.
use Rattle.std.specs.Prelude.{◌≡◌, ◌≤◌, ◌<◌, ◌^◌, ◌+◌, ◌++◌, ℕ, Bool, List, true, false, length}
use Rattle.turn_disk.specs.Prelude.{State}
use Rattle.turn_history.specs.Prelude.{IsFitting, Event, History, clock, AllFrom, Bounds}
use Rattle.turn_journal.specs.Area.{IsFullFor}
use Rattle.turn_journal.specs.Layout.{frame_head}
use Rattle.turn_journal.specs.declared.area.Area.{Area}
use Rattle.turn_store.specs.Areas.{Form, RecoversToParts}
use Rattle.turn_record.specs.Prelude.{max_payload}
use Rattle.turn_record.specs.declared.version.Version.{Version}
use Rattle.turn_record.specs.declared.version.Version.TheVariants.{V2}
use Rattle.turn_store.specs.Layout.{head_size, second_area, store_size}
use Rattle.turn_store.specs.Encodes.{Encodes}
use Rattle.turn_store.specs.Superblock.{least_area}
use Rattle.turn_types.specs.Prelude.{end_of_moments}

-- the disk, the limits, the version and the place of the active area, where the other one begins, the generation, how many
-- frames the area has, whether the other area's generation is below, and whether the store is stopped
pub record StoreState (D : Type 0) : Type 0 where
  pub disk : D
  pub bounds : Bounds
  pub version : Version
  -- where the active area begins, its size, and where its log ends
  pub area : Area
  -- where the other area begins, in bytes from the disk's first
  pub other : ℕ
  -- that of the active area
  pub generation : ℕ
  -- how many frames that has
  pub frames : ℕ
  -- whether the generation of the other area is below
  pub other_is_below : Bool
  -- a device call of a commit failed, and no more is written
  pub stopped : Bool

-- what never changes of a store
abbrev pub form_of : {D : Type 0} → StoreState D → Form
form_of s = record { bounds = s.bounds; area = s.area.size }

-- what a store knows of its disk in this state: nothing is pending, and the active area holds this snapshot and these
-- payloads
pub record Shows {D : Type 0} (store : StoreState D) (state : State) (snapshot : List ℕ) (payloads : List (List ℕ)) : Type 0 where
  pub recovers : RecoversToParts store.version (form_of store) store.area.start store.other store.generation store.area.end store.other_is_below snapshot payloads state
  pub frames : store.frames ≡ length payloads

-- A store that isn't stopped recovers to a history at a clock: what its disk holds encodes it.
pub record RecoversToAt {D : Type 0} (store : StoreState D) (state : State) (c : ℕ) (h : History) : Type 0 where
  pub snapshot : List ℕ
  pub payloads : List (List ℕ)
  pub shows : Shows store state snapshot payloads
  pub encodes : Encodes store.version store.bounds h c snapshot payloads
  pub runs : store.stopped ≡ false

-- Events may be added to a history on which a store rests at a clock: they fit after it, and none is before the clock or later
-- than a moment.
pub record MayFollow (b : Bounds) (c : ℕ) (h : History) (es : List Event) (moment : ℕ) : Type 0 where
  pub fitting : IsFitting b (h ++ es)
  pub from : AllFrom c es
  pub clock_late : c ≤ moment
  pub late : clock (h ++ es) ≤ moment
  pub in_range : moment < end_of_moments

-- what a store keeps in any state: its areas fill the disk, and each batch fits
pub record IsSound (capacity : ℕ) (v : Version) (b : Bounds) (area : Area) (other frames : ℕ) : Type 0 where
  pub whole : store_size area.size ≡ capacity
  pub addressable : capacity < 2 ^ 64
  pub room : least_area v b ≤ area.size
  pub small : (w : Version) → least_area w b < 2 ^ 32
  pub payload : area.max_payload ≡ max_payload v b
  pub start_within : area.start ≤ second_area area.size
  pub other_within : other ≤ second_area area.size
  pub frames_within : frames ≤ area.end

-- a batch with a payload of so many bytes is written as a snapshot: no frame with it fits after the last one
abbrev pub CompactsFor : {D : Type 0} → StoreState D → ℕ → Type 0
CompactsFor s count = IsFullFor s.area count

-- the store after a call that failed, over this disk
abbrev pub stopped_over : {D : Type 0} → StoreState D → D → StoreState D
stopped_over s disk = record s { disk = disk; stopped = true }

-- the store after a frame with a payload of so many bytes more, over this disk
abbrev pub framed : {D : Type 0} → StoreState D → ℕ → D → StoreState D
framed s count disk = record s {
  disk = disk;
  area = record s.area { end = s.area.end + frame_head + count };
  frames = s.frames + 1;
}

-- the store after a snapshot of so many bytes in the other area, which is active now, over this disk
abbrev pub swapped : {D : Type 0} → StoreState D → ℕ → D → StoreState D
swapped s count disk = record s {
  disk = disk;
  area = record s.area { start = s.other; end = head_size + count };
  other = s.area.start;
  generation = s.generation + 1;
  frames = 0;
  other_is_below = true;
}

-- the other area, as that of version 2 with a snapshot of so many bytes
abbrev pub carried_area : {D : Type 0} → StoreState D → ℕ → Area
carried_area s count = record { start = s.other; size = s.area.size; max_payload = max_payload V2 s.bounds; end = head_size + count }

-- the store as version 2, where this other area is active now, over this disk
abbrev pub carried : {D : Type 0} → StoreState D → Area → D → StoreState D
carried s area disk = record s {
  disk = disk;
  version = V2;
  area = area;
  other = s.area.start;
  generation = s.generation + 1;
  frames = 0;
  other_is_below = true;
}
