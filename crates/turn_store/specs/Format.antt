-- A disk that is being formatted.
use Rattle.std.specs.Prelude.{◌≡◌, ◌⊎◌, ◌∷◌, ◌++◌, [], List, ℕ, length}
use Rattle.turn_disk.specs.Prelude.{State, Trace, EachImageSince, IsSettled, Overwrites, StandsAt, Syncs}
use Rattle.turn_history.specs.Prelude.{no_contents}
use Rattle.turn_journal.specs.Frames.{IsClosed}
use Rattle.turn_journal.specs.Layout.{closed_gate}
use Rattle.turn_record.specs.Prelude.{snapshot}
use Rattle.turn_record.specs.declared.version.Version.{Version}
use Rattle.turn_store.specs.Areas.{Form, Holds, HoldsAt, area_front}
use Rattle.turn_store.specs.Images.{RepresentsAt}
use Rattle.turn_store.specs.Layout.{first_area, second_area, store_size, superblock_size}

-- the snapshot of a table without entries at the moment 0
abbrev pub fresh : Version → List ℕ
fresh v = snapshot v 0 no_contents

-- the first area as it is laid out: a closed gate, generation 1, the fresh snapshot, and the closed gate of a log without frames
abbrev pub fresh_area : Version → List ℕ
fresh_area v = closed_gate ∷ (area_front v 1 (fresh v) ++ closed_gate ∷ [])

-- Nothing is pending, both gates are closed, and the first area has generation 1, the fresh snapshot and no frame.
pub record IsLaid (v : Version) (size : ℕ) (state : State) : Type 0 where
  pub settled : IsSettled state
  pub whole : length state.bytes ≡ store_size size
  pub closed : IsClosed (second_area size) state.bytes
  pub stands : StandsAt first_area (fresh_area v) state.bytes

-- The first area is active, in this version, with generation 1, the fresh snapshot and no frame, and the gate of the second one is closed.
pub record IsFormatted (v : Version) (form : Form) (state : State) : Type 0 where
  pub holds : HoldsAt v form first_area (second_area form.area) 1 (fresh v) [] state
  pub closed : IsClosed (second_area form.area) state.bytes

-- no area is active, in any form and version: no opening over a disk that follows the crash model succeeds
abbrev pub HoldsNothing : List ℕ → Type 0
HoldsNothing image =
    (v : Version) (form : Form) (snapshot : List ℕ) (payloads : List (List ℕ)) → Holds v form snapshot payloads image → ⊥

-- an image holds nothing, or represents the empty history at the clock 0
abbrev pub HoldsNothingOrRepresents : Form → List ℕ → Type 0
HoldsNothingOrRepresents form image = HoldsNothing image ⊎ RepresentsAt form [] 0 image

-- How a disk becomes a store of this form. Nothing was written; or the superblock's bytes alone, and they were not synced; or they
-- were, and from then on a stop leaves an image that holds nothing, or one that represents the empty history.
abbrev pub FormatsInOrder : Form → Trace → Trace → Type 0
FormatsInOrder form old new =
    (new ≡ old) ⊎ Overwrites 0 superblock_size old new
    ⊎ ((written synced : Trace) × Overwrites 0 superblock_size old written × Syncs written synced
    × EachImageSince synced new (HoldsNothingOrRepresents form))
