-- What a call leaves of a disk, and what a stop leaves.
use Rattle.std.specs.Prelude.{◌≡◌, ◌⊎◌, ◌+◌, [], ℕ, List, Result, true, length, OnOk}
use Rattle.turn_disk.specs.Prelude.{State, Trace, EachImageSince, IsImage, IsSettled, Reads, Uses, WritesOnce}
use Rattle.turn_disk.specs.declared.disk.Disk as disks
use Rattle.turn_record.specs.declared.version.Version.{Version}
use Rattle.turn_store.specs.Areas.{Form, Holds, RecoversToParts}
use Rattle.turn_store.specs.Layout.{head_size}

-- a stop at any moment of the call leaves an image that has P, and after Ok the disk's state has Q
pub record Leaves {A E : Type 0} (old new : Trace) (P : List ℕ → Type 0) (Q : State → Type 0) (result : Result A E) : Type 0 where
  pub stop : EachImageSince old new P
  pub done : OnOk result (Q new.now)

-- A call that only reads, in which a device call failed where `failed` holds. Of a disk that follows the crash model it says `finds` of
-- the content.
pub record IsRead {D : Type 0} (disk : disks.Ghosts D) (old new : D) (failed : Type 0) (finds : List ℕ → Type 0) : Type 0 where
  pub reads : Reads disk old new failed
  pub found : disk.follows_crash_model new → finds (disk.trace old).now.bytes

-- A sync, and reads after it: the content stays, a stop at any moment leaves what it might have left before, and nothing is pending if no
-- device call failed.
pub record Settles {D : Type 0} (disk : disks.Ghosts D) (old new : D) (failed : Type 0) : Type 0 where
  pub uses : Uses disk old new failed
  pub same : disk.follows_crash_model new → (disk.trace new).now.bytes ≡ (disk.trace old).now.bytes
  pub stop : disk.follows_crash_model new → EachImageSince (disk.trace old) (disk.trace new) (IsImage (disk.trace old).now)
  pub settled : (failed → ⊥) → disk.follows_crash_model new → IsSettled (disk.trace new).now

-- Up to some moment of the call a stop leaves an image that has P. There the call ended, or nothing is pending. From then on a stop
-- leaves an image that has Q, and one byte, the gate, is written, at most once.
pub record InStagesAt (gate : ℕ) (old new : Trace) (P Q : List ℕ → Type 0) : Type 0 where
  -- the moment between the two stages
  pub mid : Trace
  pub first : EachImageSince old mid P
  pub there : (new ≡ mid) ⊎ IsSettled mid.now
  pub second : EachImageSince mid new Q
  pub once : WritesOnce gate 1 mid new

-- a call in two stages, at some gate
abbrev pub InStages : Trace → Trace → (List ℕ → Type 0) → (List ℕ → Type 0) → Type 0
InStages old new P Q = (gate : ℕ) × InStagesAt gate old new P Q

-- A snapshot of the next generation, in version w, is put into the other area, which begins at the gate. Up to some moment a stop leaves
-- what was there; from then on that, or the new snapshot alone.
pub record Replaces {A E : Type 0} (v w : Version) (form : Form) (start gate generation : ℕ) (snapshot next : List ℕ) (payloads : List (List ℕ)) (old new : Trace) (result : Result A E) : Type 0 where
  pub stages : InStagesAt gate old new (Holds v form snapshot payloads) (λ image. Holds v form snapshot payloads image ⊎ Holds w form next [] image)
  -- after Ok the other area is active
  pub done : OnOk result (RecoversToParts w form gate start (generation + 1) (head_size + length next) true next [] new.now)
