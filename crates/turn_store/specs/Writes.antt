-- What the calls that write to a store say.
use Rattle.std.specs.Prelude.{◌≡◌, ◌⊎◌, ◌↔◌, ℕ, List, Result, Err, true, false, OnOk, OnErr, IsErr}
use Rattle.turn_disk.specs.Prelude.{Uses, Passes, Trace, EachImageSince}
use Rattle.turn_disk.specs.declared.disk.Disk as disks
use Rattle.turn_store.specs.Areas.{Holds}
use Rattle.turn_store.specs.Images.{IsInVersion}
use Rattle.turn_store.specs.Stages.{InStagesAt}
use Rattle.turn_store.specs.State.{StoreState, Shows, form_of, stopped_over}
use Rattle.turn_store.specs.declared.error.StoreError.{StoreError}
use Rattle.turn_store.specs.declared.error.StoreError.TheVariants.{Device, Worn, Stopped}

-- A call that may write, and other work that is done while its device calls wait. The trace of a disk that follows the crash model changes
-- as `change` says.
pub record IsStep {D M A E : Type 0} (disk : disks.Ghosts D) (passes : M → M → Type 0) (old new : D) (other done : M) (result : Result A E) (change : Trace → Trace → Type 0) : Type 0 where
  pub uses : Uses disk old new (IsErr result)
  -- pieces of the other work, one after another
  pub meanwhile : Passes passes other done
  pub does : disk.follows_crash_model new → change (disk.trace old) (disk.trace new)

-- A frame or a snapshot is written, after which the store is `next` over its disk. Of what an area held the snapshot becomes `snapshot`,
-- and the payloads `payloads`.
pub record IsWrite {D A E : Type 0} (disk : disks.Ghosts D) (gate : ℕ) (next : D → StoreState D) (snapshot : List ℕ → List ℕ) (payloads : List (List ℕ) → List (List ℕ))
    (old new : StoreState D) (result : Result A E) : Type 0 where
  pub uses : Uses disk old.disk new.disk (IsErr result)
  pub ok : OnOk result (new ≡ next new.disk)
  pub err : OnErr result (new ≡ stopped_over old new.disk)
  -- up to some moment a stop leaves what was there; from then on that, or what is written, and the gate alone is written, at most once
  pub stages : disk.follows_crash_model new.disk → (s : List ℕ) (ps : List (List ℕ)) → Shows old (disk.trace old.disk).now s ps
      → InStagesAt gate (disk.trace old.disk) (disk.trace new.disk) (Holds old.version (form_of old) s ps)
      (λ image. Holds old.version (form_of old) s ps image ⊎ Holds (next new.disk).version (form_of old) (snapshot s) (payloads ps) image)
  pub shown : disk.follows_crash_model new.disk → (s : List ℕ) (ps : List (List ℕ)) → Shows old (disk.trace old.disk).now s ps
      → OnOk result (Shows new (disk.trace new.disk).now (snapshot s) (payloads ps))

-- What a commit says whatever it writes: `is_worn` is that it needs a generation after the last one.
pub record IsCommit {D M A : Type 0} (disk : disks.Ghosts D) (passes : M → M → Type 0) (is_worn : Type 0) (old new : StoreState D) (other done : M) (result : Result A StoreError) : Type 0 where
  -- Device comes with one failed call; Worn and Stopped come without a device call
  pub uses : Uses disk old.disk new.disk (result ≡ Err Device)
  pub worn : (result ≡ Err Worn) ↔ ((old.stopped ≡ false) × is_worn)
  pub untouched_worn : result ≡ Err Worn → new.disk ≡ old.disk
  pub stopped : (result ≡ Err Stopped) ↔ (old.stopped ≡ true)
  pub untouched : old.stopped ≡ true → new ≡ old
  pub stops : OnErr result (new ≡ stopped_over old new.disk)
  -- at each moment a stop leaves an image of the store's version
  pub version : disk.follows_crash_model new.disk → (s : List ℕ) (ps : List (List ℕ)) → Shows old (disk.trace old.disk).now s ps
      → EachImageSince (disk.trace old.disk) (disk.trace new.disk) (IsInVersion old.version (form_of old))
  -- pieces of other work were done, one after another, while device calls waited
  pub meanwhile : Passes passes other done
