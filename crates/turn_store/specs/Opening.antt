-- What an opening of a store says.
use Rattle.std.specs.Prelude.{◌≡◌, ◌≢◌, ◌⊎◌, ℕ, Bool, false, Result, Ok, Err, IfOk, IfErr, IsErrAnd}
use Rattle.turn_disk.specs.Prelude.{Uses, EachImageSince, IsImage, IsSettled}
use Rattle.turn_disk.specs.declared.disk.Disk as disks
use Rattle.turn_history.specs.Prelude.{History, Bounds}
use Rattle.turn_record.specs.Prelude.{Holds}
use Rattle.turn_record.specs.declared.version.Version.{Version}
use Rattle.turn_store.specs.Areas.{Form}
use Rattle.turn_store.specs.Carrying.{Carries}
use Rattle.turn_store.specs.Images.{IsInVersion, IsInVersionOr2, RepresentsBy, RepresentsAt}
use Rattle.turn_store.specs.Opened.{IsOpened, OpensTo}
use Rattle.turn_store.specs.Refused.{IsPlain, WhyRefused}
use Rattle.turn_store.specs.Tables.{snapshot_of}
use Rattle.turn_store.specs.declared.error.OpenError.TheVariants.{Device}
use Rattle.turn_store.specs.declared.store.Opened.{Opened}
use Rattle.turn_store.specs.declared.store.StoreOpenError.{StoreOpenError}

-- the disk after an opening: the store's, or the one that was returned
abbrev pub disk_of : {D A : Type 0} → Result (Opened D A) (StoreOpenError D) → D
disk_of (Ok opened) = opened.store.disk
disk_of (Err refused) = refused.disk

-- An opening of a disk under limits, which carries the store over if it is asked to.
pub record Opening {D A : Type 0} (disk : disks.Ghosts D) (old : D) (limits : Bounds) (carry : Bool) (result : Result (Opened D A) (StoreOpenError D)) : Type 0 where
  -- Device comes with one failed call
  pub uses : Uses disk old (disk_of result) (IsErrAnd result (λ r. r.fault ≡ Device))
  -- store and table have the limits, the store runs, and its version can hold the table
  pub bounds : IfOk result (λ o. (o.store.bounds ≡ limits) × (o.table.bounds ≡ limits))
  pub runs : IfOk result (λ o. o.store.stopped ≡ false)
  pub holds : IfOk result (λ o. Holds o.store.version o.table.contents)
  -- a stop at any moment leaves what it might have left before, or an image that represents the same history
  pub stop : disk.follows_crash_model (disk_of result) → (form : Form) (h : History) (clock : ℕ) → RepresentsAt form h clock (disk.trace old).now.bytes
      → EachImageSince (disk.trace old) (disk.trace (disk_of result)) (λ image. IsImage (disk.trace old).now image ⊎ RepresentsBy form h clock image)
  -- and which is of the version of the content, or carried over to version 2
  pub version : disk.follows_crash_model (disk_of result) → (v : Version) (form : Form) → IsInVersion v form (disk.trace old).now.bytes
      → EachImageSince (disk.trace old) (disk.trace (disk_of result)) (λ image. IsImage (disk.trace old).now image ⊎ IsInVersionOr2 v form image)
  -- where nothing is to be carried over the content stays, and a stop at any moment leaves what it might have left before
  pub same : carry ≡ false → disk.follows_crash_model (disk_of result) → (disk.trace (disk_of result)).now.bytes ≡ (disk.trace old).now.bytes
  pub stop_kept : carry ≡ false → disk.follows_crash_model (disk_of result) → EachImageSince (disk.trace old) (disk.trace (disk_of result)) (IsImage (disk.trace old).now)
  -- the sync comes first: a refusal that isn't of the device finds nothing pending
  pub settled : IfErr result (λ r. disk.follows_crash_model r.disk → r.fault ≢ Device → IsSettled (disk.trace r.disk).now)
  -- what the store holds, and the reason of each refusal: the first that applies
  pub opened : IfOk result (λ o. disk.follows_crash_model o.store.disk → IsOpened o.store (disk.trace o.store.disk).now (snapshot_of o.table))
  pub why : IfErr result (λ r. disk.follows_crash_model r.disk → WhyRefused limits (disk.trace old).now.bytes r.fault)
  -- exactly a store of version 1 is carried over whose areas have room for version 2, and which isn't worn
  pub carried : IfOk result (λ o. disk.follows_crash_model o.store.disk → Carries carry (disk.trace old).now.bytes o.store)
  -- if the content represents a history, the store recovers to it and the table is the history's
  pub recovers : IfOk result (λ o. disk.follows_crash_model o.store.disk → (form : Form) (h : History) (clock : ℕ) → form.bounds ≡ limits
      → RepresentsAt form h clock (disk.trace old).now.bytes → OpensTo form h clock o.store (disk.trace o.store.disk).now (snapshot_of o.table))
  -- and a refusal is then of the device or of memory
  pub sound : IfErr result (λ r. disk.follows_crash_model r.disk → (form : Form) (h : History) (clock : ℕ) → form.bounds ≡ limits
      → RepresentsAt form h clock (disk.trace old).now.bytes → IsPlain r.fault)
