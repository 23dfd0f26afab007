-- What a reading of a store tells.
use Rattle.std.specs.Prelude.{◌≡◌, ℕ, List, Option, None, Some, Result, IfErr, IfOk, MatchResult}
use Rattle.turn_disk.specs.Prelude.{State}
use Rattle.turn_disk.specs.declared.disk.Disk as disks
use Rattle.turn_history.specs.Prelude.{History, table, Bounds}
use Rattle.turn_reading.specs.declared.error.ReadingError.{ReadingError}
use Rattle.turn_reading.specs.declared.error.ReadingError.TheVariants.{Device, Memory, NotAStore, LimitsDiffer, Damaged, Changing}
use Rattle.turn_reading.specs.declared.reading.Reading.{Reading}
use Rattle.turn_store.specs.Prelude.{Form, RepresentsAt, IsOpened, WhyRefused, Snapshot, StoreState, HasSuperblock, snapshot_of}
use Rattle.turn_store.specs.declared.error.OpenError.{OpenError}
use Rattle.turn_store.specs.declared.error.OpenError.TheVariants as open_faults
use Rattle.turn_store.specs.declared.superblock.LimitsError.{LimitsError}
use Rattle.turn_store.specs.declared.superblock.LimitsError.TheVariants as limits_faults
use Rattle.turn_table.specs.State as tables

-- the fault of limits that weren't read
abbrev pub of_limits : LimitsError → ReadingError
of_limits limits_faults.Device = Device
of_limits limits_faults.NotAStore = NotAStore

-- the fault of an opening under given limits, or under the store's own: without given ones, others at a second look are a
-- change
abbrev pub of_open : Option Bounds → OpenError → ReadingError
of_open limits open_faults.Device = Device
of_open limits open_faults.Memory = Memory
of_open limits open_faults.NotAStore = NotAStore
of_open None open_faults.LimitsDiffer = Changing
of_open (Some limits) open_faults.LimitsDiffer = LimitsDiffer
of_open limits (open_faults.Damaged place) = Damaged place

-- a fault that may come of a store that was written to while it was read
abbrev pub MayPass : ReadingError → Type 0
MayPass Device = ⊥
MayPass Memory = ⊥
MayPass NotAStore = Unit {0}
MayPass LimitsDiffer = Unit {0}
MayPass (Damaged place) = Unit {0}
MayPass Changing = Unit {0}

-- the limits that are given, or any if none are
abbrev pub IsUnder : Option Bounds → Bounds → Type 0
IsUnder None b = Unit {0}
IsUnder (Some limits) b = b ≡ limits

-- ---- Any content

-- Content was read under given limits or its own: a store that is opened holds this table.
pub record IsRead (D : Type 0) (limits : Option Bounds) (content : List ℕ) (t : Snapshot) : Type 0 where
  pub store : StoreState D
  pub state : State
  pub is_under : IsUnder limits store.bounds
  pub same : state.bytes ≡ content
  pub opened : IsOpened store state t

-- Why content was not read: the first reason that applies, under given limits or its own. A failed device call, a failed
-- allocation and a change say nothing of it.
abbrev pub WhyUnread : Option Bounds → List ℕ → ReadingError → Type 0
WhyUnread limits content Device = Unit {0}
WhyUnread limits content Memory = Unit {0}
WhyUnread limits content Changing = Unit {0}
WhyUnread limits content NotAStore = (area : ℕ) (b : Bounds) → HasSuperblock area b content → ⊥
WhyUnread None content LimitsDiffer = ⊥
WhyUnread (Some limits) content LimitsDiffer = WhyRefused limits content open_faults.LimitsDiffer
WhyUnread limits content (Damaged place) = (b : Bounds) × IsUnder limits b × WhyRefused b content (open_faults.Damaged place)

-- ---- Content that represents a history

-- a fault that says nothing of what the store holds
abbrev pub IsUnread : ReadingError → Type 0
IsUnread Device = Unit {0}
IsUnread Memory = Unit {0}
IsUnread NotAStore = ⊥
IsUnread LimitsDiffer = ⊥
IsUnread (Damaged place) = ⊥
IsUnread Changing = Unit {0}

-- Of content that represents a history at a clock, and has the given limits, the history's table at that clock is told, or
-- nothing of what is held.
abbrev pub Tells : {Reading : Type 0} → Option Bounds → (Reading → tables.State) → List ℕ → Result Reading ReadingError → Type 0
Tells limits table_of content outcome = (form : Form) (h : History) (clock : ℕ) → IsUnder limits form.bounds → RepresentsAt form h clock content
    → MatchResult outcome (λ reading. snapshot_of (table_of reading) ≡ record { moment = clock; contents = table h clock }) IsUnread

-- ---- Calls

-- a call that reads a disk to which nobody else writes, under given limits or under its own, and returns it with an outcome
pub record ReadsStore {D A : Type 0} (disk : disks.Ghosts D) (limits : Option Bounds) (old new : D) (outcome : Result (Reading A) ReadingError) : Type 0 where
  -- a disk that follows the crash model followed the crash model before
  pub crash_model : disk.follows_crash_model new → disk.follows_crash_model old
  -- the content stays
  pub same : disk.follows_crash_model new → (disk.trace new).now.bytes ≡ (disk.trace old).now.bytes
  -- what was read, and the reason of each refusal: the first that applies
  pub read : disk.follows_crash_model new → IfOk outcome (λ r. IsRead D limits (disk.trace old).now.bytes (snapshot_of r.table))
  pub why : disk.follows_crash_model new → IfErr outcome (WhyUnread limits (disk.trace old).now.bytes)
  -- if the content represents a history, what is told of it
  pub tells : disk.follows_crash_model new → Tells limits (λ r. r.table) (disk.trace old).now.bytes outcome
