-- What is read of content, and what is told if it represents a history.
use Rattle.std.proofs.Common.{◌≡◌, ◌⊎◌, ◌∙◌, ℕ, List, Option, None, Some, Result, Ok, Err, refl, subst, sym, inl, inr, IfErr, IfOk, IfSome, MatchResult, unwrap_or}
use Rattle.turn_disk.specs.declared.disk.Disk as disks
use Rattle.turn_history.specs.Prelude.{History, Bounds}
use Rattle.turn_reading.specs.Readings.{IsRead, IsUnder, IsUnread, ReadsStore, Tells, WhyUnread, of_limits, of_open}
use Rattle.turn_reading.specs.declared.reading.Reading.{Reading}
use Rattle.turn_reading.specs.declared.error.ReadingError.{ReadingError}
use Rattle.turn_reading.specs.declared.error.ReadingError.TheVariants.{Changing}
use Rattle.turn_store.proofs.NeverRefused.{has_superblock}
use Rattle.turn_store.proofs.Superblocks.{superblock_once}
use Rattle.turn_store.specs.Prelude.{Form, RepresentsAt, IsPlain, WhyRefused, Snapshot, HasSuperblock, snapshot_of}
use Rattle.turn_store.specs.declared.error.OpenError.{OpenError}
use Rattle.turn_store.specs.declared.error.OpenError.TheVariants as open_faults
use Rattle.turn_store.specs.declared.superblock.LimitsError.{LimitsError}
use Rattle.turn_store.specs.declared.superblock.LimitsError.TheVariants as limits_faults

-- ---- Any content

-- what was read under some limits, which are the given ones or those of the content
pub read_under : {D : Type 0} (limits : Option Bounds) (under : Bounds) (new content : List ℕ) (t : Snapshot)
    → IsUnder limits under → new ≡ content → IsRead D (Some under) new t → IsRead D limits content t
read_under limits under new content t given same read = record {
  store = read.store;
  state = read.state;
  is_under = subst (IsUnder limits) (sym read.is_under) given;
  same = read.same ∙ same;
  opened = read.opened;
}

-- it has no limits
pub why_limits : (limits : Option Bounds) (content : List ℕ) (refused : LimitsError)
    → (refused ≡ limits_faults.NotAStore → (area : ℕ) (b : Bounds) → HasSuperblock area b content → ⊥) → WhyUnread limits content (of_limits refused)
why_limits limits content limits_faults.Device none = tt
why_limits limits content limits_faults.NotAStore none = none refl

-- it was refused under such limits
pub why_open : (limits : Option Bounds) (under : Bounds) (content : List ℕ) (fault : OpenError)
    → IsUnder limits under → WhyRefused under content fault → WhyUnread limits content (of_open limits fault)
why_open limits under content open_faults.Device given why = tt
why_open limits under content open_faults.Memory given why = tt
why_open limits under content open_faults.NotAStore given why = why
why_open None under content open_faults.LimitsDiffer given why = tt
why_open (Some limits) under content open_faults.LimitsDiffer given why = subst (λ b. WhyRefused b content open_faults.LimitsDiffer) given why
why_open limits under content (open_faults.Damaged place) given why = (under, given, why)

-- the second of three readings
pub ok_steady : {R E : Type 0} (P : R → Type 0) (reading : R) (outcome : Result R E) → P reading → IfOk outcome (λ r. r ≡ reading) → IfOk outcome P
ok_steady P reading (Ok r) has second = subst P (sym second) has
ok_steady P reading (Err fault) has second = tt

-- or a change
pub err_steady : {R E : Type 0} (P : E → Type 0) (fault : E) (outcome : Result R E) → P fault → IfErr outcome (λ f. f ≡ fault) → IfErr outcome P
err_steady P fault (Ok r) has changing = tt
err_steady P fault (Err f) has changing = subst P (sym changing) has

-- of one try more
pub why_joined : (limits : Option Bounds) (content : List ℕ) (fault result : ReadingError) → (result ≡ fault) ⊎ (result ≡ Changing)
    → WhyUnread limits content fault → WhyUnread limits content result
why_joined limits content fault result (inl same) why = subst (WhyUnread limits content) (sym same) why
why_joined limits content fault result (inr changing) why = subst (WhyUnread limits content) (sym changing) tt

-- of all tries
pub why_last : (limits : Option Bounds) (content : List ℕ) (last : Option ReadingError) → IfSome last (WhyUnread limits content)
    → WhyUnread limits content (unwrap_or last Changing)
why_last limits content None why = tt
why_last limits content (Some fault) why = why

-- ---- Content that represents a history

-- it has limits
pub unread_limits : (form : Form) (h : History) (clock : ℕ) (content : List ℕ) → RepresentsAt form h clock content → (refused : LimitsError)
    → (refused ≡ limits_faults.NotAStore → (area : ℕ) (b : Bounds) → HasSuperblock area b content → ⊥) → IsUnread (of_limits refused)
unread_limits form h clock content stands limits_faults.Device none = tt
unread_limits form h clock content stands limits_faults.NotAStore none = absurd (none refl form.area form.bounds (has_superblock form h clock content stands))

-- which are those of its form
pub own_limits : (form : Form) (h : History) (clock : ℕ) (content : List ℕ) → RepresentsAt form h clock content → (limits : Bounds)
    → (area : ℕ) × HasSuperblock area limits content → form.bounds ≡ limits
own_limits form h clock content stands limits found =
    (superblock_once form.area found.0 form.bounds limits content (has_superblock form h clock content stands) found.1).1

-- the given limits, or else its own, are those of its form
pub form_is_under : (limits : Option Bounds) (form : Form) (h : History) (clock : ℕ) (content : List ℕ) (under : Bounds)
    → IsUnder limits under → (limits ≡ None → (area : ℕ) × HasSuperblock area under content) → IsUnder limits form.bounds → RepresentsAt form h clock content
    → form.bounds ≡ under
form_is_under None form h clock content under given own is stands = own_limits form h clock content stands under (own refl)
form_is_under (Some limits) form h clock content under given own is stands = is ∙ sym given

-- and it is refused for the device or for memory alone
pub unread_open : (limits : Option Bounds) (fault : OpenError) → IsPlain fault → IsUnread (of_open limits fault)
unread_open limits open_faults.Device plain = tt
unread_open limits open_faults.Memory plain = tt
unread_open limits open_faults.NotAStore plain = absurd plain
unread_open limits open_faults.LimitsDiffer plain = absurd plain
unread_open limits (open_faults.Damaged place) plain = absurd plain

-- The second of three readings, or a change. P is what is told of a reading.
pub told_steady : {R : Type 0} (P : R → Type 0) (reading : R) (outcome : Result R ReadingError) → P reading
    → IfOk outcome (λ r. r ≡ reading) → IfErr outcome (λ fault. fault ≡ Changing) → MatchResult outcome P IsUnread
told_steady P reading (Ok r) told second changing = subst P (sym second) told
told_steady P reading (Err fault) told second changing = subst IsUnread (sym changing) tt

-- of one try more
pub unread_joined : (fault result : ReadingError) → (result ≡ fault) ⊎ (result ≡ Changing) → IsUnread fault → IsUnread result
unread_joined fault result (inl same) unread = subst IsUnread (sym same) unread
unread_joined fault result (inr changing) unread = subst IsUnread (sym changing) tt

-- of all tries
pub unread_last : (last : Option ReadingError) → IfSome last IsUnread → IsUnread (unwrap_or last Changing)
unread_last None unread = tt
unread_last (Some fault) unread = unread

-- ---- Calls, one after another

module _ {D A : Type 0} {disk : disks.Ghosts D} {limits : Option Bounds} {old mid new : D} where
  -- a call that left the content, and then one that reads
  pub reads_after : (disk.follows_crash_model mid → disk.follows_crash_model old) → (disk.follows_crash_model mid → (disk.trace mid).now.bytes ≡ (disk.trace old).now.bytes) → {outcome : Result (Reading A) ReadingError}
      → ReadsStore disk limits mid new outcome → ReadsStore disk limits old new outcome
  reads_after earlier left {outcome} reads = record {
    crash_model = λ now. earlier (reads.crash_model now);
    same = λ now. reads.same now ∙ left (reads.crash_model now);
    read = λ now. subst (λ (content : List ℕ). IfOk outcome (λ r. IsRead D limits content (snapshot_of r.table))) (left (reads.crash_model now)) (reads.read now);
    why = λ now. subst (λ (content : List ℕ). IfErr outcome (WhyUnread limits content)) (left (reads.crash_model now)) (reads.why now);
    tells = λ now. subst (λ (content : List ℕ). Tells limits (λ r. r.table) content outcome) (left (reads.crash_model now)) (reads.tells now);
  }

  -- one that reads, and then a call that left the content
  pub reads_before : (disk.follows_crash_model new → disk.follows_crash_model mid) → (disk.follows_crash_model new → (disk.trace new).now.bytes ≡ (disk.trace mid).now.bytes) → {outcome : Result (Reading A) ReadingError}
      → ReadsStore disk limits old mid outcome → ReadsStore disk limits old new outcome
  reads_before later left reads = record {
    crash_model = λ now. reads.crash_model (later now);
    same = λ now. left now ∙ reads.same (later now);
    read = λ now. reads.read (later now);
    why = λ now. reads.why (later now);
    tells = λ now. reads.tells (later now);
  }

-- the second of three readings, or a change
pub reads_steadily : {D A : Type 0} {disk : disks.Ghosts D} {limits : Option Bounds} {old new : D} (reading : Reading A) (outcome : Result (Reading A) ReadingError)
    → ReadsStore disk limits old new (Ok reading) → IfOk outcome (λ r. r ≡ reading) → IfErr outcome (λ fault. fault ≡ Changing) → ReadsStore disk limits old new outcome
reads_steadily {disk = disk} {limits = limits} {old = old} reading outcome reads second changing = record {
  crash_model = reads.crash_model;
  same = reads.same;
  read = λ now. ok_steady _ reading outcome (reads.read now) second;
  why = λ now. err_steady (WhyUnread limits (disk.trace old).now.bytes) Changing outcome tt changing;
  tells = λ now form h clock is stands. told_steady _ reading outcome (reads.tells now form h clock is stands) second changing;
}
