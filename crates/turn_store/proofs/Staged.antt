-- How calls go on, in what they leave of a disk.
use Rattle.std.proofs.Common.{◌≡◌, ◌⊎◌, ◌∙◌, inl, ℕ, List, Result, ap, refl, OnOk, IsErr}
use Rattle.turn_disk.specs.Prelude.{Trace, EachImageSince, IsImage, IsSettled, Passes, Reads, State, Uses, WritesOnce}
use Rattle.turn_disk.specs.declared.disk.Disk as disks
use Rattle.turn_disk.proofs.Device.{uses_as, uses_of, uses_then}
use Rattle.turn_disk.proofs.Since.{since_same, since_join, since_weaken}
use Rattle.turn_store.specs.Prelude.{InStages, InStagesAt, IsRead, IsStep, Leaves, Settles}

-- a call that never comes to its second stage
pub stages_first_at : (gate : ℕ) (old new : Trace) (P Q : List ℕ → Type 0) → ((image : List ℕ) → P image → Q image) → EachImageSince old new P → InStagesAt gate old new P Q
stages_first_at gate old new P Q to since = record {
  mid = new;
  first = since;
  there = inl refl;
  second = since_same new new Q refl (λ image is. to image (since.after image is));
  once = inl refl;
}

pub stages_first : (old new : Trace) (P Q : List ℕ → Type 0) → ((image : List ℕ) → P image → Q image) → EachImageSince old new P → InStages old new P Q
stages_first old new P Q to since = (0, stages_first_at 0 old new P Q to since)

pub stages_join : (gate : ℕ) (old mid new : Trace) (P Q : List ℕ → Type 0) → EachImageSince old mid P → (new ≡ mid) ⊎ IsSettled mid.now → EachImageSince mid new Q → WritesOnce gate 1 mid new → InStagesAt gate old new P Q
stages_join gate old mid new P Q first there second once = record { mid = mid; first = first; there = there; second = second; once = once }

pub stages_weaken_at : (gate : ℕ) (old new : Trace) (P Q R S : List ℕ → Type 0) → ((image : List ℕ) → P image → R image) → ((image : List ℕ) → Q image → S image) → InStagesAt gate old new P Q → InStagesAt gate old new R S
stages_weaken_at gate old new P Q R S one two stages = record {
  mid = stages.mid;
  first = since_weaken old stages.mid P R one stages.first;
  there = stages.there;
  second = since_weaken stages.mid new Q S two stages.second;
  once = stages.once;
}

pub stages_weaken : (old new : Trace) (P Q R S : List ℕ → Type 0) → ((image : List ℕ) → P image → R image) → ((image : List ℕ) → Q image → S image) → InStages old new P Q → InStages old new R S
stages_weaken old new P Q R S one two stages = (stages.0, stages_weaken_at stages.0 old new P Q R S one two stages.1)

-- both stages as one
pub stages_all_at : (gate : ℕ) (old new : Trace) (P Q : List ℕ → Type 0) → ((image : List ℕ) → P image → Q image) → InStagesAt gate old new P Q → EachImageSince old new Q
stages_all_at gate old new P Q to stages = since_join old stages.mid new Q (since_weaken old stages.mid P Q to stages.first) stages.second

pub stages_all : (old new : Trace) (P Q : List ℕ → Type 0) → ((image : List ℕ) → P image → Q image) → InStages old new P Q → EachImageSince old new Q
stages_all old new P Q to stages = stages_all_at stages.0 old new P Q to stages.1

-- the relations that calls share, from their parts
pub read_of : {D : Type 0} {disk : disks.Ghosts D} {old new : D} {failed : Type 0} {finds : List ℕ → Type 0} → Reads disk old new failed → (disk.follows_crash_model new → finds (disk.trace old).now.bytes) → IsRead disk old new failed finds
read_of reads found = record { reads = reads; found = found }

pub leaves_of : {A E : Type 0} {old new : Trace} {P : List ℕ → Type 0} {Q : State → Type 0} {r : Result A E} → EachImageSince old new P → OnOk r (Q new.now) → Leaves old new P Q r
leaves_of stop done = record { stop = stop; done = done }

pub step_of : {D M A E : Type 0} {disk : disks.Ghosts D} {passes : M → M → Type 0} {old new : D} {other done : M} {r : Result A E} {change : Trace → Trace → Type 0}
    → (disk.follows_crash_model new → change (disk.trace old) (disk.trace new)) → Uses disk old new (IsErr r) → Passes passes other done → IsStep disk passes old new other done r change
step_of does uses meanwhile = record { uses = uses; meanwhile = meanwhile; does = does }

-- that a device call failed may be said in another way
pub settles_as : {D : Type 0} {disk : disks.Ghosts D} {old new : D} {P Q : Type 0} → (Q → P) → (P → Q) → Settles disk old new P → Settles disk old new Q
settles_as back on settles = record { uses = uses_as back on settles.uses; same = settles.same; stop = settles.stop; settled = λ fine. settles.settled (λ failed. fine (on failed)) }

-- a sync, and nothing but reads after it
pub settles_then : {D : Type 0} {disk : disks.Ghosts D} {old mid new : D} {P Q : Type 0} → Settles disk old mid P → (P → ⊥) → Reads disk mid new Q → Settles disk old new Q
settles_then {disk = disk} {old = old} {mid = mid} {new = new} settles none reads = record {
  uses = uses_then settles.uses none (uses_of reads);
  same = λ h. ap (λ (t : Trace). t.now.bytes) (reads.same h) ∙ settles.same (reads.crash_model h);
  stop = λ h.
      let stop = settles.stop (reads.crash_model h) in
      since_join (disk.trace old) (disk.trace mid) (disk.trace new) (IsImage (disk.trace old).now) stop (since_same (disk.trace mid) (disk.trace new) (IsImage (disk.trace old).now) (reads.same h) stop.after);
  settled = λ fine h. ap (λ (t : Trace). t.now.pending) (reads.same h) ∙ settles.settled none (reads.crash_model h);
}
