-- What calls say of the disks that they use.
use Rattle.std.proofs.Common.{◌≡◌, ◌∙◌, ℕ, subst}
use Rattle.turn_disk.specs.Prelude.{Rises, Reads, Uses}
use Rattle.turn_disk.specs.declared.disk.Disk as disks

-- that a device call failed may be said in another way
pub uses_as : {D : Type 0} {disk : disks.Ghosts D} {old new : D} {P Q : Type 0} → (Q → P) → (P → Q) → Uses disk old new P → Uses disk old new Q
uses_as back on uses = record {
  size = uses.size;
  device = λ failed. uses.device (back failed);
  count = λ none. uses.count (λ failed. none (on failed));
  crash_model = uses.crash_model;
}

-- a call in which no device call failed, and another
pub uses_then : {D : Type 0} {disk : disks.Ghosts D} {old mid new : D} {P Q : Type 0} → Uses disk old mid P → (P → ⊥) → Uses disk mid new Q → Uses disk old new Q
uses_then {disk = disk} {new = new} first none second = record {
  size = second.size ∙ first.size;
  device = λ failed. subst (λ (n : ℕ). Rises n (disk.failed new)) (first.count none) (second.device failed);
  count = λ fine. second.count fine ∙ first.count none;
  crash_model = λ crash_model. first.crash_model (second.crash_model crash_model);
}

-- a call that only reads uses the disk too
pub uses_of : {D : Type 0} {disk : disks.Ghosts D} {old new : D} {P : Type 0} → Reads disk old new P → Uses disk old new P
uses_of reads = record { size = reads.size; device = reads.device; count = reads.count; crash_model = reads.crash_model }

-- and is a call that uses it and changes nothing
reads_of : {D : Type 0} {disk : disks.Ghosts D} {old new : D} {P : Type 0} → Uses disk old new P → (disk.follows_crash_model new → disk.trace new ≡ disk.trace old) → Reads disk old new P
reads_of uses same = record { size = uses.size; device = uses.device; count = uses.count; crash_model = uses.crash_model; same = same }

pub reads_as : {D : Type 0} {disk : disks.Ghosts D} {old new : D} {P Q : Type 0} → (Q → P) → (P → Q) → Reads disk old new P → Reads disk old new Q
reads_as back on reads = reads_of (uses_as back on (uses_of reads)) reads.same

pub reads_then : {D : Type 0} {disk : disks.Ghosts D} {old mid new : D} {P Q : Type 0} → Reads disk old mid P → (P → ⊥) → Reads disk mid new Q → Reads disk old new Q
reads_then first none second =
    reads_of (uses_then (uses_of first) none (uses_of second)) (λ crash_model. second.same crash_model ∙ first.same (second.crash_model crash_model))
