-- What a call that writes to a store says as a commit.
use Rattle.std.proofs.Common.{◌≡◌, ◌≢◌, ◌⊎◌, ◌↔◌, ◌^◌, ◌-◌, ℕ, Bool, true, false, List, Option, None, Some, Result, Ok, Err, refl, sym, ap, subst}
use Rattle.turn_disk.specs.Prelude.{EachImageSince, Passes}
use Rattle.turn_disk.specs.declared.disk.Disk as disks
use Rattle.turn_disk.proofs.Device.{uses_as}
use Rattle.turn_disk.proofs.Passing.{passes_none}
use Rattle.turn_store.specs.Prelude.{CompactsFor, Version, Holds, InStagesAt, IsCommit, IsInVersion, IsWrite, Shows, StoreState, form_of, stopped_over}
use Rattle.turn_store.specs.declared.error.StoreError.{StoreError}
use Rattle.turn_store.specs.declared.error.StoreError.TheVariants.{Device, Worn, Stopped}
use Rattle.turn_store.specs.declared.store.WrittenAs.{WrittenAs}
use Rattle.turn_store.specs.declared.store.WrittenAs.TheVariants.{Snapshot}
use Rattle.turn_store.proofs.Versions.{rest_in, stages_in}

-- what a refusal says of a batch that would be written as a snapshot, in the order of a commit
pub worn_as : {D : Type 0} (old : StoreState D) (count : ℕ) {fault : Option StoreError} {form : WrittenAs} → ((fault ≡ Some Worn) ↔ ((old.stopped ≡ false) × (form ≡ Snapshot) × (old.generation ≡ 2 ^ 64 - 1)))
    → ((form ≡ Snapshot) ↔ CompactsFor old count) → ((fault ≡ Some Worn) ↔ ((old.stopped ≡ false) × ((old.generation ≡ 2 ^ 64 - 1) × CompactsFor old count)))
worn_as old count one two = (λ p. let is = one.0 p in (is.0, (is.2, two.0 is.1)), λ q. one.1 (q.0, two.1 q.1.1, q.1.0))

abbrev no_fault : Option StoreError
no_fault = None

-- a store that isn't refused runs
runs_of : (b : Bool) → ((no_fault ≡ Some Stopped) ↔ (b ≡ true)) → b ≡ false
runs_of true is = let same = is.1 refl in cc
runs_of false is = refl

-- a write leaves the store's version
write_in : {D B E : Type 0} (disk : disks.Ghosts D) (old new : StoreState D) (gate : ℕ) (next : D → StoreState D) (snapshot : List ℕ → List ℕ) (payloads : List (List ℕ) → List (List ℕ)) (r : Result B E)
    → IsWrite disk gate next snapshot payloads old new r → (next new.disk).version ≡ old.version
    → disk.follows_crash_model new.disk → (s : List ℕ) (ps : List (List ℕ)) → Shows old (disk.trace old.disk).now s ps
    → EachImageSince (disk.trace old.disk) (disk.trace new.disk) (IsInVersion old.version (form_of old))
write_in disk old new gate next snapshot payloads r write same crash_model s ps shows =
    stages_in old.version (form_of old) gate _ _ s (snapshot s) ps (payloads ps)
    (subst (λ (v : Version). InStagesAt gate (disk.trace old.disk) (disk.trace new.disk) (Holds old.version (form_of old) s ps) (λ image. Holds old.version (form_of old) s ps image ⊎ Holds v (form_of old) (snapshot s) (payloads ps) image))
    same (write.stages crash_model s ps shows))

module _ {D M : Type 0} (disk : disks.Ghosts D) (passes : M → M → Type 0) (is_worn : Type 0) (old new : StoreState D) (other : M) where
  -- a commit that is refused before it reaches the disk
  pub refused : {A : Type 0} (fault : StoreError) → new ≡ stopped_over old old.disk → ((Some fault ≡ Some Stopped) ↔ (old.stopped ≡ true)) → ((Some fault ≡ Some Worn) ↔ ((old.stopped ≡ false) × is_worn))
      → Some fault ≢ Some Device → IsCommit {A = A} disk passes is_worn old new other other (Err fault)
  refused fault same stopped worn device =
      rw same (record { uses = record { size = refl; device = λ e. absurd (device (cc)); count = λ _. refl; crash_model = λ h. h }; worn = (λ e. worn.0 (cc), λ is. let e = worn.1 is in cc); untouched_worn = λ e. refl; stopped = (λ e. stopped.0 (cc), λ is. let e = stopped.1 is in cc); untouched = λ is. ap (λ (b : Bool). record old { stopped = b }) (sym is); stops = refl; version = λ crash_model s ps shows. rest_in old (disk.trace old.disk) s ps shows; meanwhile = passes_none })

  module _ (done : M) (passed : Passes passes other done) (stopped : (no_fault ≡ Some Stopped) ↔ (old.stopped ≡ true)) (worn : (no_fault ≡ Some Worn) ↔ ((old.stopped ≡ false) × is_worn)) where
    runs : old.stopped ≡ false
    runs = runs_of old.stopped stopped

    never : is_worn → ⊥
    never is = let e = worn.1 (runs, is) in cc

    -- a write in which a device call failed
    pub failed : {A B E : Type 0} {gate : ℕ} {next : D → StoreState D} {snapshot : List ℕ → List ℕ} {payloads : List (List ℕ) → List (List ℕ)} (e : E) → IsWrite {A = B} disk gate next snapshot payloads old new (Err e)
        → (next new.disk).version ≡ old.version → IsCommit {A = A} disk passes is_worn old new other done (Err Device)
    failed e write same = record { uses = uses_as (λ _. refl) (λ _. refl) write.uses; worn = (λ is. cc, λ is. absurd (never is.1)); untouched_worn = λ is. cc; stopped = (λ is. cc, λ is. let no = runs in cc); untouched = λ is. let no = runs in cc; stops = write.err; version = write_in disk old new _ _ _ _ _ write same; meanwhile = passed }

    -- and one in which none did
    pub written : {A B E : Type 0} {gate : ℕ} {next : D → StoreState D} {snapshot : List ℕ → List ℕ} {payloads : List (List ℕ) → List (List ℕ)} (x : A) (y : B) → IsWrite {E = E} disk gate next snapshot payloads old new (Ok y)
        → (next new.disk).version ≡ old.version → IsCommit disk passes is_worn old new other done (Ok x)
    written x y write same = record { uses = uses_as (λ is. cc) (λ is. cc) write.uses; worn = (λ is. cc, λ is. absurd (never is.1)); untouched_worn = λ is. cc; stopped = (λ is. cc, λ is. let no = runs in cc); untouched = λ is. let no = runs in cc; stops = tt; version = write_in disk old new _ _ _ _ _ write same; meanwhile = passed }
