-- Which version an image is of.
use Rattle.std.proofs.Common.{Bool, ◌≡◌, ◌⊎◌, inl, inr, ⊎_elim, ℕ, List, refl, sym, ◌∙◌, subst}
use Rattle.turn_disk.specs.Prelude.{State, Trace, EachImageSince, IsImage}
use Rattle.turn_disk.proofs.Since.{since_join, since_same, since_weaken}
use Rattle.turn_store.specs.Prelude.{Version, V2, Form, Holds, Carries, IsInVersion, IsInVersionOr2, InStagesAt, Shows, StoreState, form_of}
use Rattle.turn_store.proofs.Rows.{recovers_image}
use Rattle.turn_store.proofs.Sound.{holds_once}
use Rattle.turn_store.proofs.Staged.{stages_all_at}

in_version : (v : Version) (form : Form) (s : List ℕ) (ps : List (List ℕ)) (image : List ℕ) → Holds v form s ps image → IsInVersion v form image
in_version v form s ps image holds = record { snapshot = s; payloads = ps; holds = holds }

-- what a disk of a store holds is of its version
pub shown_in : {D : Type 0} (store : StoreState D) (state : State) (s : List ℕ) (ps : List (List ℕ)) → Shows store state s ps → (image : List ℕ) → IsImage state image → IsInVersion store.version (form_of store) image
shown_in store state s ps shows image is =
    in_version store.version (form_of store) s ps image
    (recovers_image store.version (form_of store) store.area.start store.other store.generation store.area.end store.other_is_below s ps state shows.recovers image is)

-- no call
pub rest_in : {D : Type 0} (store : StoreState D) (since : Trace) (s : List ℕ) (ps : List (List ℕ)) → Shows store since.now s ps → EachImageSince since since (IsInVersion store.version (form_of store))
rest_in store since s ps shows = since_same since since (IsInVersion store.version (form_of store)) refl (shown_in store since.now s ps shows)

pub rest_in_or_2 : {D : Type 0} (store : StoreState D) (since : Trace) (s : List ℕ) (ps : List (List ℕ)) → Shows store since.now s ps → EachImageSince since since (IsInVersionOr2 store.version (form_of store))
rest_in_or_2 store since s ps shows = since_same since since (IsInVersionOr2 store.version (form_of store)) refl (λ image is. inl (shown_in store since.now s ps shows image is))

-- a call in two stages, of this version in both
pub stages_in : (v : Version) (form : Form) (gate : ℕ) (since now : Trace) (s t : List ℕ) (ps qs : List (List ℕ))
    → InStagesAt gate since now (Holds v form s ps) (λ image. Holds v form s ps image ⊎ Holds v form t qs image) → EachImageSince since now (IsInVersion v form)
stages_in v form gate since now s t ps qs stages =
    since_weaken since now (λ (image : List ℕ). Holds v form s ps image ⊎ Holds v form t qs image) (IsInVersion v form)
    (λ image either. ⊎_elim (in_version v form s ps image) (in_version v form t qs image) either)
    (stages_all_at gate since now (Holds v form s ps) (λ (image : List ℕ). Holds v form s ps image ⊎ Holds v form t qs image) (λ image holds. inl holds) stages)

-- a call in two stages, of version 2 at its end
pub stages_over : (v : Version) (form : Form) (gate : ℕ) (since now : Trace) (s t : List ℕ) (ps qs : List (List ℕ))
    → InStagesAt gate since now (Holds v form s ps) (λ image. Holds v form s ps image ⊎ Holds V2 form t qs image) → EachImageSince since now (IsInVersionOr2 v form)
stages_over v form gate since now s t ps qs stages =
    since_weaken since now (λ (image : List ℕ). Holds v form s ps image ⊎ Holds V2 form t qs image) (IsInVersionOr2 v form)
    (λ image either. ⊎_elim (λ holds. inl (in_version v form s ps image holds)) (λ holds. inr (in_version V2 form t qs image holds)) either)
    (stages_all_at gate since now (Holds v form s ps) (λ (image : List ℕ). Holds v form s ps image ⊎ Holds V2 form t qs image) (λ image holds. inl holds) stages)

pub version_once : (v w : Version) (first second : Form) (image : List ℕ) → IsInVersion v first image → IsInVersion w second image → (v ≡ w) × (first ≡ second)
version_once v w first second image one two =
    let once = holds_once v w first second one.snapshot two.snapshot one.payloads two.payloads image one.holds two.holds in
    (once.1, once.0)

-- what counts in a content is of its version
pub counts_in : {D : Type 0} (carry : Bool) (content : List ℕ) (store : StoreState D) (carries : Carries carry content store) → IsInVersion carries.version (record { bounds = store.bounds; area = store.area.size }) content
counts_in carry content store carries =
    let counts = carries.counts in
    record {
      snapshot = counts.snapshot;
      payloads = counts.payloads;
      holds = record { start = counts.start; other = counts.other; generation = carries.generation; active = counts.active; yields = counts.yields };
    }

pub stays_second : {D : Type 0} (carry : Bool) (content : List ℕ) (store : StoreState D) (form : Form) → IsInVersion V2 form content → Carries carry content store → store.version ≡ V2
stays_second carry content store form is carries =
    let once = (version_once carries.version V2 (record { bounds = store.bounds; area = store.area.size }) form content (counts_in carry content store carries) is).0 in
    (carries.kept (λ over. let old = over.old in cc)).0 ∙ once

-- an opening: up to its sync an image that a stop might have left before, then one of the version that it opened, or of version 2
module _ {D : Type 0} (store : StoreState D) (old mid new : Trace) (s : List ℕ) (ps : List (List ℕ)) (shows : Shows store mid.now s ps) where
  pub opened_in : (v : Version) (form : Form) (content : List ℕ) → mid.now.bytes ≡ content → IsInVersion v form content
      → EachImageSince old mid (IsImage old.now) → EachImageSince mid new (IsInVersionOr2 store.version (form_of store))
      → EachImageSince old new (λ image. IsImage old.now image ⊎ IsInVersionOr2 v form image)
  opened_in v form content same is kept over =
      let P : List ℕ → Type 0 = λ image. IsImage old.now image ⊎ IsInVersionOr2 v form image in
      let once = version_once store.version v (form_of store) form mid.now.bytes (shown_in store mid.now s ps shows mid.now.bytes (record { size = refl; same = λ i out. refl })) (subst (λ (l : List ℕ). IsInVersion v form l) (sym same) is) in
      since_join old mid new P
      (since_weaken old mid (IsImage old.now) P (λ image left. inl left) kept)
      (since_weaken mid new (IsInVersionOr2 store.version (form_of store)) P
      (λ image either. inr (subst (λ (w : Version). IsInVersionOr2 w form image) once.0 (subst (λ (f : Form). IsInVersionOr2 store.version f image) once.1 either))) over)

-- an opening that never writes
pub kept_in : (v : Version) (form : Form) (old new : Trace) → EachImageSince old new (IsImage old.now) → EachImageSince old new (λ image. IsImage old.now image ⊎ IsInVersionOr2 v form image)
kept_in v form old new kept = since_weaken old new (IsImage old.now) (λ (image : List ℕ). IsImage old.now image ⊎ IsInVersionOr2 v form image) (λ image is. inl is) kept
