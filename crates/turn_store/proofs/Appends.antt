-- What a batch more makes of what a store represents.
use Rattle.std.proofs.Common.{◌≡◌, ◌⊎◌, inl, inr, ⊎_elim, ◌≤◌, ℕ, List, [], ◌∷◌, ◌++◌, refl, false, sym, subst, arith, append-nil}
use Rattle.turn_disk.specs.Prelude.{State, Trace}
use Rattle.turn_history.specs.Prelude.{Event, History, Contents, table}
use Rattle.turn_record.specs.Bytes as bytes
use Rattle.turn_record.specs.Records as records
use Rattle.turn_store.specs.Prelude.{Version, Form, Holds, EitherBy, RepresentsBy, RepresentsAt, HasSize, Encodes, InStagesAt, MayFollow, RecoversToAt, Shows, StoreState, form_of}
use Rattle.turn_disk.proofs.Since.{since_same}
use Rattle.turn_store.proofs.Rows.{recovers_image}
use Rattle.turn_store.proofs.Encoding.{frames_go_on, snapshots_go_on}
use Rattle.turn_store.proofs.Staged.{stages_first_at, stages_weaken_at}

module _ {D : Type 0} (old : StoreState D) (before : State) (c : ℕ) (h : History) (es : List Event) (m : ℕ) (recovers : RecoversToAt old before c h) (follows : MayFollow old.bounds c h es m) where
  abbrev form : Form
  form = form_of old

  abbrev v : Version
  v = old.version

  stood : (image : List ℕ) → Holds v form recovers.snapshot recovers.payloads image → RepresentsAt form h c image
  stood image holds = record { version = v; snapshot = recovers.snapshot; payloads = recovers.payloads; holds = holds; encodes = recovers.encodes }

  stood_by : (image : List ℕ) → Holds v form recovers.snapshot recovers.payloads image → RepresentsBy form h m image
  stood_by image holds = record { clock = c; bounded = follows.clock_late; stands = stood image holds }

  module _ (size : HasSize old.version old.bounds es) (payload : List ℕ) (is : payload ≡ bytes.payload es) where
    more : (d : ℕ) × (d ≤ m) × Encodes v old.bounds (h ++ es) d recovers.snapshot (recovers.payloads ++ payload ∷ [])
    more =
        subst (λ (p : List ℕ). (d : ℕ) × (d ≤ m) × Encodes v old.bounds (h ++ es) d recovers.snapshot (recovers.payloads ++ p ∷ [])) (sym is)
        (frames_go_on v old.bounds h c recovers.snapshot recovers.payloads es m recovers.encodes follows.fitting follows.from size follows.clock_late follows.late)

    framed_by : (image : List ℕ) → Holds v form recovers.snapshot (recovers.payloads ++ payload ∷ []) image → RepresentsBy form (h ++ es) m image
    framed_by image holds = record { clock = more.0; bounded = more.1; stands = record { version = v; snapshot = recovers.snapshot; payloads = recovers.payloads ++ payload ∷ []; holds = holds; encodes = more.2 } }

    pub frame_stages : (gate : ℕ) (since now : Trace) → InStagesAt gate since now (Holds v form recovers.snapshot recovers.payloads) (λ image. Holds v form recovers.snapshot recovers.payloads image ⊎ Holds v form recovers.snapshot (recovers.payloads ++ payload ∷ []) image)
        → InStagesAt gate since now (RepresentsAt form h c) (EitherBy form h es m)
    frame_stages gate since now stages =
        stages_weaken_at gate since now (Holds v form recovers.snapshot recovers.payloads) (λ (image : List ℕ). Holds v form recovers.snapshot recovers.payloads image ⊎ Holds v form recovers.snapshot (recovers.payloads ++ payload ∷ []) image)
        (RepresentsAt form h c) (EitherBy form h es m) stood
        (λ image either. ⊎_elim (λ holds. inl (stood_by image holds)) (λ holds. inr (framed_by image holds)) either) stages

    pub frame_done : (new : StoreState D) (after : State) → new.version ≡ old.version → new.bounds ≡ old.bounds → new.stopped ≡ false → Shows new after recovers.snapshot (recovers.payloads ++ payload ∷ [])
        → (d : ℕ) × (d ≤ m) × RecoversToAt new after d (h ++ es)
    frame_done new after version same runs shows = (
      more.0,
      more.1,
      record {
        snapshot = recovers.snapshot;
        payloads = recovers.payloads ++ payload ∷ [];
        shows = shows;
        encodes = subst (λ b. Encodes new.version b (h ++ es) more.0 recovers.snapshot (recovers.payloads ++ payload ∷ [])) (sym same)
            (subst (λ (w : Version). Encodes w old.bounds (h ++ es) more.0 recovers.snapshot (recovers.payloads ++ payload ∷ [])) (sym version) more.2);
        runs = runs;
      },
    )

  -- a snapshot in a version that can hold the table
  module _ (w : Version) (contents : Contents) (is : contents ≡ table (h ++ es) m) (can : records.Holds w contents) where
    abbrev next : List ℕ
    next = bytes.snapshot w m contents

    encoded : Encodes w old.bounds (h ++ es) m next []
    encoded = subst (λ (t : Contents). Encodes w old.bounds (h ++ es) m (bytes.snapshot w m t) []) (sym is) (snapshots_go_on w old.bounds (h ++ es) m follows.fitting follows.late follows.in_range (subst (records.Holds w) is can))

    next_by : (image : List ℕ) → Holds w form next [] image → RepresentsBy form (h ++ es) m image
    next_by image holds = record { clock = m; bounded = omega arith; stands = record { version = w; snapshot = next; payloads = []; holds = holds; encodes = encoded } }

    pub snapshot_stages : (gate : ℕ) (since now : Trace) → InStagesAt gate since now (Holds v form recovers.snapshot recovers.payloads) (λ image. Holds v form recovers.snapshot recovers.payloads image ⊎ Holds w form next [] image)
        → InStagesAt gate since now (RepresentsAt form h c) (EitherBy form h es m)
    snapshot_stages gate since now stages =
        stages_weaken_at gate since now (Holds v form recovers.snapshot recovers.payloads) (λ (image : List ℕ). Holds v form recovers.snapshot recovers.payloads image ⊎ Holds w form next [] image)
        (RepresentsAt form h c) (EitherBy form h es m) stood
        (λ image either. ⊎_elim (λ holds. inl (stood_by image holds)) (λ holds. inr (next_by image holds)) either) stages

    pub snapshot_done : (new : StoreState D) (after : State) → new.version ≡ w → new.bounds ≡ old.bounds → new.stopped ≡ false → Shows new after next [] → RecoversToAt new after m (h ++ es)
    snapshot_done new after version same runs shows = record {
      snapshot = next;
      payloads = [];
      shows = shows;
      encodes = subst (λ b. Encodes new.version b (h ++ es) m next []) (sym same) (subst (λ (x : Version). Encodes x old.bounds (h ++ es) m next []) (sym version) encoded);
      runs = runs;
    }

module _ {D : Type 0} (old : StoreState D) (since : Trace) (c : ℕ) (h : History) (es : List Event) (m : ℕ) (recovers : RecoversToAt old since.now c h) (follows : MayFollow old.bounds c h es m) where
  -- no call
  pub rest_stages : (gate : ℕ) → InStagesAt gate since since (RepresentsAt (form_of old) h c) (EitherBy (form_of old) h es m)
  rest_stages gate =
      let shows = recovers.shows.recovers in
      stages_first_at gate since since (RepresentsAt (form_of old) h c) (EitherBy (form_of old) h es m) (λ image stands. inl (record { clock = c; bounded = follows.clock_late; stands = stands }))
      (since_same since since (RepresentsAt (form_of old) h c) refl
      (λ image is. stood old since.now c h es m recovers follows image (recovers_image old.version (form_of old) old.area.start old.other old.generation old.area.end old.other_is_below recovers.snapshot recovers.payloads since.now shows image is)))

-- without a batch
pub alone_stages : (gate : ℕ) (form : Form) (c : ℕ) (h : History) (m : ℕ) (since now : Trace) → InStagesAt gate since now (RepresentsAt form h c) (EitherBy form h [] m) → InStagesAt gate since now (RepresentsAt form h c) (RepresentsBy form h m)
alone_stages gate form c h m since now stages =
    stages_weaken_at gate since now (RepresentsAt form h c) (EitherBy form h [] m) (RepresentsAt form h c) (RepresentsBy form h m) (λ image stands. stands)
    (λ image either. ⊎_elim (λ stands. stands) (λ stands. subst (λ (g : History). RepresentsBy form g m image) (append-nil h) stands) either) stages
