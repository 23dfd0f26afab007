-- An opened store whose table is written as version 2 into the other area.
use Rattle.std.proofs.Common.{◌≡◌, ℕ, ◌+◌, ◌≤◌, ◌<◌, ◌++◌, Bool, true, false, List, [], length, refl, sym, ap, ◌∙◌, subst, arith, append-nil, inl, inr, ◌⊎◌, Result, Ok, Err, IfOk, IfErr}
use Rattle.turn_disk.proofs.Since.{since_join, since_weaken}
use Rattle.turn_disk.specs.Prelude.{State, Trace, EachImageSince, IsImage}
use Rattle.turn_history.specs.Prelude.{IsFitting, History, clock, Bounds}
use Rattle.turn_history.specs.Table as tables
use Rattle.turn_journal.specs.declared.area.Area.{Area}
use Rattle.turn_record.specs.Bytes as bytes
use Rattle.turn_record.specs.Prelude.{IsSnapshot, EncodesSnapshot}
use Rattle.turn_store.specs.Prelude.{Version, V2, Form, Holds, RecoversToParts, Carries, IsActiveAs, IsCarried, RepresentsBy, RepresentsAt, IsOpened, OpensTo, disk_of, IsPlain, WhyRefused, Snapshot, InStagesAt, MayFollow, RecoversToAt, Shows, StoreState, carried, carried_area, form_of}
use Rattle.turn_store.specs.declared.store.Opened.{Opened}
use Rattle.turn_store.specs.declared.store.StoreOpenError.{StoreOpenError}
use Rattle.turn_store.specs.declared.error.OpenError.{OpenError}
use Rattle.turn_store.specs.declared.error.OpenError.TheVariants.{Device, Memory, NotAStore, LimitsDiffer, Damaged}
use Rattle.turn_store.proofs.Appends.{alone_stages, rest_stages, snapshot_done, snapshot_stages}
use Rattle.turn_store.proofs.Sound.{holds_once}
use Rattle.turn_store.proofs.Encoding.{clock_late}
use Rattle.turn_store.proofs.Staged.{stages_all_at}
use Rattle.turn_types.specs.Prelude.{end_of_moments}

module _ {D : Type 0} (form : Form) (h : History) (c : ℕ) (store : StoreState D) (state : State) (t : Snapshot) (o : OpensTo form h c store state t) where
  pub now_is : t.moment ≡ c
  now_is = ap (λ s. s.moment) o.table_is

  pub contents_are : t.contents ≡ tables.table (h ++ []) t.moment
  contents_are = ap (λ s. s.contents) o.table_is ∙ ap (tables.table h) (sym now_is) ∙ ap (λ (l : History). tables.table l t.moment) (sym (append-nil h))

  pub nothing_follows : t.moment < end_of_moments → MayFollow store.bounds c h [] t.moment
  nothing_follows small =
      let s = o.recovers.encodes in
      let late = clock_late store.version store.bounds h c o.recovers.snapshot o.recovers.payloads s in
      let now = now_is in
      record {
        fitting = subst (IsFitting store.bounds) (sym (append-nil h)) s.fitting;
        from = tt;
        clock_late = omega arith;
        late = subst (λ (l : History). clock l ≤ t.moment) (sym (append-nil h)) (omega arith);
        in_range = small;
      }

  -- both stages represent the history by the clock
  pub represents_throughout : (gate : ℕ) (old new : Trace) → InStagesAt gate old new (RepresentsAt (form_of store) h c) (RepresentsBy (form_of store) h t.moment) → EachImageSince old new (RepresentsBy form h c)
  represents_throughout gate old new stages =
      subst (λ (f : Form). EachImageSince old new (RepresentsBy f h c)) o.same_form
      (subst (λ (m : ℕ). EachImageSince old new (RepresentsBy (form_of store) h m)) now_is
      (stages_all_at gate old new (RepresentsAt (form_of store) h c) (RepresentsBy (form_of store) h t.moment) (λ image stands. record { clock = c; bounded = (let now = now_is in omega arith); stands = stands }) stages))

-- the store after its table is written as version 2 into the other area
module _ {D : Type 0} (old : StoreState D) (t : Snapshot) where
  abbrev pub next : List ℕ
  next = bytes.snapshot V2 t.moment t.contents

  abbrev pub over : D → StoreState D
  over disk = carried old (carried_area old (length next)) disk

  pub carry_shown : (before : State) (s : List ℕ) (ps : List (List ℕ)) → Shows old before s ps → (after : State) (disk : D) (area : Area) (start size : ℕ) → start ≡ old.area.start → size ≡ length next → area ≡ carried_area old size
      → RecoversToParts V2 (form_of old) old.other old.area.start (old.generation + 1) (14 + length next) true next [] after
      → Shows (record old { disk = disk; version = V2; area = area; other = start; generation = old.generation + 1; frames = 0; other_is_below = true; stopped = false }) after next []
  carry_shown before s ps shows after disk area start size start_is size_is area_is done =
      subst (λ (n : ℕ). Shows (record old { disk = disk; version = V2; area = area; other = n; generation = old.generation + 1; frames = 0; other_is_below = true; stopped = false }) after next []) (sym start_is)
      (subst (λ (a : Area). Shows (record old { disk = disk; version = V2; area = a; other = old.area.start; generation = old.generation + 1; frames = 0; other_is_below = true; stopped = false }) after next []) (sym area_is)
      (record { recovers = subst (λ (n : ℕ). RecoversToParts V2 (form_of old) old.other old.area.start (old.generation + 1) (14 + n) true next [] after) (sym size_is) done; frames = refl }))

  module _ (before : State) (form : Form) (h : History) (c : ℕ) (o : OpensTo form h c old before t) (small : t.moment < end_of_moments) where
    pub over_rests : (disk : D) (after : State) → Shows (over disk) after next [] → OpensTo form h c (over disk) after t
    over_rests disk after shows = record {
      same_form = o.same_form;
      recovers = subst (λ (m : ℕ). RecoversToAt (over disk) after m h) (now_is form h c old before t o)
          (subst (λ (l : History). RecoversToAt (over disk) after t.moment l) (append-nil h)
          (snapshot_done old before c h [] t.moment o.recovers (nothing_follows form h c old before t o small) V2 t.contents (contents_are form h c old before t o) tt (over disk) after refl refl o.recovers.runs shows));
      table_is = o.table_is;
    }

    pub over_since : (gate : ℕ) (since now : Trace)
        → InStagesAt gate since now (Holds old.version (form_of old) o.recovers.snapshot o.recovers.payloads) (λ image. Holds old.version (form_of old) o.recovers.snapshot o.recovers.payloads image ⊎ Holds V2 (form_of old) next [] image)
        → EachImageSince since now (RepresentsBy form h c)
    over_since gate since now stages =
        represents_throughout form h c old before t o gate since now
        (alone_stages gate (form_of old) c h t.moment since now
        (snapshot_stages old before c h [] t.moment o.recovers (nothing_follows form h c old before t o small) V2 t.contents (contents_are form h c old before t o) tt gate since now stages))

-- a store of version 2 that shows this snapshot alone was opened to its table
pub opened_anew : {D : Type 0} (new : StoreState D) (after : State) (t : Snapshot) → new.version ≡ V2 → IsSnapshot V2 new.bounds t.moment t.contents
    → Shows new after (bytes.snapshot V2 t.moment t.contents) [] → IsOpened new after t
opened_anew new after t version can shows = record {
  snapshot = bytes.snapshot V2 t.moment t.contents;
  first = t;
  payloads = [];
  shows = shows;
  encodes = subst (λ (v : Version). EncodesSnapshot v new.bounds t.moment t.contents (bytes.snapshot V2 t.moment t.contents)) (sym version) (record { fits = can; is = refl });
  replays = refl;
}

-- no call
pub stays_since : {D : Type 0} (form : Form) (h : History) (c : ℕ) (old : StoreState D) (since : Trace) (t : Snapshot) → OpensTo form h c old since.now t → t.moment < end_of_moments → EachImageSince since since (RepresentsBy form h c)
stays_since form h c old since t o small =
    represents_throughout form h c old since.now t o 0 since since
    (alone_stages 0 (form_of old) c h t.moment since since (rest_stages old since c h [] t.moment o.recovers (nothing_follows form h c old since.now t o small) 0))

-- an image that a stop might have left before, or one that represents the history
abbrev pub IsOldOrRepresents : State → Form → History → ℕ → List ℕ → Type 0
IsOldOrRepresents old form h c image = IsImage old image ⊎ RepresentsBy form h c image

pub kept_since : (form : Form) (h : History) (c : ℕ) (old new : Trace) → EachImageSince old new (IsImage old.now) → EachImageSince old new (IsOldOrRepresents old.now form h c)
kept_since form h c old new kept = since_weaken old new (IsImage old.now) (IsOldOrRepresents old.now form h c) (λ image is. inl is) kept

pub carried_since : (form : Form) (h : History) (c : ℕ) (old mid new : Trace) → EachImageSince old mid (IsImage old.now) → EachImageSince mid new (RepresentsBy form h c) → EachImageSince old new (IsOldOrRepresents old.now form h c)
carried_since form h c old mid new kept carried =
    since_join old mid new (IsOldOrRepresents old.now form h c) (kept_since form h c old mid kept)
    (since_weaken mid new (RepresentsBy form h c) (IsOldOrRepresents old.now form h c) (λ image stands. inr stands) carried)

-- what counts in the content of a store that was opened
pub is_active_as : {D : Type 0} (store : StoreState D) (state : State) (t : Snapshot) (content : List ℕ) → IsOpened store state t → state.bytes ≡ content
    → IsActiveAs store.area.size store.bounds store.version store.generation store.frames content
is_active_as store state t content is same =
    let recovers = is.shows.recovers in
    subst (IsActiveAs store.area.size store.bounds store.version store.generation store.frames) same
    (record { start = store.area.start; other = store.other; snapshot = is.snapshot; payloads = is.payloads; active = recovers.holds.active; yields = recovers.yields; count = is.shows.frames })

-- the limits that were read are those of what the content represents
pub same_bounds : {D : Type 0} (store : StoreState D) (state : State) (t : Snapshot) (form : Form) (h : History) (clock : ℕ) (limits : Bounds) (content : List ℕ) → IsOpened store state t → state.bytes ≡ content
    → store.bounds ≡ limits → RepresentsAt form h clock content → form.bounds ≡ limits
same_bounds store state t form h clock limits content is same bounds stands =
    let read = is_active_as store state t content is same in
    let holds : Holds store.version (form_of store) read.snapshot read.payloads content = record { start = read.start; other = read.other; generation = store.generation; active = read.active; yields = read.yields } in
    sym (ap (λ (f : Form). f.bounds) (holds_once store.version stands.version (form_of store) form read.snapshot stands.snapshot read.payloads stands.payloads content holds stands.holds).0) ∙ bounds

pub kept_carries : {D : Type 0} (carry : Bool) (content : List ℕ) (store : StoreState D) → IsActiveAs store.area.size store.bounds store.version store.generation store.frames content
    → (IsCarried carry store.area.size store.bounds store.version store.generation → ⊥) → Carries carry content store
kept_carries carry content store counts never = record {
  version = store.version;
  generation = store.generation;
  frames = store.frames;
  counts = counts;
  over = λ is. absurd (never is);
  kept = λ none. (refl, refl, refl);
}

pub over_carries : {D : Type 0} (carry : Bool) (content : List ℕ) (old : StoreState D) (t : Snapshot) → IsActiveAs old.area.size old.bounds old.version old.generation old.frames content
    → IsCarried carry old.area.size old.bounds old.version old.generation → (disk : D) → Carries carry content (over old t disk)
over_carries carry content old t counts is disk = record {
  version = old.version;
  generation = old.generation;
  frames = old.frames;
  counts = counts;
  over = λ yes. (refl, refl, refl);
  kept = λ never. absurd (never is);
}

pub on_ok : {X E : Type 0} (P Q : X → Type 0) (r : Result X E) → ((x : X) → P x → Q x) → IfOk r P → IfOk r Q
on_ok P Q (Ok x) f h = f x h
on_ok P Q (Err e) f h = h

pub on_err : {X E : Type 0} (P Q : E → Type 0) (r : Result X E) → ((e : E) → P e → Q e) → IfErr r P → IfErr r Q
on_err P Q (Ok x) f h = h
on_err P Q (Err e) f h = f e h

-- what holds of the disk after an opening holds of the store's, and of the one that was returned
pub at_ok : {D A : Type 0} (P : D → Type 0) (r : Result (Opened D A) (StoreOpenError D)) → P (disk_of r) → IfOk r (λ o. P o.store.disk)
at_ok P (Ok opened) h = h
at_ok P (Err refused) h = tt

pub at_err : {D A : Type 0} (P : D → Type 0) (r : Result (Opened D A) (StoreOpenError D)) → P (disk_of r) → IfErr r (λ e. P e.disk)
at_err P (Ok opened) h = tt
at_err P (Err refused) h = h

pub and_ok : {X E : Type 0} (P Q : X → Type 0) (r : Result X E) → IfOk r P → IfOk r Q → IfOk r (λ x. P x × Q x)
and_ok P Q (Ok x) one two = (one, two)
and_ok P Q (Err e) one two = one

pub and_err : {X E : Type 0} (P Q : E → Type 0) (r : Result X E) → IfErr r P → IfErr r Q → IfErr r (λ e. P e × Q e)
and_err P Q (Ok x) one two = one
and_err P Q (Err e) one two = (one, two)

pub all_ok : {X E : Type 0} (P Q R : X → Type 0) (r : Result X E) → IfOk r P → IfOk r Q → IfOk r R → IfOk r (λ x. P x × Q x × R x)
all_ok P Q R (Ok x) one two three = (one, two, three)
all_ok P Q R (Err e) one two three = one

-- a refusal of the device or of memory has no other reason
pub plain_why : (b : Bounds) (content : List ℕ) (fault : OpenError) → IsPlain fault → WhyRefused b content fault
plain_why b content Device plain = tt
plain_why b content Memory plain = tt
plain_why b content NotAStore plain = absurd plain
plain_why b content LimitsDiffer plain = absurd plain
plain_why b content (Damaged place) plain = absurd plain
