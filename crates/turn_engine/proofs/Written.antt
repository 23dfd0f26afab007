-- What a commit makes of what a server recovers to, and of its disk.
use Rattle.std.proofs.Common.{inl, ◌≡◌, ◌≢◌, ◌≤◌, ◌<◌, ⊎_elim, ℕ, true, false, List, [], ◌∷◌, ◌++◌, length, take, drop, Result, Ok, Err, refl, sym, ap, ◌∙◌, subst, arith, append-nil, take-append-drop, OnErr}
use Rattle.std.proofs.Math.Seq.{take-length, drop-length}
use Rattle.std.specs.List.{AllByRecursion}
use Rattle.turn_disk.specs.Prelude.{State, Trace, IsImage, EachImageSince}
use Rattle.turn_disk.specs.declared.disk.Disk as disks
use Rattle.turn_disk.proofs.Since.{since_same}
use Rattle.turn_history.specs.Prelude.{IsFitting, Event, History, clock, AllFrom, Bounds}
use Rattle.turn_history.specs.Table as tables
use Rattle.turn_record.specs.Bytes as bytes
use Rattle.turn_record.specs.Prelude.{Writes}
use Rattle.turn_store.specs.Prelude.{Form, EachImage, EitherBy, IsInVersion, RepresentsBy, RepresentsAt, HasSize, InStages, MayFollow, RecoversToAt, StoreState, form_of, framed, swapped}
use Rattle.turn_store.specs.declared.error.StoreError.{StoreError}
use Rattle.turn_store.specs.declared.store.WrittenAs.{WrittenAs}
use Rattle.turn_store.specs.declared.store.WrittenAs.TheVariants.{Frame, Snapshot}
use Rattle.turn_store.proofs.Rows.{recovers_image}
use Rattle.turn_store.proofs.Staged.{stages_all, stages_first, stages_weaken}
use Rattle.turn_store.proofs.Versions.{shown_in}
use Rattle.turn_step.specs.Prelude.{Sent}
use Rattle.turn_engine.specs.Prelude.{Commits, AtLeast, RecoversTo, tuples_of, ServerState, emptied, limits_of, now_of}
use Rattle.turn_engine.proofs.Lists.{none_left}
use Rattle.turn_types.specs.Prelude.{end_of_moments}

-- the form of a store is kept, whatever an append answers
pub form_kept : {D : Type 0} (old new : StoreState D) (count size : ℕ) (result : Result WrittenAs StoreError) → (result ≡ Ok Frame → new ≡ framed old count new.disk)
    → (result ≡ Ok Snapshot → new ≡ swapped old size new.disk) → OnErr result (new ≡ record old { disk = new.disk; stopped = true }) → form_of new ≡ form_of old
form_kept old new count size (Ok Frame) one two err = ap form_of (one refl)
form_kept old new count size (Ok Snapshot) one two err = ap form_of (two refl)
form_kept old new count size (Err e) one two err = ap form_of err

-- and its version
pub version_kept : {D : Type 0} (old new : StoreState D) (count size : ℕ) (result : Result WrittenAs StoreError) → (result ≡ Ok Frame → new ≡ framed old count new.disk)
    → (result ≡ Ok Snapshot → new ≡ swapped old size new.disk) → OnErr result (new ≡ record old { disk = new.disk; stopped = true }) → new.version ≡ old.version
version_kept old new count size (Ok Frame) one two err = ap (λ s. s.version) (one refl)
version_kept old new count size (Ok Snapshot) one two err = ap (λ s. s.version) (two refl)
version_kept old new count size (Err e) one two err = ap (λ s. s.version) err

-- a result that is Ok, and one that is a fault
abbrev done_in : (T : Type 0) → T → Result T StoreError
done_in T x = Ok x

abbrev fault_in : (T : Type 0) → StoreError → Result T StoreError
fault_in T e = Err e

-- no result is both
pub done_never : {T : Type 0} {x : T} {e : StoreError} → done_in T x ≡ fault_in T e → ⊥
done_never is = cc

-- faults are the same in results of any type
pub fault_as : {S T : Type 0} {d e : StoreError} → fault_in S d ≡ fault_in S e → fault_in T d ≡ fault_in T e
fault_as is = cc

-- and then the store goes on
pub runs_on : {D : Type 0} (old new : StoreState D) (count size : ℕ) (form : WrittenAs) → (done_in WrittenAs form ≡ done_in WrittenAs Frame → new ≡ framed old count new.disk)
    → (done_in WrittenAs form ≡ done_in WrittenAs Snapshot → new ≡ swapped old size new.disk) → old.stopped ≡ false → new.stopped ≡ false
runs_on old new count size Frame one two runs = ap (λ s. s.stopped) (one refl) ∙ runs
runs_on old new count size Snapshot one two runs = ap (λ s. s.stopped) (two refl) ∙ runs

-- ---- Images

-- what a store that recovers to a history leaves
pub stood : {D : Type 0} (store : StoreState D) (state : State) (c : ℕ) (h : History) → RecoversToAt store state c h → (image : List ℕ) → IsImage state image → RepresentsAt (form_of store) h c image
stood store state c h recovers image is =
    let on = recovers.shows.recovers in
    record {
      version = store.version;
      snapshot = recovers.snapshot;
      payloads = recovers.payloads;
      holds = recovers_image store.version (form_of store) store.area.start store.other store.generation store.area.end store.other_is_below recovers.snapshot recovers.payloads state on image is;
      encodes = recovers.encodes;
    }

least_first : (form : Form) (h : History) (k m : ℕ) (image : List ℕ) → k ≤ length h → RepresentsBy form (take k h) m image → AtLeast form h k m image
least_first form h k m image le stands = record { count = k; no_less = omega arith; no_more = le; stands = stands }

least_all : (form : Form) (h : History) (k m : ℕ) (image : List ℕ) → k ≤ length h → RepresentsBy form h m image → AtLeast form h k m image
least_all form h k m image le stands = record {
  count = length h;
  no_less = le;
  no_more = omega arith;
  stands = subst (λ (l : History). RepresentsBy form l m image) (sym (take-length h)) stands;
}

-- each image of a server's disk has what is stored
pub images_stored : {D H G : Type 0} (state : State) (server : ServerState D H G) (h : History) (k : ℕ) → RecoversTo state server h k
    → EachImage state (AtLeast (form_of server.store) h k (now_of server))
images_stored state server h k recovers image is =
    least_first (form_of server.store) h k (now_of server) image recovers.within
    (record { clock = recovers.at; bounded = recovers.at_late; stands = stood server.store state recovers.at (take k h) recovers.stored image is })

pub not_written : {D H G : Type 0} (old new : Trace) (server : ServerState D H G) (h : History) (k : ℕ) → new ≡ old → RecoversTo old.now server h k
    → EachImageSince old new (AtLeast (form_of server.store) h k (now_of server))
not_written old new server h k same recovers = since_same old new (AtLeast (form_of server.store) h k (now_of server)) same (images_stored old.now server h k recovers)

-- and is of the store's version
pub not_written_in : {D H G : Type 0} (old new : Trace) (server : ServerState D H G) (h : History) (k : ℕ) → new ≡ old → RecoversTo old.now server h k
    → EachImageSince old new (IsInVersion server.store.version (form_of server.store))
not_written_in old new server h k same recovers =
    let stored = recovers.stored in
    since_same old new (IsInVersion server.store.version (form_of server.store)) same (shown_in server.store old.now stored.snapshot stored.payloads stored.shows)

-- what an append leaves
pub written : {D H G : Type 0} (old new : Trace) (server : ServerState D H G) (h : History) (k : ℕ) → (recovers : RecoversTo old.now server h k)
    → InStages old new (RepresentsAt (form_of server.store) (take k h) recovers.at) (EitherBy (form_of server.store) (take k h) (drop k h) (now_of server))
    → EachImageSince old new (AtLeast (form_of server.store) h k (now_of server))
written old new server h k recovers stages =
    let form = form_of server.store in
    let m = now_of server in
    stages_all old new (AtLeast form h k m) (AtLeast form h k m) (λ image is. is)
    (stages_weaken old new (RepresentsAt form (take k h) recovers.at) (EitherBy form (take k h) (drop k h) m) (AtLeast form h k m) (AtLeast form h k m)
    (λ image stands. least_first form h k m image recovers.within (record { clock = recovers.at; bounded = recovers.at_late; stands = stands }))
    (λ image either. ⊎_elim (λ (first : RepresentsBy form (take k h) m image). least_first form h k m image recovers.within first)
    (λ (all : RepresentsBy form (take k h ++ drop k h) m image). least_all form h k m image recovers.within (subst (λ (l : History). RepresentsBy form l m image) (take-append-drop k h) all)) either)
    stages)

-- the same, moment by moment
pub stages_written : {D H G : Type 0} (old new : Trace) (server : ServerState D H G) (h : History) (k : ℕ) → (recovers : RecoversTo old.now server h k)
    → InStages old new (RepresentsAt (form_of server.store) (take k h) recovers.at) (EitherBy (form_of server.store) (take k h) (drop k h) (now_of server))
    → InStages old new (RepresentsBy (form_of server.store) (take k h) (now_of server)) (EitherBy (form_of server.store) (take k h) (drop k h) (now_of server))
stages_written old new server h k recovers stages =
    let form = form_of server.store in
    let m = now_of server in
    stages_weaken old new (RepresentsAt form (take k h) recovers.at) (EitherBy form (take k h) (drop k h) m) (RepresentsBy form (take k h) m) (EitherBy form (take k h) (drop k h) m)
    (λ image stands. record { clock = recovers.at; bounded = recovers.at_late; stands = stands }) (λ image either. either) stages

pub stages_none : {D H G : Type 0} (old new : Trace) (server : ServerState D H G) (h : History) (k : ℕ) → new ≡ old → RecoversTo old.now server h k
    → InStages old new (RepresentsBy (form_of server.store) (take k h) (now_of server)) (EitherBy (form_of server.store) (take k h) (drop k h) (now_of server))
stages_none old new server h k same recovers =
    let form = form_of server.store in
    let m = now_of server in
    stages_first old new (RepresentsBy form (take k h) m) (EitherBy form (take k h) (drop k h) m) (λ image stands. inl stands)
    (since_same old new (RepresentsBy form (take k h) m) same
    (λ image is. record { clock = recovers.at; bounded = recovers.at_late; stands = stood server.store old.now recovers.at (take k h) recovers.stored image is }))

-- ---- What an append asks

pub may_follow : {D H G : Type 0} (state : State) (server : ServerState D H G) (h : History) (k : ℕ) (recovers : RecoversTo state server h k) → server.store.bounds ≡ limits_of server
    → now_of server < end_of_moments → MayFollow server.store.bounds recovers.at (take k h) (drop k h) (now_of server)
may_follow state server h k recovers same range =
    let whole : take k h ++ drop k h ≡ h = take-append-drop k h in
    record {
      fitting = subst (IsFitting server.store.bounds) (sym whole) (subst (λ (b : Bounds). IsFitting b h) (sym same) recovers.after.fitting);
      from = recovers.from;
      clock_late = recovers.at_late;
      late = subst (λ (l : History). clock l ≤ now_of server) (sym whole) recovers.after.late;
      in_range = range;
    }

pub some_acts : (n acts : ℕ) → n ≡ acts → n ≢ 0 → 1 ≤ acts
some_acts n acts is not = omega arith

pub not_none : (acts : ℕ) → 1 ≤ acts → acts ≡ 0 → ⊥
not_none acts some none = omega arith

pub few_acts : (acts arrivals limit bound : ℕ) → acts ≤ arrivals → arrivals ≤ limit → bound ≡ limit → acts ≤ bound
few_acts acts arrivals limit bound one two is = omega arith

pub has_size : {D H G : Type 0} (state : State) (server : ServerState D H G) (h : History) (k : ℕ) → RecoversTo state server h k → 1 ≤ server.acts → server.acts ≤ server.store.bounds.acts
    → HasSize server.store.version server.store.bounds (drop k h)
has_size state server h k recovers some few = let count = recovers.counted in record { some = omega arith; few = omega arith; writes = recovers.writes }

pub contents_are : {D H G : Type 0} (state : State) (server : ServerState D H G) (h : History) (k : ℕ) → RecoversTo state server h k
    → server.machine.table.contents ≡ tables.table (take k h ++ drop k h) (now_of server)
contents_are state server h k recovers = recovers.after.agrees ∙ ap (λ (l : History). tables.table l (now_of server)) (sym (take-append-drop k h))

-- ---- What a server recovers to afterwards

-- all is stored
pub all_stored : {D H G : Type 0} (state after : State) (old : ServerState D H G) (store : StoreState D) (h : History) (k : ℕ) → RecoversTo state old h k
    → (d : ℕ) × (d ≤ now_of old) × RecoversToAt store after d (take k h ++ drop k h) → RecoversTo after (emptied old store) h (length h)
all_stored state after old store h k recovers done =
    let none : drop (length h) h ≡ [] = drop-length h in
    record {
      after = recovers.after;
      within = omega arith;
      at = done.0;
      at_late = done.1;
      stored = subst (λ (l : History). RecoversToAt store after done.0 l) (take-append-drop k h ∙ sym (take-length h)) done.2;
      staged = ap (λ (l : History). length l ∷ bytes.each bytes.act_entry l) (sym none);
      counted = ap (λ (l : History). length l) (sym none);
      tuples = ap tuples_of (sym none);
      since = recovers.since;
      from = subst (AllFrom done.0) (sym none) tt;
      writes = subst (AllByRecursion (λ (e : Event). Writes store.version e.act)) (sym none) tt;
    }

-- nothing was staged
pub none_staged : {D H G : Type 0} (state : State) (old : ServerState D H G) (h : History) (k : ℕ) → RecoversTo state old h k → old.acts ≡ 0 → RecoversTo state (emptied old old.store) h (length h)
none_staged state old h k recovers none =
    let is : drop k h ≡ [] = none_left (drop k h) (sym recovers.counted ∙ none) in
    let all : take k h ≡ take k h ++ drop k h = sym (append-nil (take k h)) ∙ ap (λ (l : History). take k h ++ l) (sym is) in
    all_stored state state old old.store h k recovers (recovers.at, recovers.at_late, subst (λ (l : History). RecoversToAt old.store state recovers.at l) all recovers.stored)

-- ---- What an append of a server's batch says of each history that the server recovers to

module _ {D H G : Type 0} (disk : disks.Ghosts D) (server : ServerState D H G) (store : StoreState D) (same : server.store.bounds ≡ limits_of server) (range : now_of server < end_of_moments)
    (some : 1 ≤ server.acts) (few : server.acts ≤ server.store.bounds.acts) where
  -- for each history of a store, and events that may follow it and are the batch
  abbrev Appends : (ℕ → History → List Event → Type 0) → Type 0
  Appends P = (c : ℕ) (h : History) (es : List Event) → RecoversToAt server.store (disk.trace server.store.disk).now c h → MayFollow server.store.bounds c h es (now_of server)
      → HasSize server.store.version server.store.bounds es → server.payload ≡ bytes.payload es → server.machine.table.contents ≡ tables.table (h ++ es) (now_of server) → P c h es

  of_batch : (P : ℕ → History → List Event → Type 0) → Appends P → (h : History) (k : ℕ) → (recovers : RecoversTo (disk.trace server.store.disk).now server h k) → P recovers.at (take k h) (drop k h)
  of_batch P all h k recovers =
      all recovers.at (take k h) (drop k h) recovers.stored (may_follow _ server h k recovers same range) (has_size _ server h k recovers some few) recovers.staged (contents_are _ server h k recovers)

  abbrev Stages : ℕ → History → List Event → Type 0
  Stages c h es = InStages (disk.trace server.store.disk) (disk.trace store.disk) (RepresentsAt (form_of server.store) h c) (EitherBy (form_of server.store) h es (now_of server))

  pub batch_stages : Appends Stages → (h : History) (k : ℕ) → RecoversTo (disk.trace server.store.disk).now server h k
      → InStages (disk.trace server.store.disk) (disk.trace store.disk) (RepresentsBy (form_of server.store) (take k h) (now_of server)) (EitherBy (form_of server.store) (take k h) (drop k h) (now_of server))
  batch_stages all h k recovers = stages_written (disk.trace server.store.disk) (disk.trace store.disk) server h k recovers (of_batch Stages all h k recovers)

  pub batch_stop : Appends Stages → (h : History) (k : ℕ) → RecoversTo (disk.trace server.store.disk).now server h k
      → EachImageSince (disk.trace server.store.disk) (disk.trace store.disk) (AtLeast (form_of server.store) h k (now_of server))
  batch_stop all h k recovers = written (disk.trace server.store.disk) (disk.trace store.disk) server h k recovers (of_batch Stages all h k recovers)

  pub batch_stored : Appends (λ c h es. (d : ℕ) × (d ≤ now_of server) × RecoversToAt store (disk.trace store.disk).now d (h ++ es)) → (h : History) (k : ℕ) → RecoversTo (disk.trace server.store.disk).now server h k
      → RecoversTo (disk.trace store.disk).now (emptied server store) h (length h)
  batch_stored all h k recovers =
      all_stored _ _ server store h k recovers (of_batch (λ c h es. (d : ℕ) × (d ≤ now_of server) × RecoversToAt store (disk.trace store.disk).now d (h ++ es)) all h k recovers)

-- ---- A commit of a server that is another by an equation

pub done_at : {D H G : Type 0} {disk : disks.Ghosts D} {store : StoreState D} {old same : ServerState D H G} → old ≡ same → Commits disk old (emptied old store) (Ok old.outs) → Commits disk same (emptied same store) (Ok same.outs)
done_at {disk = disk} {store = store} is call = subst (λ s. Commits disk s (emptied s store) (Ok s.outs)) is call

pub failed_at : {D H G : Type 0} {disk : disks.Ghosts D} {store : StoreState D} {old same : ServerState D H G} {result : Result (List Sent) StoreError} → old ≡ same → Commits disk old (record old { store = store }) result
    → Commits disk same (record same { store = store }) result
failed_at {disk = disk} {store = store} {result = result} is call = subst (λ (s : ServerState _ _ _). Commits disk s (record s { store = store }) result) is call
