-- What an opening yields.
use Rattle.std.proofs.Common.{◌≡◌, ◌≤◌, ◌⊎◌, ⊎_elim, ℕ, Bool, List, [], ◌∷◌, length, take, drop, Result, Ok, Err, refl, sym, ap, ◌∙◌, subst, arith, IfOk}
use Rattle.std.proofs.Math.ListN.{drop_of_length-le}
use Rattle.std.specs.List.{AllByRecursion}
use Rattle.turn_disk.specs.Prelude.{State, Trace, IsImage, EachImageSince}
use Rattle.turn_disk.specs.declared.disk.Disk as disks
use Rattle.turn_disk.proofs.Device.{uses_as}
use Rattle.turn_disk.proofs.Since.{since_weaken}
use Rattle.turn_history.specs.Prelude.{IsFitting, Event, History, clock, AllFrom, Bounds}
use Rattle.turn_history.specs.Table as tables
use Rattle.turn_record.specs.Bytes as bytes
use Rattle.turn_record.specs.Prelude.{Holds, Writes}
use Rattle.turn_store.specs.Prelude.{Version, V2, Form, EachImage, IsInVersion, IsInVersionOr2, RepresentsBy, RepresentsAt, OpensTo, disk_of, IsPlain, Snapshot, RecoversToAt, snapshot_of}
use Rattle.turn_store.specs.Opening as stores
use Rattle.turn_store.specs.declared.error.OpenError.TheVariants.{Memory}
use Rattle.turn_store.specs.declared.store.Opened.{Opened}
use Rattle.turn_store.specs.declared.store.StoreOpenError.{StoreOpenError}
use Rattle.turn_store.proofs.Encoding.{clock_late}
use Rattle.turn_store.proofs.Versions.{stays_second}
use Rattle.turn_table.specs.State as tables_state
use Rattle.turn_types.specs.Prelude.{Config}
use Rattle.turn_engine.specs.Prelude.{Opening, AtLeast, Opens, RecoversTo, tuples_of, ServerState, has_pairs, limits_of, now_of}
use Rattle.turn_engine.specs.State.{IsSound}
use Rattle.turn_engine.specs.declared.error.ServerOpenError.{ServerOpenError}
use Rattle.turn_engine.proofs.Lists.{length-take-le, take_of_length-le}

pub fresh_sound : (b limits store batch : Bounds) (v staged : Version) (acts : ℕ) (pairs : Bool) (table read : tables_state.State) → limits ≡ b → table ≡ read → store ≡ b → batch ≡ b → read.bounds ≡ b
    → staged ≡ v → acts ≡ 0 → pairs ≡ has_pairs v → Holds v read.contents → IsSound limits store batch v staged acts 0 pairs table
fresh_sound b limits store batch v staged acts pairs table read same is store_is batch_is table_is same_version none pairs_is holds =
    subst (λ (x : Bounds). IsSound x store batch v staged acts 0 pairs table) (sym same) (subst (λ (t : tables_state.State). IsSound b store batch v staged acts 0 pairs t) (sym is) (record {
      store_is = store_is;
      batch_is = batch_is;
      table_is = table_is;
      few = omega arith;
      capped = omega arith;
      same_version = same_version;
      pairs_is = pairs_is;
      holds = holds;
    }))

-- what holds of a value holds of the result that it is
pub of_made : {X E : Type 0} (x : X) (P : X → Type 0) (r : Result X E) → IfOk r (λ y. y ≡ x) → P x → IfOk r P
of_made x P (Ok y) is p = subst P (sym is) p
of_made x P (Err e) is p = tt

-- the content is an image
pub image_self : (state : State) → IsImage state state.bytes
image_self state = record { size = refl; same = λ i outside. refl }

-- what a stop may have left before a call, or what represents all that the content does, has at least what each image had
pub since_opened : (old new : Trace) (form : Form) (h : History) (k m : ℕ) (content : List ℕ) → EachImage old.now (AtLeast form h k m) → (at : AtLeast form h k m content)
    → EachImageSince old new (λ image. IsImage old.now image ⊎ RepresentsBy form (take at.count h) at.stands.clock image) → EachImageSince old new (AtLeast form h k m)
since_opened old new form h k m content each at since =
    let bounded = at.stands.bounded in
    since_weaken old new (λ image. IsImage old.now image ⊎ RepresentsBy form (take at.count h) at.stands.clock image) (AtLeast form h k m)
    (λ image either. ⊎_elim (λ (was : IsImage old.now image). each image was) (λ (stands : RepresentsBy form (take at.count h) at.stands.clock image).
    let early = stands.bounded in
    record { count = at.count; no_less = at.no_less; no_more = at.no_more; stands = record { clock = stands.clock; bounded = omega (arith, bounded, early); stands = stands.stands } }) either)
    since

-- what a stop may have left before a call, or what is carried over, is of version 2 where each image was
pub since_second : (old new : Trace) (form : Form) → EachImage old.now (IsInVersion V2 form) → EachImageSince old new (λ image. IsImage old.now image ⊎ IsInVersionOr2 V2 form image) → EachImageSince old new (IsInVersion V2 form)
since_second old new form each since =
    since_weaken old new (λ (image : List ℕ). IsImage old.now image ⊎ IsInVersionOr2 V2 form image) (IsInVersion V2 form)
    (λ image either. ⊎_elim (λ (was : IsImage old.now image). each image was) (λ (is : IsInVersionOr2 V2 form image). ⊎_elim (λ one. one) (λ two. two) is) either) since

module _ {D H G : Type 0} (form : Form) (h : History) (k m : ℕ) (content : List ℕ) (state : State) (server : ServerState D H G) (at : AtLeast form h k m content) where
  abbrev first : History
  first = take at.count h

  recovers_to_it : (c : ℕ) → RepresentsAt form first c content → OpensTo form first c server.store state (snapshot_of server.machine.table) → form.bounds ≡ limits_of server
      → server.payload ≡ 0 ∷ [] → server.acts ≡ 0 → server.tuples ≡ [] → server.since ≤ now_of server → RecoversTo state server first at.count
  recovers_to_it c stands is bounds payload acts tuples since =
      let long : length first ≡ at.count = length-take-le at.count h at.no_more in
      let same : take at.count first ≡ first = take_of_length-le at.count first (omega arith) in
      let none : drop at.count first ≡ [] = drop_of_length-le first (omega arith) in
      let moment : now_of server ≡ c = ap (λ (s : Snapshot). s.moment) is.table_is in
      let late : clock first ≤ c = clock_late stands.version form.bounds first c stands.snapshot stands.payloads stands.encodes in
      record {
        after = record {
          fitting = subst (λ (b : Bounds). IsFitting b first) bounds stands.encodes.fitting;
          late = omega arith;
          agrees = ap (λ (s : Snapshot). s.contents) is.table_is ∙ ap (tables.table first) (sym moment);
        };
        within = omega arith;
        at = c;
        at_late = omega arith;
        stored = subst (λ (l : History). RecoversToAt server.store state c l) (sym same) is.recovers;
        staged = payload ∙ ap (λ (l : History). length l ∷ bytes.each bytes.act_entry l) (sym none);
        counted = acts ∙ ap (λ (l : History). length l) (sym none);
        tuples = tuples ∙ ap tuples_of (sym none);
        since = since;
        from = subst (AllFrom c) (sym none) tt;
        writes = subst (AllByRecursion (λ (e : Event). Writes server.store.version e.act)) (sym none) tt;
      }

  pub opens : OpensTo form first at.stands.clock server.store state (snapshot_of server.machine.table) → form.bounds ≡ limits_of server → server.payload ≡ 0 ∷ [] → server.acts ≡ 0
      → server.tuples ≡ [] → server.since ≤ now_of server → Opens form h k m content state server
  opens is bounds payload acts tuples since =
      let moment : now_of server ≡ at.stands.clock = ap (λ (s : Snapshot). s.moment) is.table_is in
      let bounded = at.stands.bounded in
      record {
        count = at.count;
        no_less = at.no_less;
        no_more = at.no_more;
        same_form = is.same_form;
        recovers = recovers_to_it at.stands.clock at.stands.stands is bounds payload acts tuples since;
        stands = subst (λ (c : ℕ). RepresentsAt form first c content) (sym moment) at.stands.stands;
        bounded = omega arith;
      }

-- ---- What an opening of a store is as that of a server

module _ {D A : Type 0} (disk : disks.Ghosts D) (old : D) (limits : Bounds) (carry : Bool) (result : Result (Opened D A) (StoreOpenError D))
    (is : stores.Opening disk old limits carry result) where
  pub stop_of : disk.follows_crash_model (disk_of result) → (form : Form) (h : History) (k m : ℕ) → EachImage (disk.trace old).now (AtLeast form h k m)
      → EachImageSince (disk.trace old) (disk.trace (disk_of result)) (AtLeast form h k m)
  stop_of crash_model form h k m images =
      let at = images _ (image_self (disk.trace old).now) in
      since_opened _ _ form h k m _ images at (is.stop crash_model form (take at.count h) at.stands.clock at.stands.stands)

  pub stop_version_of : disk.follows_crash_model (disk_of result) → (form : Form) → EachImage (disk.trace old).now (IsInVersion V2 form)
      → EachImageSince (disk.trace old) (disk.trace (disk_of result)) (IsInVersion V2 form)
  stop_version_of crash_model form images = since_second _ _ form images (is.version crash_model V2 form (images _ (image_self (disk.trace old).now)))

pub sound_of : {D A : Type 0} (disk : disks.Ghosts D) (old : D) (limits : Bounds) (carry : Bool) (r : StoreOpenError D) → stores.Opening {A = A} disk old limits carry (Err r)
    → disk.follows_crash_model r.disk → (form : Form) (h : History) (k m : ℕ) → form.bounds ≡ limits → EachImage (disk.trace old).now (AtLeast form h k m) → IsPlain r.fault
sound_of disk old limits carry r is crash_model form h k m bounds images =
    let at = images _ (image_self (disk.trace old).now) in
    is.sound crash_model form (take at.count h) at.stands.clock bounds at.stands.stands

module _ {D H G A : Type 0} (disk : disks.Ghosts D) (old : D) (config : Config) (handler : H) (ports : G) (carry : Bool) where
  -- one that was refused
  pub refused : (r : StoreOpenError D) → stores.Opening {A = A} disk old config.limits carry (Err r)
      → Opening disk old config handler ports (Err (record { fault = r.fault; disk = r.disk; handler = handler; ports = ports }))
  refused r is = record {
    machine = tt;
    pairs = tt;
    nothing = tt;
    runs = tt;
    returned = (refl, refl);
    uses = is.uses;
    opened = tt;
    why = is.why;
    recovers = tt;
    sound = sound_of disk old config.limits carry r is;
    stop = stop_of disk old config.limits carry (Err r) is;
    version = tt;
    stop_version = stop_version_of disk old config.limits carry (Err r) is;
  }

  module _ (opened : Opened D A) (is : stores.Opening disk old config.limits carry (Ok opened)) where
    -- one after which there was no memory for the server
    pub spent : (r : ServerOpenError D H G) → r ≡ record { fault = Memory; disk = opened.store.disk; handler = handler; ports = ports } → Opening disk old config handler ports (Err r)
    spent r same = subst (λ x. Opening disk old config handler ports (Err x)) (sym same) (record {
      machine = tt;
      pairs = tt;
      nothing = tt;
      runs = tt;
      returned = (refl, refl);
      uses = uses_as (λ e. cc) (λ never. absurd never) is.uses;
      opened = tt;
      why = λ crash_model. tt;
      recovers = tt;
      sound = λ crash_model form h k m bounds images. tt;
      stop = stop_of disk old config.limits carry (Ok opened) is;
      version = tt;
      stop_version = stop_version_of disk old config.limits carry (Ok opened) is;
    })

    -- one that a server was made of
    pub made : (server : ServerState D H G) → server ≡ record {
      store = opened.store;
      machine = record { config = config; handler = handler; ports = ports; table = opened.table; pairs = has_pairs opened.store.version };
      payload = 0 ∷ [];
      acts = 0;
      tuples = [];
      outs = [];
      arrivals = 0;
      since = opened.table.moment;
    } → Opening disk old config handler ports (Ok server)
    made server same = subst (λ s. Opening disk old config handler ports (Ok s)) (sym same) (record {
      machine = refl;
      pairs = refl;
      nothing = refl;
      runs = is.runs;
      returned = tt;
      uses = is.uses;
      opened = is.opened;
      why = tt;
      recovers = λ crash_model form h k m bounds images.
          let at = images _ (image_self (disk.trace old).now) in
          opens form h k m _ _ _ at (is.recovers crash_model form (take at.count h) at.stands.clock bounds at.stands.stands) bounds refl refl refl (omega arith);
      sound = tt;
      stop = stop_of disk old config.limits carry (Ok opened) is;
      version = λ crash_model form images. stays_second carry _ opened.store form (images _ (image_self (disk.trace old).now)) (is.carried crash_model);
      stop_version = stop_version_of disk old config.limits carry (Ok opened) is;
    })
