use Rattle.std.proofs.Common.{◌∙◌, ℕ, List, Err, false, ap, refl, sym, subst}
use Rattle.turn_disk.proofs.Device.{uses_as}
use Rattle.turn_store.specs.Prelude.{RepresentsAt, IsChosen, HasSuperblock, snapshot_of}
use Rattle.turn_store.proofs.Carried.{is_active_as, kept_carries, kept_since}
use Rattle.turn_store.proofs.Opens.{opened, opens_to}
use Rattle.turn_store.proofs.Versions.{kept_in}
use Rattle.turn_store.proofs.store.Store.open_unchanged.Goals as goal

pub returns-in-Ok : goal.returns-in-Ok
returns-in-Ok g c =
    let r = c.in-Ok.chosen in
    let is = c.in-Ok.ensures in
    let opened_now = λ (crash_model : g.D.Disk.follows_crash_model c.load.new.disk).
    let state = (g.D.Disk.trace c.load.new.disk).now in
    let same = is.settles.same crash_model in
    let has = subst (λ (l : List ℕ). HasSuperblock r.loaded.journal.size c.args.limits l) (sym same) (is.superblock crash_model) in
    let chosen = subst (λ (l : List ℕ). IsChosen r.loaded.version c.args.limits r.loaded.journal.size r.loaded.journal.start r.other r.generation r.loaded.journal.end r.loaded.frames r.other_is_below (snapshot_of r.loaded.table) l)
    (sym same) (is.chosen crash_model) in
    opened _ state (snapshot_of r.loaded.table) (is.settles.settled (λ e. cc) crash_model) has is.store.room (g.met.D.Disk.sized c.load.new.disk crash_model ∙ sym is.store.whole) (rw is.store.whole is.store.addressable) chosen in
    record {
      uses = uses_as (λ never. absurd never) (λ e. cc) is.settles.uses;
      bounds = (refl, is.table.0);
      runs = refl;
      holds = is.table.1;
      stop = λ crash_model form h clock stands. kept_since form h clock _ _ (is.settles.stop crash_model);
      version = λ crash_model v form in_version. kept_in v form _ _ (is.settles.stop crash_model);
      same = λ no crash_model. is.settles.same crash_model;
      stop_kept = λ no crash_model. is.settles.stop crash_model;
      settled = tt;
      opened = opened_now;
      why = tt;
      carried = λ crash_model. kept_carries false _ _ (is_active_as _ _ _ _ (opened_now crash_model) (is.settles.same crash_model)) (λ over. let asked = over.asked in cc);
      recovers = λ crash_model form h clock same stands.
          opens_to form h clock _ _ (snapshot_of r.loaded.table) (opened_now crash_model) (sym same) refl (subst (λ (l : List ℕ). RepresentsAt form h clock l) (sym (is.settles.same crash_model)) stands);
      sound = tt;
    }

pub returns-in-Err : goal.returns-in-Err
returns-in-Err g c =
    let is = c.in-Err.ensures in
    record {
      uses = uses_as (λ same. ap Err same) (λ e. cc) is.settles.uses;
      bounds = tt;
      runs = tt;
      holds = tt;
      stop = λ crash_model form h clock stands. kept_since form h clock _ _ (is.settles.stop crash_model);
      version = λ crash_model v form in_version. kept_in v form _ _ (is.settles.stop crash_model);
      same = λ no crash_model. is.settles.same crash_model;
      stop_kept = λ no crash_model. is.settles.stop crash_model;
      settled = λ crash_model other. is.settles.settled (λ e. other (cc)) crash_model;
      opened = tt;
      why = is.why;
      carried = tt;
      recovers = tt;
      sound = is.sound;
    }
