use Rattle.std.proofs.Common.{◌≡◌, ℕ, ◌∙◌, [], ap, refl, sym, subst}
use Rattle.turn_disk.proofs.Device.{uses_as}
use Rattle.turn_disk.specs.Prelude.{Uses, EachImageSince}
use Rattle.turn_store.specs.Prelude.{IsInVersionOr2, RepresentsBy, OpensTo, Shows, carried, carried_area, form_of, snapshot_of}
use Rattle.turn_store.specs.declared.error.OpenError.TheVariants.{Device}
use Rattle.turn_store.proofs.Carried.{next, over_rests, over_since, stays_since}
use Rattle.turn_store.proofs.Versions.{rest_in_or_2, stages_over}
use Rattle.turn_store.proofs.store.carry_table.Goals as goal

pub returns-in-Ok-carry-clause-store : goal.returns-in-Ok-carry-clause-store
returns-in-Ok-carry-clause-store g c =
    let old = c.args.opened.store in
    c.in-Ok-carry.ensures.ok ∙ ap (λ (n : ℕ). carried old (carried_area old n) c.carry.new.self.disk) c.next_size-size.ensures.value

pub returns-in-Ok-carry-clause-stop : goal.returns-in-Ok-carry-clause-stop
returns-in-Ok-carry-clause-stop g c = λ crash_model form h clock o.
    over_since c.args.opened.store (snapshot_of c.args.opened.table) _ form h clock o c.next_size-size.ensures.snapshot.at.moment _ _ _ (c.carry.ensures.stages crash_model o.recovers.snapshot o.recovers.payloads o.recovers.shows)

pub returns-in-Ok-carry-clause-recovers : goal.returns-in-Ok-carry-clause-recovers
returns-in-Ok-carry-clause-recovers g c = λ crash_model form h clock o.
    let old = c.args.opened.store in
    let t = snapshot_of c.args.opened.table in
    let same = returns-in-Ok-carry-clause-store g c in
    subst (λ st. OpensTo form h clock st (g.D.Disk.trace c.carry.new.self.disk).now t) (sym same)
    (over_rests old t _ form h clock o c.next_size-size.ensures.snapshot.at.moment c.carry.new.self.disk _
    (subst (λ st. Shows st (g.D.Disk.trace c.carry.new.self.disk).now (next old t) []) same (c.in-Ok-carry.ensures.shown crash_model o.recovers.snapshot o.recovers.payloads o.recovers.shows)))

pub returns-in-Err-clause-stop : goal.returns-in-Err-clause-stop
returns-in-Err-clause-stop g c = λ crash_model form h clock o.
    let old = c.args.opened.store in
    subst (λ d. EachImageSince (g.D.Disk.trace old.disk) (g.D.Disk.trace d) (RepresentsBy form h clock)) (sym c.into_disk-in-Err.ensures)
    (over_since old (snapshot_of c.args.opened.table) _ form h clock o c.next_size-size.ensures.snapshot.at.moment _ _ _ (c.carry.ensures.stages (subst (λ d. g.D.Disk.follows_crash_model d) c.into_disk-in-Err.ensures crash_model) o.recovers.snapshot o.recovers.payloads o.recovers.shows))

pub returns-in_default-clause-stop : goal.returns-in_default-clause-stop
returns-in_default-clause-stop g c = λ crash_model form h clock o.
    let old = c.args.opened.store in
    subst (λ d. EachImageSince (g.D.Disk.trace old.disk) (g.D.Disk.trace d) (RepresentsBy form h clock)) (sym c.into_disk.ensures)
    (stays_since form h clock old (g.D.Disk.trace old.disk) (snapshot_of c.args.opened.table) o c.next_size-size.ensures.snapshot.at.moment)

pub returns-in_default-clause-uses : goal.returns-in_default-clause-uses
returns-in_default-clause-uses g c =
    let same = c.into_disk.ensures in
    record {
      size = ap g.D.Disk.capacity same;
      device = λ e. cc;
      count = λ none. ap g.D.Disk.failed same;
      crash_model = λ crash_model. subst (λ d. g.D.Disk.follows_crash_model d) same crash_model;
    }

pub returns-in-Ok-carry-clause-uses : goal.returns-in-Ok-carry-clause-uses
returns-in-Ok-carry-clause-uses g c = uses_as (λ never. absurd never) (λ e. cc) c.in-Ok-carry.ensures.uses

pub returns-in-Err-clause-uses : goal.returns-in-Err-clause-uses
returns-in-Err-clause-uses g c =
    subst (λ d. Uses g.D.Disk c.args.opened.store.disk d (Device ≡ Device)) (sym c.into_disk-in-Err.ensures) (uses_as (λ is. refl) (λ is. refl) c.in-Err.ensures.uses)

pub returns-in-Ok-carry-clause-version : goal.returns-in-Ok-carry-clause-version
returns-in-Ok-carry-clause-version g c = λ crash_model s ps shows. stages_over _ _ _ _ _ s _ ps _ (c.carry.ensures.stages crash_model s ps shows)

pub returns-in-Err-clause-version : goal.returns-in-Err-clause-version
returns-in-Err-clause-version g c = λ crash_model s ps shows.
    let old = c.args.opened.store in
    subst (λ d. EachImageSince (g.D.Disk.trace old.disk) (g.D.Disk.trace d) (IsInVersionOr2 old.version (form_of old))) (sym c.into_disk-in-Err.ensures)
    (stages_over _ _ _ _ _ s _ ps _ (c.carry.ensures.stages (subst (λ d. g.D.Disk.follows_crash_model d) c.into_disk-in-Err.ensures crash_model) s ps shows))

pub returns-in_default-clause-version : goal.returns-in_default-clause-version
returns-in_default-clause-version g c = λ crash_model s ps shows.
    let old = c.args.opened.store in
    subst (λ d. EachImageSince (g.D.Disk.trace old.disk) (g.D.Disk.trace d) (IsInVersionOr2 old.version (form_of old))) (sym c.into_disk.ensures)
    (rest_in_or_2 old (g.D.Disk.trace old.disk) s ps shows)
