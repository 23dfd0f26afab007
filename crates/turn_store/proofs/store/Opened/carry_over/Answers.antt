use Rattle.std.proofs.Common.{true, ◌∙◌, ap, refl, sym, subst}
use Rattle.turn_disk.proofs.Device.{uses_then}
use Rattle.turn_disk.specs.Prelude.{IsSettled}
use Rattle.turn_record.specs.Prelude.{Holds, IsSnapshot}
use Rattle.turn_store.specs.Prelude.{Version, V2, Carries, IsOpened, snapshot_of}
use Rattle.turn_types.specs.declared.limits.Bounds.{Bounds}
use Rattle.turn_store.proofs.Carried.{all_ok, and_err, and_ok, at_err, at_ok, carried_since, is_active_as, kept_carries, on_err, on_ok, opened_anew, over_carries, plain_why, same_bounds}
use Rattle.turn_store.proofs.Sound.{not_both}
use Rattle.turn_store.proofs.Versions.{opened_in}
use Rattle.turn_store.proofs.store.Opened.carry_over.Goals as goal

pub returns-then-not-can_be_carried-clause-opens : goal.returns-then-not-can_be_carried-clause-opens
returns-then-not-can_be_carried-clause-opens g c old limits is = record {
  uses = is.uses;
  bounds = is.bounds;
  runs = is.runs;
  holds = is.holds;
  stop = is.stop;
  version = is.version;
  same = λ no. is.same refl;
  stop_kept = λ no. is.stop_kept refl;
  settled = tt;
  opened = is.opened;
  why = tt;
  carried = λ crash_model. kept_carries true _ _ (is_active_as _ _ _ _ (is.opened crash_model) (is.same refl crash_model)) (λ over. not_both c.can_be_carried.result (c.can_be_carried.ensures.1 over) c.if-not-can_be_carried.true);
  recovers = is.recovers;
  sound = tt;
}

pub carry_table-requires-clause-generation : goal.carry_table-requires-clause-generation
carry_table-requires-clause-generation g c = (c.can_be_carried.ensures.0 c.if-not-can_be_carried.false).next

pub carry_table-requires-clause-area : goal.carry_table-requires-clause-area
carry_table-requires-clause-area g c = (c.can_be_carried.ensures.0 c.if-not-can_be_carried.false).room

pub returns-clause-kept : goal.returns-clause-kept
returns-clause-kept g c never = absurd (never (c.can_be_carried.ensures.0 c.if-not-can_be_carried.false).old)

pub returns-clause-opens : goal.returns-clause-opens
returns-clause-opens g c old limits is =
    let store = c.args.self.store in
    let t = c.args.self.table in
    let asked = c.can_be_carried.ensures.0 c.if-not-can_be_carried.false in
    let result = c.carry_table.result in
    let carried = c.carry_table.ensures in
    let can : IsSnapshot V2 limits t.moment t.contents = subst (λ (b : Bounds). IsSnapshot V2 b t.moment t.contents) is.bounds.1 carried.snapshot in
    let earlier = at_ok (λ d. g.D.Disk.follows_crash_model d → g.D.Disk.follows_crash_model store.disk) result carried.uses.crash_model in
    record {
      uses = uses_then is.uses (λ never. never) carried.uses;
      bounds = on_ok _ _ result (λ o both. (ap (λ st. st.bounds) both.0 ∙ is.bounds.0, ap (λ table. table.bounds) both.1 ∙ is.bounds.1))
          (and_ok _ _ result carried.store carried.table);
      runs = on_ok _ _ result (λ o same. ap (λ st. st.stopped) same ∙ is.runs) carried.store;
      holds = on_ok _ _ result (λ o same. subst (λ (v : Version). Holds v o.table.contents) (sym (ap (λ st. st.version) same)) tt) carried.store;
      stop = λ crash_model form h clock stands.
          let before = carried.uses.crash_model crash_model in
          let same = same_bounds store _ _ form h clock limits _ (is.opened before) (is.same refl before) is.bounds.0 stands in
          carried_since form h clock _ _ _ (is.stop_kept refl before) (carried.stop crash_model form h clock (is.recovers before form h clock same stands));
      version = λ crash_model v form in_version.
          let before = carried.uses.crash_model crash_model in
          let was = is.opened before in
          opened_in store _ _ _ was.snapshot was.payloads was.shows v form _ (is.same refl before) in_version (is.stop_kept refl before)
          (carried.version crash_model was.snapshot was.payloads was.shows);
      same = λ no. cc;
      stop_kept = λ no. cc;
      settled = on_err _ _ result
          (λ r both crash_model other. subst (λ d. IsSettled (g.D.Disk.trace d).now) (sym (both.1 other)) (is.opened (both.0 crash_model)).shows.recovers.holds.settled)
          (and_err _ _ result (at_err (λ d. g.D.Disk.follows_crash_model d → g.D.Disk.follows_crash_model store.disk) result carried.uses.crash_model) carried.untouched);
      opened = on_ok _ _ result
          (λ o all crash_model.
          let bounds = ap (λ st. st.bounds) all.0 ∙ is.bounds.0 in
          let before = is.opened (all.2.0 crash_model) in
          subst (λ table. IsOpened o.store (g.D.Disk.trace o.store.disk).now (snapshot_of table)) (sym all.1)
          (opened_anew o.store _ (snapshot_of t) (ap (λ st. st.version) all.0) (subst (λ (b : Bounds). IsSnapshot V2 b t.moment t.contents) (sym bounds) can) (all.2.1 crash_model before.snapshot before.payloads before.shows)))
          (all_ok _ _ _ result carried.store carried.table (and_ok _ _ result earlier carried.shown));
      why = on_err _ _ result (λ r plain crash_model. plain_why limits _ r.fault plain) carried.plain;
      carried = let content = (g.D.Disk.trace old).now.bytes in
          on_ok _ _ result
          (λ o both crash_model.
          let before = both.0 crash_model in
          subst (λ st. Carries true content st) (sym both.1)
          (over_carries true content store (snapshot_of t) (is_active_as store _ (snapshot_of t) content (is.opened before) (is.same refl before)) asked o.store.disk))
          (and_ok _ _ result earlier carried.store);
      recovers = on_ok _ _ result (λ o both crash_model form h clock same stands. both.1 crash_model form h clock (is.recovers (both.0 crash_model) form h clock same stands))
          (and_ok _ _ result earlier carried.recovers);
      sound = on_err _ _ result (λ r plain crash_model form h clock same stands. plain) carried.plain;
    }
