use Rattle.std.proofs.Common.{⊎_elim, arith, inl, inr, refl, rules, ◌≤◌}
use Rattle.std.proofs.lemmas.Result.{err_from_is_err_and}
use Rattle.turn_disk.proofs.Device.{uses_as, uses_then}
use Rattle.turn_disk.proofs.Since.{since_join}
use Rattle.turn_store.specs.Prelude.{least_area}
use Rattle.turn_store.proofs.Formats.{represents_nothing}
use Rattle.turn_store.proofs.Ordered.{format_failed, in_order, wiped_since}
use Rattle.turn_store.proofs.formatting.format_as.Goals as goal

pub returns-then-area-needed : goal.returns-then-area-needed
returns-then-area-needed g c = record {
  uses = record { size = refl; device = λ e. cc; count = λ _. refl; crash_model = λ h. h };
  too_small = search rules;
  untouched = λ _. refl;
  formatted = λ _. tt;
  done = λ _. tt;
  order = λ _. inl refl;
}

pub returns-in_err-write_through : goal.returns-in_err-write_through
returns-in_err-write_through g c =
    let p = err_from_is_err_and c.from_residual.result c.from_residual.ensures.1 in
    rw (p.1, p.2) (format_failed c.args.version _ _ _ (omega (arith, c.if-area-needed.false, c.least_area_of-needed.ensures.value)) c.in_err-write_through.ensures.uses refl
    (λ crash_model. ⊎_elim (λ writes. inr (inl writes)) (λ same. inl same) (c.in_err-write_through.ensures.once crash_model)))

pub returns-in_err-lay_areas : goal.returns-in_err-lay_areas
returns-in_err-lay_areas g c =
    let p = err_from_is_err_and c.from_residual-in_err-lay_areas.result c.from_residual-in_err-lay_areas.ensures.1 in
    rw (p.1, p.2) (format_failed c.args.version _ _ _ (omega (arith, c.if-area-needed.false, c.least_area_of-needed.ensures.value)) (uses_then c.in_ok-write_through.ensures.uses (λ e. cc) c.in_err-lay_areas.ensures.uses) refl
    (λ crash_model.
    let before = c.lay_areas.ensures.uses.crash_model crash_model in
    let wrote = c.in_ok-write_through.ensures.done before in
    in_order _ _ _ _ refl (c.in_ok-write_through.ensures.once before) (wiped_since _ _ _ _ (wrote.written 0 (omega arith)) (c.lay_areas.ensures.stop crash_model wrote.settled))))

pub returns-in_err-open_first : goal.returns-in_err-open_first
returns-in_err-open_first g c =
    let p = err_from_is_err_and c.from_residual-in_err-open_first.result c.from_residual-in_err-open_first.ensures.1 in
    let room : least_area c.args.version c.args.limits ≤ c.args.area = omega (arith, c.if-area-needed.false, c.least_area_of-needed.ensures.value) in
    rw (p.1, p.2) (format_failed c.args.version _ _ _ room (uses_then c.in_ok-write_through.ensures.uses (λ e. cc) (uses_then c.in_ok-lay_areas.ensures.uses (λ e. cc) c.in_err-open_first.ensures.uses)) refl
    (λ crash_model.
    let laying = c.open_first.ensures.uses.crash_model crash_model in
    let before = c.lay_areas.ensures.uses.crash_model laying in
    let wrote = c.in_ok-write_through.ensures.done before in
    in_order _ _ _ _ refl (c.in_ok-write_through.ensures.once before) (since_join _ _ _ _ (wiped_since _ _ _ _ (wrote.written 0 (omega arith)) (c.lay_areas.ensures.stop laying wrote.settled))
    (c.open_first.ensures.stop crash_model c.args.version room (c.in_ok-lay_areas.ensures.done laying)))))

pub returns : goal.returns
returns g c =
    let formatted = λ (crash_model : g.D.Disk.follows_crash_model c.open_first.new.disk).
    c.in_ok-open_first.ensures.done crash_model c.args.version (omega (arith, c.if-area-needed.false, c.least_area_of-needed.ensures.value)) (c.in_ok-lay_areas.ensures.done (c.open_first.ensures.uses.crash_model crash_model)) in
    record {
      uses = uses_as (λ e. cc) (λ e. cc) (uses_then c.in_ok-write_through.ensures.uses (λ e. cc) (uses_then c.in_ok-lay_areas.ensures.uses (λ e. cc) c.in_ok-open_first.ensures.uses));
      too_small = λ needed. (λ e. cc, λ both. absurd (omega (arith, both.0, c.if-area-needed.false, c.least_area_of-needed.ensures.value)));
      untouched = λ small. absurd (omega (arith, small, c.if-area-needed.false, c.least_area_of-needed.ensures.value));
      formatted = formatted;
      done = λ crash_model. represents_nothing c.args.version _ _ (formatted crash_model);
      order = λ crash_model.
          let laying = c.open_first.ensures.uses.crash_model crash_model in
          let before = c.lay_areas.ensures.uses.crash_model laying in
          let wrote = c.in_ok-write_through.ensures.done before in
          in_order _ _ _ _ refl (c.in_ok-write_through.ensures.once before) (since_join _ _ _ _ (wiped_since _ _ _ _ (wrote.written 0 (omega arith)) (c.lay_areas.ensures.stop laying wrote.settled))
          (c.open_first.ensures.stop crash_model c.args.version (omega (arith, c.if-area-needed.false, c.least_area_of-needed.ensures.value)) (c.in_ok-lay_areas.ensures.done laying)));
    }
