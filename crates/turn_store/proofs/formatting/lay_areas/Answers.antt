use Rattle.std.proofs.Common.{◌≡◌, ◌+◌, ◌-◌, ◌∷◌, [], ℕ, ◌∙◌, sym, subst, arith}
use Rattle.turn_disk.specs.Prelude.{ChangesOnly, StandsAt}
use Rattle.turn_store.proofs.Formats.{laid_state}
use Rattle.turn_store.proofs.Ordered.{areas_since, second_since}
use Rattle.turn_store.proofs.formatting.lay_areas.Goals as goal

pub returns-clause-done : goal.returns-clause-done
returns-clause-done g c = λ crash_model.
    let before = c.lay_first.ensures.uses.crash_model crash_model in
    let writes = c.in_ok-write_at.ensures.outcome before in
    let second : c.size.result - c.args.area ≡ 64 + c.args.area = omega (arith, c.size.ensures, c.requires.place) in
    let old = g.D.Disk.trace c.args.disk.now in
    let mid = g.D.Disk.trace c.write_at.new.self in
    laid_state c.args.version c.args.area old.now mid.now _ c.requires.room (g.met.D.Disk.sized c.args.disk.now (c.write_at.ensures.crash_model before) ∙ sym c.requires.place)
    (subst (λ (at : ℕ). ChangesOnly at 1 old.now.bytes mid.now.bytes) second writes.range.content)
    (subst (λ (at : ℕ). StandsAt at (0 ∷ []) mid.now.bytes) second writes.written)
    (c.in_ok-lay_first.ensures.done crash_model)

pub returns-in_err-write_at-clause-stop : goal.returns-in_err-write_at-clause-stop
returns-in_err-write_at-clause-stop g c = λ crash_model settled.
    second_since c.args.area c.requires.room _ _ settled _ (omega (arith, c.size.ensures, c.requires.place)) c.write_at.result (c.write_at.ensures.outcome crash_model)

pub returns-in_err-lay_first-clause-stop : goal.returns-in_err-lay_first-clause-stop
returns-in_err-lay_first-clause-stop g c = λ crash_model settled.
    areas_since c.args.area c.requires.room _ _ settled _ (omega (arith, c.size.ensures, c.requires.place)) c.write_at.result (c.write_at.ensures.outcome (c.lay_first.ensures.uses.crash_model crash_model))
    c.args.version _ c.lay_first.result (c.lay_first.ensures.once crash_model)

pub returns-clause-stop : goal.returns-clause-stop
returns-clause-stop g c = λ crash_model settled.
    areas_since c.args.area c.requires.room _ _ settled _ (omega (arith, c.size.ensures, c.requires.place)) c.write_at.result (c.write_at.ensures.outcome (c.lay_first.ensures.uses.crash_model crash_model))
    c.args.version _ c.lay_first.result (c.lay_first.ensures.once crash_model)
