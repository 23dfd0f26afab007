use Rattle.std.proofs.Common.{◌≡◌, ◌∙◌, List, ℕ, ap, append_assoc, subst, sym}
use Rattle.std.proofs.lemmas.Result.{err_from_is_err_and}
use Rattle.turn_record.specs.Prelude.{gives, Fails}
use Rattle.turn_record.proofs.snapshot_progress.step.Goals as goal

pub returns-in_err-restored-clause-goes : goal.returns-in_err-restored-clause-goes
returns-in_err-restored-clause-goes g c =
    let p = err_from_is_err_and c.from_residual-in_err-restored.result c.from_residual-in_err-restored.ensures.1 in
    rw (p.1, p.2) (λ more. subst (λ (u : List ℕ). Fails c.in_err-restored.field-0.0 (gives c.args.version c.args.limits c.args.restored u)) (append_assoc c.args.held.now.items c.args.piece.now more)
    (rw (c.deref.ensures.value, c.in_ok-extend_from_slice.ensures.items) at (c.in_err-restored.ensures.goes more)))

pub returns-clause-goes : goal.returns-clause-goes
returns-clause-goes g c = λ more.
    let kept : c.extend_from_slice-2.new.self.items ≡ c.in_ok-restored.rest.now = rw c.new-kept.ensures.items at c.in_ok-extend_from_slice-2.ensures.items in
    rw kept (ap (gives c.args.version c.args.limits c.args.restored) (sym (append_assoc c.args.held.now.items c.args.piece.now more)) ∙ (rw (c.deref.ensures.value, c.in_ok-extend_from_slice.ensures.items) at (c.in_ok-restored.ensures.goes more)))
