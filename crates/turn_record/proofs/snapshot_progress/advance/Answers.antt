use Rattle.std.proofs.Common.{◌∙◌}
use Rattle.std.proofs.lemmas.Result.{err_from_is_err_and}
use Rattle.turn_record.proofs.snapshot_progress.advance.Goals as goal

pub returns-in-None-clause-goes : goal.returns-in-None-clause-goes
returns-in-None-clause-goes g c = λ more. rw c.in-None.is (c.begin.ensures.goes more)

pub returns-in_err-restored-in-Some-clause-goes : goal.returns-in_err-restored-in-Some-clause-goes
returns-in_err-restored-in-Some-clause-goes g c =
    let p = err_from_is_err_and c.from_residual.result c.from_residual.ensures.1 in
    rw (p.1, p.2) (λ more. rw c.in-Some.is (c.in_err-restored-in-Some.ensures.goes c.args.limits more))

pub returns-in_ok-restored-in-Some-clause-goes : goal.returns-in_ok-restored-in-Some-clause-goes
returns-in_ok-restored-in-Some-clause-goes g c = λ more. rw c.in-Some.is (c.in_ok-restored-in-Some.ensures.goes c.args.limits more)

pub returns-in_ok-restored-in-Some-clause-bounds : goal.returns-in_ok-restored-in-Some-clause-bounds
returns-in_ok-restored-in-Some-clause-bounds g c = λ under. c.in_ok-restored-in-Some.ensures.bounds ∙ (rw c.in-Some.is at under)
