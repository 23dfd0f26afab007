use Rattle.std.proofs.Common.{◌++◌, ◌∙◌, []}
use Rattle.std.proofs.lemmas.Result.{err_from_is_err_and}
use Rattle.turn_record.proofs.Onward.{begun_at, fails_same, head_count, not_begun, room_begun}
use Rattle.turn_record.proofs.snapshot_progress.begin.Goals as goal

pub invariant_of-go_on : goal.invariant_of-go_on
invariant_of-go_on g c =
    let head = rw c.in-Ok-Some.field-0-is at c.in-Ok-Some.ensures in
    room_begun c.args.limits c.in-Ok-Some.moment c.in-Ok-Some.count c.new-table.result c.new-table.ensures (head_count c.args.limits (c.args.bytes.now ++ []) _ _ (head []))

pub returns-in-Err-clause-goes : goal.returns-in-Err-clause-goes
returns-in-Err-clause-goes g c = λ more. not_begun c.args.version c.args.limits c.in-Err.error (c.args.bytes.now ++ more) (c.in-Err.ensures more)

pub returns-in_err-restored-in-Ok-Some-clause-goes : goal.returns-in_err-restored-in-Ok-Some-clause-goes
returns-in_err-restored-in-Ok-Some-clause-goes g c = λ more.
    let head = rw c.in-Ok-Some.field-0-is at c.in-Ok-Some.ensures in
    let p = err_from_is_err_and c.from_residual.result c.from_residual.ensures.1 in
    rw (p.1, p.2) (fails_same c.in_err-restored-in-Ok-Some.field-0.0 _ _ (begun_at c.args.version c.args.limits c.args.bytes.now c.in-Ok-Some.rest.now more c.in-Ok-Some.moment c.in-Ok-Some.count c.new-table.result c.new-table.ensures (head more)) (c.in_err-restored-in-Ok-Some.ensures.goes c.args.limits more))

pub returns-in_ok-restored-in-Ok-Some-clause-goes : goal.returns-in_ok-restored-in-Ok-Some-clause-goes
returns-in_ok-restored-in-Ok-Some-clause-goes g c = λ more.
    let head = rw c.in-Ok-Some.field-0-is at c.in-Ok-Some.ensures in
    begun_at c.args.version c.args.limits c.args.bytes.now c.in-Ok-Some.rest.now more c.in-Ok-Some.moment c.in-Ok-Some.count c.new-table.result c.new-table.ensures (head more) ∙ c.in_ok-restored-in-Ok-Some.ensures.goes c.args.limits more

pub returns-in_ok-restored-in-Ok-Some-clause-waits : goal.returns-in_ok-restored-in-Ok-Some-clause-waits
returns-in_ok-restored-in-Ok-Some-clause-waits g c = c.in_ok-restored-in-Ok-Some.ensures.waits
