use Rattle.std.proofs.lemmas.Result.{err_from_is_err_and}
use Rattle.turn_record.proofs.Onward.{ended, ended_in}
use Rattle.turn_record.proofs.snapshot_reader.whole_snapshot.Goals as goal

pub returns-in_err-restored-clause-fault : goal.returns-in_err-restored-clause-fault
returns-in_err-restored-clause-fault g c =
    let p = err_from_is_err_and c.from_residual.result c.from_residual.ensures.1 in
    rw (p.1, p.2) (ended_in c.args.version c.args.limits c.in_err-restored.field-0.0 c.args.bytes.now c.in_err-restored.ensures.goes)

pub returns-clause-fault : goal.returns-clause-fault
returns-clause-fault g c =
    rw (ended c.args.version c.args.limits c.in_ok-restored.restored c.args.bytes.now c.in_ok-restored.field-0-1.now c.in_ok-restored.ensures.goes) (c.conclude.ensures.gives c.args.limits c.in_ok-restored.field-0-1.now c.in_ok-restored.ensures.waits)

pub returns-clause-limits : goal.returns-clause-limits
returns-clause-limits g c = c.conclude.ensures.bounds c.args.limits (c.in_ok-restored.ensures.bounds tt)
