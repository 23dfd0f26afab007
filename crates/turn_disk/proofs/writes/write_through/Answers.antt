use Rattle.std.proofs.Common.{arith, length}
use Rattle.turn_disk.proofs.Since.{settled_but, since_through_but}
use Rattle.turn_disk.proofs.writes.write_through.Goals as goal

pub returns-clause-stop : goal.returns-clause-stop
returns-clause-stop g c = λ crash_model settled.
    let old = g.D.Disk.trace c.args.disk.now in
    let count = length c.args.bytes.now in
    since_through_but c.args.at count old.now.bytes old _ (settled_but c.args.at count old.now settled) c.args.at c.args.bytes.now (omega arith) (omega arith) _ (c.write_durably.ensures.outcome crash_model)
