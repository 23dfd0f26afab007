use Rattle.std.proofs.Common.{length, ap, refl, arith}
use Rattle.std.specs.FinMap.{len-entries}
use Rattle.turn_record.specs.Prelude.{reserved}
use Rattle.turn_record.proofs.SnapshotSizes.{size_reserved}
use Rattle.turn_record.proofs.snapshot_writer.reserved_size.Goals as goal

pub returns-in-V1-clause-size : goal.returns-in-V1-clause-size
unfolding reserved
returns-in-V1-clause-size g c = rw c.in-V1.is refl

pub returns-in-V2-clause-size : goal.returns-in-V2-clause-size
returns-in-V2-clause-size g c =
    let s = c.args.table.now in
    rw c.in-V2.is (omega (arith, size_reserved s.contents s.moment c.moment-moment.ensures.at.reserved, ap length c.reserved_ports.ensures, len-entries s.contents.reserved))

pub returns-in-V2-clause-small : goal.returns-in-V2-clause-small
returns-in-V2-clause-small g c =
    let s = c.args.table.now in
    omega (arith, ap length c.reserved_ports.ensures, len-entries s.contents.reserved, c.moment-moment.ensures.at.within.reserved, c.limits-limits.ensures.range.allocations.1)
