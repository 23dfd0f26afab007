use Rattle.std.proofs.Common.{length, ap, arith}
use Rattle.turn_record.specs.Prelude.{entry}
use Rattle.turn_record.proofs.Appended.{first_taken}
use Rattle.turn_record.proofs.SnapshotSizes.{some_bytes}
use Rattle.turn_record.proofs.snapshot_items.Unwritten.hold_next.Goals as goal

pub returns-in-Some-clause-next : goal.returns-in-Some-clause-next
returns-in-Some-clause-next g c = λ _.
    let v = c.self.inside.version in (
      first_taken (entry v) (c.in-Some.tuple, c.in-Some.kept.now.entry) c.next.new.self c.self.inside.entries c.hold.new.self c.self.inside.ports c.args.self.now c.hold.ensures c.in-Some.ensures.steps c.self.view_is,
      omega (arith, ap length c.hold.ensures, some_bytes v c.in-Some.tuple c.in-Some.kept.now.entry),
    )
