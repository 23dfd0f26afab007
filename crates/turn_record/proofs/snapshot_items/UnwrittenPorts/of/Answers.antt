use Rattle.std.proofs.Common.{length, ap, arith}
use Rattle.std.specs.FinMap.{len-entries}
use Rattle.turn_record.proofs.SnapshotSizes.{reserved_are}
use Rattle.turn_record.proofs.snapshot_items.UnwrittenPorts.of.Goals as goal

pub overflow_cast-result : goal.overflow_cast-result
overflow_cast-result g c = omega (arith, ap length c.reserved_ports-ports.ensures, len-entries c.args.table.now.contents.reserved, c.requires)

pub returns-in-V2 : goal.returns-in-V2
returns-in-V2 g c = rw c.in-V2.is (reserved_are c.reserved_ports-ports.result.now c.args.table.now.contents.reserved c.reserved_ports-ports.ensures)
