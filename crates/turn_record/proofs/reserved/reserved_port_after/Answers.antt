use Rattle.std.proofs.Common.{sym}
use Rattle.turn_record.proofs.Reserves.{above_reserved}
use Rattle.turn_record.proofs.reserved.reserved_port_after.Goals as goal

pub returns-clause-above : goal.returns-clause-above
returns-clause-above g c = above_reserved c.args.table.now.contents c.in_ok-port.port (sym c.if-not-is_above_last.ensures)
