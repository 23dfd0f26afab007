use Rattle.std.proofs.Common.{sym}
use Rattle.turn_record.specs.Prelude.{head_at}
use Rattle.turn_record.proofs.Onward.{front_head, next_ok, next_err}
use Rattle.turn_record.proofs.snapshot_progress.next_head.Goals as goal

pub returns-in-Ok : goal.returns-in-Ok
returns-in-Ok c = next_ok (head_at c.args.limits) (front_head _) c.args.bytes.now _ _ c.in-Ok.ensures

pub returns-else-is_short : goal.returns-else-is_short
returns-else-is_short c = next_err (head_at c.args.limits) (front_head _) c.args.bytes.now c.in-Err-Malformed.fault (rw c.in-Err-Malformed.field-0-is at c.in-Err-Malformed.ensures) (sym c.if-is_short.ensures)
