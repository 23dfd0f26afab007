use Rattle.turn_record.specs.Prelude.{total_at}
use Rattle.turn_record.proofs.Onward.{front_total, next_of}
use Rattle.turn_record.proofs.snapshot_progress.next_total.Goals as goal

pub returns : goal.returns
returns c = rw c.if_whole.ensures (next_of _ _ (total_at c.args.limits) (front_total _) c.args.bytes.now c.total_of.result c.total_of.ensures)
