use Rattle.turn_record.proofs.Kept.{snapshot-carried}
use Rattle.turn_record.proofs.laws.snapshots_carry_over.Goals as goal

pub returns : goal.returns
returns c = snapshot-carried
