use Rattle.std.proofs.Common.{rules}
use Rattle.turn_record.specs.Prelude.{act_in}
use Rattle.turn_record.proofs.read.whole_act.Goals as goal

pub returns : goal.returns
unfolding act_in
returns g c = search rules
