use Rattle.turn_step.proofs.Beginnings.{data_same}
use Rattle.turn_step.proofs.laws.data_stands_alone.Goals as goal

pub returns : goal.returns
returns c = λ s b h k. data_same h k s b
