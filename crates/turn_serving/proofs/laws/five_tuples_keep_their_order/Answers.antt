use Rattle.turn_serving.proofs.Order.{does_in_order}
use Rattle.turn_serving.proofs.laws.five_tuples_keep_their_order.Goals as goal

pub returns : goal.returns
returns g c = λ system least done old new does f. does_in_order does f
