use Rattle.turn_serving.proofs.Order.{in_rounds}
use Rattle.turn_serving.proofs.laws.sockets_are_visited_in_rounds.Goals as goal

pub returns : goal.returns
returns g c = λ system least old new does paced. in_rounds does paced
