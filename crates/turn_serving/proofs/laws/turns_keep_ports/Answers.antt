use Rattle.turn_serving.proofs.Turns.{held}
use Rattle.turn_serving.proofs.laws.turns_keep_ports.Goals as goal

pub returns : goal.returns
returns g c = λ system old new turn. held turn
