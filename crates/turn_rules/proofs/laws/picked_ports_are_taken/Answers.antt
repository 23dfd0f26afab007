use Rattle.turn_rules.proofs.Taking.{decision_takes}
use Rattle.turn_rules.proofs.laws.picked_ports_are_taken.Goals as goal

pub returns : goal.returns
returns c = decision_takes
