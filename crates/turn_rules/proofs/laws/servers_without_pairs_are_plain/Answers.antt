use Rattle.turn_rules.proofs.Plain.{is_plain}
use Rattle.turn_rules.proofs.laws.servers_without_pairs_are_plain.Goals as goal

pub returns : goal.returns
returns c = is_plain
