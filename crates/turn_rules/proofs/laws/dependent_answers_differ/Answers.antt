use Rattle.turn_rules.proofs.Differing.{dependent_differ}
use Rattle.turn_rules.proofs.laws.dependent_answers_differ.Goals as goal

pub returns : goal.returns
returns c = dependent_differ
