use Rattle.std.proofs.Common.{arith}
use Rattle.std.proofs.lemmas.Grind.{common_steps}
use Rattle.turn_config.proofs.values.split_once.Goals as goal

pub returns-clause-parts : goal.returns-clause-parts
returns-clause-parts c = grind (arith, common_steps)
