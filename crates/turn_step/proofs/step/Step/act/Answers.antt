use Rattle.std.proofs.Common.{rules}
use Rattle.turn_step.proofs.step.Step.act.Goals as goal

pub returns-in-Some : goal.returns-in-Some
returns-in-Some g c = search rules
