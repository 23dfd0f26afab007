use Rattle.std.proofs.Common.{rules}
use Rattle.turn_step.proofs.step.Step.into_parts.Goals as goal

pub returns : goal.returns
returns g c = search rules
