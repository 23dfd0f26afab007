use Rattle.std.proofs.Common.{rules}
use Rattle.turn_rules.specs.Prelude.{credential_outcome}
use Rattle.turn_step.proofs.request.peek_credentials.Goals as goal

pub returns : goal.returns
unfolding credential_outcome
returns g c = search rules
