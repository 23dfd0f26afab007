use Rattle.std.proofs.Common.{rules}
use Rattle.turn_rules.specs.Prelude.{credential_outcome}
use Rattle.turn_step.proofs.request.check_credentials.Goals as goal

pub returns-clause-value : goal.returns-clause-value
unfolding credential_outcome
returns-clause-value g c = search rules
