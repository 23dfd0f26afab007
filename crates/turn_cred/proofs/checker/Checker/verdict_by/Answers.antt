use Rattle.std.proofs.Common.{rules}
use Rattle.turn_cred.specs.Prelude.{verdict}
use Rattle.turn_cred.proofs.checker.Checker.verdict_by.Goals as goal

pub returns : goal.returns
unfolding verdict
returns g c = search rules
