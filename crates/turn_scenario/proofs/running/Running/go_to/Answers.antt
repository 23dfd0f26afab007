use Rattle.std.proofs.Common.{rules}
use Rattle.turn_scenario.proofs.running.Running.go_to.Goals as goal

pub returns-clause-ok : goal.returns-clause-ok
returns-clause-ok g c = search rules
