use Rattle.std.proofs.Common.{rules}
use Rattle.turn_config.proofs.lines.put.Goals as goal

pub returns-clause-done : goal.returns-clause-done
returns-clause-done g c = search rules
