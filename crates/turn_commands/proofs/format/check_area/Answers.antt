use Rattle.std.proofs.Common.{rules}
use Rattle.turn_commands.proofs.format.check_area.Goals as goal

pub returns-clause-ok : goal.returns-clause-ok
returns-clause-ok c = search rules
