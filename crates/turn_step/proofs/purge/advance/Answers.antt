use Rattle.std.proofs.Common.{rules}
use Rattle.turn_step.proofs.purge.advance.Goals as goal

pub returns-else-lt-clause-table : goal.returns-else-lt-clause-table
returns-else-lt-clause-table g c = search rules
