use Rattle.std.proofs.Common.{rules}
use Rattle.turn_cli.proofs.command.fault_of.Goals as goal

pub returns-in-OutOfMemory-clause-memory : goal.returns-in-OutOfMemory-clause-memory
returns-in-OutOfMemory-clause-memory c = search rules
