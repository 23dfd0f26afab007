use Rattle.std.proofs.Common.{rules}
use Rattle.turn_faults.proofs.error.ProgramError.status.Goals as goal

pub returns-in-Memory : goal.returns-in-Memory
returns-in-Memory c = search rules
