use Rattle.std.proofs.Common.{rules}
use Rattle.turn_faults.proofs.files.read_rest.Goals as goal

pub returns-clause-bytes : goal.returns-clause-bytes
returns-clause-bytes g c = search rules
