use Rattle.std.proofs.Common.{rules}
use Rattle.turn_disk.proofs.memory.put_part.Goals as goal

pub returns-in-Half-clause-content : goal.returns-in-Half-clause-content
returns-in-Half-clause-content g c = search rules
