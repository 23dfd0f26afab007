use Rattle.std.proofs.Common.{rules}
use Rattle.turn_sockets.proofs.buffer.DataIds.next.Goals as goal

pub returns-clause-count : goal.returns-clause-count
returns-clause-count c = search rules
