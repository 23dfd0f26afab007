use Rattle.std.proofs.Common.{rules}
use Rattle.turn_types.proofs.message.Method.known.Goals as goal

pub returns : goal.returns
returns c = search rules
