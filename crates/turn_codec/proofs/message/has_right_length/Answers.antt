use Rattle.std.proofs.Common.{rules}
use Rattle.turn_codec.proofs.message.has_right_length.Goals as goal

pub returns-then-length-eq0 : goal.returns-then-length-eq0
returns-then-length-eq0 c = search rules
