use Rattle.std.proofs.Common.{rules}
use Rattle.turn_codec.specs.Prelude.{seen_value}
use Rattle.turn_codec.proofs.message.Message.seen_value.Goals as goal

pub returns : goal.returns
unfolding seen_value
returns c = search rules
