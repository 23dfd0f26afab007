use Rattle.turn_codec.proofs.Values.{values_are_bytes}
use Rattle.turn_codec.proofs.laws.values_are_bytes.Goals as goal

pub returns : goal.returns
returns c = λ bytes m h s. values_are_bytes bytes m h s
