use Rattle.std.proofs.Common.{rules}
use Rattle.turn_config.proofs.values.octet.Goals as goal

pub returns : goal.returns
returns c = search rules
