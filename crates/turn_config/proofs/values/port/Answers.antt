use Rattle.std.proofs.Common.{rules}
use Rattle.turn_config.proofs.values.port.Goals as goal

pub returns : goal.returns
returns c = search rules
