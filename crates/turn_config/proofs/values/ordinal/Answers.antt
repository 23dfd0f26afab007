use Rattle.std.proofs.Common.{rules}
use Rattle.turn_config.proofs.values.ordinal.Goals as goal

pub returns-then-ordinal-eq0 : goal.returns-then-ordinal-eq0
returns-then-ordinal-eq0 c = search rules
