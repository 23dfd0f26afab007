use Rattle.std.proofs.Common.{rules}
use Rattle.turn_types.proofs.config.refusal.Goals as goal

pub returns-then-quota-lt1 : goal.returns-then-quota-lt1
returns-then-quota-lt1 c = search rules
