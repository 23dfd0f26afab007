use Rattle.std.proofs.Common.{rules}
use Rattle.turn_player.proofs.player.later_of.Goals as goal

pub returns-then-lt : goal.returns-then-lt
returns-then-lt c = search rules
