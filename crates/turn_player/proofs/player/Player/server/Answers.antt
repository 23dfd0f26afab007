use Rattle.std.proofs.Common.{rules}
use Rattle.turn_player.proofs.player.Player.server.Goals as goal

pub returns-then-is_stopped-clause-found : goal.returns-then-is_stopped-clause-found
returns-then-is_stopped-clause-found g c = search rules
