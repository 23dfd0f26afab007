use Rattle.turn_sockets.proofs.Fair.{fresh_first}
use Rattle.turn_sockets.proofs.schedule.fresh_sockets_come_first.Goals as goal

pub returns : goal.returns
returns c = fresh_first
