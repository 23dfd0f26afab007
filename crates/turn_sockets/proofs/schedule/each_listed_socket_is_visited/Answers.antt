use Rattle.turn_sockets.proofs.Fair.{each_visited}
use Rattle.turn_sockets.proofs.schedule.each_listed_socket_is_visited.Goals as goal

pub returns : goal.returns
returns c = each_visited
