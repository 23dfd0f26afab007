use Rattle.turn_sockets.proofs.Fair.{none_starves}
use Rattle.turn_sockets.proofs.schedule.no_socket_starves.Goals as goal

pub returns : goal.returns
returns c = none_starves
