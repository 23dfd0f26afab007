use Rattle.turn_serving.proofs.Held.{have_sockets}
use Rattle.turn_serving.proofs.start.Setup.bind_ports.Goals as goal

pub returns-clause-held : goal.returns-clause-held
returns-clause-held g c =
    have_sockets c.args.table.now.contents c.new-sockets.result.sockets c.bind_allocated.new.sockets.sockets c.bind_reserved.new.sockets.sockets c.new-sockets.ensures.empty c.in_ok-bind_allocated.ensures.bound
    (rw c.reserved_ports.ensures at c.in_ok-bind_reserved.ensures.bound)
