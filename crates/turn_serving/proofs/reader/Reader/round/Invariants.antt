use Rattle.std.proofs.Common.{◌+◌, length}
use Rattle.turn_serving.specs.Manner.{reads_of}
use Rattle.turn_serving.specs.Sending.{addresses_of, port_sockets}
use Rattle.turn_serving.specs.Visits.{flow}
use Rattle.turn_serving.proofs.Visiting.{HaveVisited}
use Rattle.turn_serving.proofs.reader.Reader.round.Given as goal

abbrev pub invariant-loop-token : goal.invariant-loop-token
invariant-loop-token g l =
    HaveVisited g.H.AuthHandler g.G.RelayAddressGenerator (port_sockets g.G.RelaySockets.has_socket g.G.RelaySockets.bound)
    (addresses_of l.self.listening.now.sockets.items l.self.listening.now.own) l.beside (reads_of l.self.manner) l.fn.schedule (flow l.fn.intake.backlog l.fn.intake.«record».passed) l.schedule (flow l.intake.backlog l.intake.«record».passed)

abbrev pub decreases-loop-token : goal.decreases-loop-token
decreases-loop-token g l = length l.schedule.fresh + l.schedule.left
