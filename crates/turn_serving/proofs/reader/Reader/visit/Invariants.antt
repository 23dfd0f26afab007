use Rattle.std.proofs.Common.{◌≤◌}
use Rattle.turn_serving.specs.Manner.{reads_of}
use Rattle.turn_serving.specs.Sending.{addresses_of, port_sockets}
use Rattle.turn_serving.specs.Visits.{flow}
use Rattle.turn_serving.proofs.Visiting.{HaveTaken}
use Rattle.turn_serving.proofs.reader.Reader.visit.Given as goal

-- so many datagrams were taken
abbrev pub invariant-loop-read : goal.invariant-loop-read
invariant-loop-read g l =
    HaveTaken g.H.AuthHandler g.G.RelayAddressGenerator (port_sockets g.G.RelaySockets.has_socket g.G.RelaySockets.bound)
    (addresses_of l.self.listening.now.sockets.items l.self.listening.now.own) l.beside l.token l._read (flow l.fn.intake.backlog l.fn.intake.«record».passed) (flow l.intake.backlog l.intake.«record».passed)
    × (l._read ≤ reads_of l.self.manner)
