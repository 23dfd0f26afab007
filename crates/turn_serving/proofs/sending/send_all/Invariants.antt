use Rattle.std.proofs.Common.{◌≡◌, ◌++◌, List, drop, map}
use Rattle.turn_sockets.specs.Wire.{Passed}
use Rattle.turn_step.specs.Prelude.{sent_of}
use Rattle.turn_serving.specs.Sending.{SendsEach, addresses_of, port_sockets}
use Rattle.turn_serving.proofs.sending.send_all.Given as goal

-- so much was sent, and with what is sent of the rest it is what is sent of all
abbrev pub invariant-loop-datagram : goal.invariant-loop-datagram
invariant-loop-datagram g l =
    (out : List Passed) × (l.«record».passed ≡ l.fn.«record».passed ++ out)
    × ((more : List Passed) → SendsEach (port_sockets g.G.RelaySockets.has_socket g.G.RelaySockets.bound) (addresses_of l.listening.sockets.items l.listening.own) l.server.machine.ports (map sent_of (drop l.datagram-index l.outgoing)) more
    → SendsEach (port_sockets g.G.RelaySockets.has_socket g.G.RelaySockets.bound) (addresses_of l.listening.sockets.items l.listening.own) l.server.machine.ports (map sent_of l.outgoing) (out ++ more))
