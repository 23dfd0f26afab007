use Rattle.std.proofs.Common.{rules}
use Rattle.turn_sockets.proofs.ports.SocketPortsRelayAddressGenerator.release.Goals as goal

pub returns-clause-updated : goal.returns-clause-updated
returns-clause-updated g c = search rules
