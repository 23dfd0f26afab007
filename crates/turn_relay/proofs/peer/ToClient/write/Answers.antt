use Rattle.std.proofs.Common.{rules}
use Rattle.turn_relay.specs.FromPeer.{client_datagram}
use Rattle.turn_relay.proofs.peer.ToClient.write.Goals as goal

pub returns-in-None-clause-bytes : goal.returns-in-None-clause-bytes
unfolding client_datagram
returns-in-None-clause-bytes g c = search rules
