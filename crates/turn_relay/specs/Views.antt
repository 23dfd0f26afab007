-- What contracts see of the code's data.
use Rattle.turn_relay.specs.declared.client.ToPeer.{ToPeer}
use Rattle.turn_relay.specs.declared.peer.ToClient.{ToClient}
use Rattle.turn_relay.specs.FromClient.{PeerData}
use Rattle.turn_relay.specs.FromPeer.{ClientData}

-- data for a peer as the definitions have it
abbrev pub peer_data : ToPeer → PeerData
peer_data t = record { port = t.port; peer = t.peer; payload = t.bytes.now }

-- data for a client as the definitions have it
abbrev pub client_data : ToClient → ClientData
client_data t = record { five_tuple = t.five_tuple; channel = t.channel; peer = t.peer; payload = t.bytes.now }
