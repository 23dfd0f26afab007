use Rattle.turn_player.proofs.Versions.{go_on_reserving, running_in}
use Rattle.turn_player.proofs.laws.servers_go_on_reserving_ports.Goals as goal

pub returns-clause-begins : goal.returns-clause-begins
returns-clause-begins g c = λ form s server sure recent pairs at m runs version reserves. record {
  pairs = reserves;
  version = version;
  images = running_in g.D.Disk g.H.AuthHandler g.G.RelayAddressGenerator form s server sure recent pairs at m runs version;
}

pub returns-clause-goes_on : goal.returns-clause-goes_on
returns-clause-goes_on g c = λ form s p w v inputs said same. go_on_reserving g.D.Disk g.H.AuthHandler g.G.RelayAddressGenerator form s same p w v inputs said
