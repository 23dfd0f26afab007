use Rattle.turn_engine.proofs.Held.{stay_held}
use Rattle.turn_engine.proofs.laws.ports_stay_held.Goals as goal

pub returns : goal.returns
returns g c = stay_held g.D.Disk g.H.AuthHandler g.G.RelayAddressGenerator
