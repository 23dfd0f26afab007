use Rattle.turn_engine.proofs.Runs.{lasts, stops}
use Rattle.turn_engine.proofs.laws.stops_keep_what_was_handed_out.Goals as goal

pub returns-clause-calls : goal.returns-clause-calls
returns-clause-calls g c = stops g.D.Disk g.H.AuthHandler g.G.RelayAddressGenerator

pub returns-clause-datagrams : goal.returns-clause-datagrams
returns-clause-datagrams g c = lasts g.D.Disk g.H.AuthHandler g.G.RelayAddressGenerator
