use Rattle.turn_engine.proofs.Runs.{goes_on, opened, silent, starts}
use Rattle.turn_engine.proofs.laws.servers_make_runs.Goals as goal

pub returns-clause-opened : goal.returns-clause-opened
returns-clause-opened g c = opened g.D.Disk g.H.AuthHandler g.G.RelayAddressGenerator

pub returns-clause-starts : goal.returns-clause-starts
returns-clause-starts g c = starts g.D.Disk g.H.AuthHandler g.G.RelayAddressGenerator

pub returns-clause-goes_on : goal.returns-clause-goes_on
returns-clause-goes_on g c = goes_on g.D.Disk g.H.AuthHandler g.G.RelayAddressGenerator

pub returns-clause-failed : goal.returns-clause-failed
returns-clause-failed g c = λ old new fault steps call serves. silent g.D.Disk g.H.AuthHandler g.G.RelayAddressGenerator new steps call.stops serves
