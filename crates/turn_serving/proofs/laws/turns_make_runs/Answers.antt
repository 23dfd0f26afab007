use Rattle.std.proofs.Common.{sym, subst}
use Rattle.turn_engine.proofs.Runs.{goes_on}
use Rattle.turn_serving.proofs.Starts.{begins}
use Rattle.turn_serving.proofs.laws.turns_make_runs.Goals as goal

pub returns-clause-starts : goal.returns-clause-starts
returns-clause-starts g c = begins g.D.Disk g.H.AuthHandler g.G.RelayAddressGenerator

pub returns-clause-goes_on : goal.returns-clause-goes_on
returns-clause-goes_on g c = λ s h t system old new p is turn crash_model.
    goes_on g.D.Disk g.H.AuthHandler g.G.RelayAddressGenerator s h t old p turn.steps is turn.serves (subst (λ x. g.D.Disk.follows_crash_model x.store.disk) (sym turn.last) crash_model)
