use Rattle.std.proofs.Common.{subst}
use Rattle.turn_step.specs.Prelude.{arrival_of}
use Rattle.turn_engine.specs.Prelude.{IsApart, IsBehind, is_of_another, is_staged}
use Rattle.turn_engine.proofs.Besides.{not_false, not_true}
use Rattle.turn_engine.proofs.beside.Beside.is_apart.Goals as goal

pub returns-in-Some-clause-apart : goal.returns-in-Some-clause-apart
returns-in-Some-clause-apart g c = λ is.
    subst (λ v. IsApart v.machine.table.contents v.tuples (arrival_of c.args.arrival.now)) c.self.view_is
    (is_of_another c.in-Some.owner c.in-Some.ensures.some (c.has_tuple.ensures.none (not_true _ is)))

pub returns-in-Some-clause-behind : goal.returns-in-Some-clause-behind
returns-in-Some-clause-behind g c = λ is.
    subst (λ v. IsBehind v.machine.table.contents v.tuples (arrival_of c.args.arrival.now)) c.self.view_is
    (is_staged c.in-Some.owner c.in-Some.ensures.some (c.has_tuple.ensures.some (not_false _ is)))
