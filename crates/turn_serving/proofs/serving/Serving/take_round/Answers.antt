use Rattle.std.proofs.Common.{ap, refl, ◌∙◌}
use Rattle.turn_serving.proofs.Events.{advanced_idle, always, looked, takes_round}
use Rattle.turn_serving.proofs.Visiting.{not_ok}
use Rattle.turn_serving.proofs.serving.Serving.take_round.Goals as goal

pub returns-in_err-begin_round-clause-does : goal.returns-in_err-begin_round-clause-does
returns-in_err-begin_round-clause-does g c = looked _ (not_ok _ c.from_residual.result c.from_residual.ensures.1) c.begin_round.ensures.rest

pub returns-in_err-moment-clause-does : goal.returns-in_err-moment-clause-does
returns-in_err-moment-clause-does g c = looked _ (not_ok _ c.from_residual-in_err-moment.result c.from_residual-in_err-moment.ensures.1) c.begin_round.ensures.rest

pub returns-clause-does : goal.returns-clause-does
returns-clause-does g c =
    takes_round c.begin_round.ensures.rest c.in_ok-begin_round.ensures.begun.0 c.in_ok-begin_round.ensures.begun.1 c.requires.runs c.in_ok-moment.ensures.is_one (c.self.view_is ∙ c.refresh.ensures) c.advance.ensures.call c.read_round.ensures.visits
    c.read_round.ensures.rest

pub returns-clause-idle : goal.returns-clause-idle
returns-clause-idle g c idle =
    always c.read_round.result
    (advanced_idle (ap (λ s. s.server) (c.self.view_is ∙ c.refresh.ensures ∙ c.begin_round.ensures.rest)) c.advance.ensures.call (ap (λ s. s.server) c.read_round.ensures.rest) idle)
