use Rattle.std.proofs.Common.{Some, ap, refl, sym, ◌∙◌}
use Rattle.turn_serving.specs.Reading.{MeanwhileState}
use Rattle.turn_serving.proofs.Visiting.{beside_round}
use Rattle.turn_serving.proofs.meanwhile.MeanwhileWhileCommitting.pass.Goals as goal

pub returns-in-Ok : goal.returns-in-Ok
returns-in-Ok g c = beside_round c.self.view_is c.in-Ok.ensures refl (λ none. (refl, sym c.round.ensures.fault ∙ none))

pub returns-in-Err : goal.returns-in-Err
returns-in-Err g c = beside_round c.self.view_is c.round.ensures (ap (λ (s : MeanwhileState). record s { fault = Some c.in-Err.fault }) c.self-2.view_is) (λ none. absurd (cc))
