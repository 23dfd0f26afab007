use Rattle.std.proofs.Common.{refl}
use Rattle.turn_serving.proofs.Visiting.{no_round, not_ok, one_round}
use Rattle.turn_serving.proofs.meanwhile.Meanwhile.round.Goals as goal

pub returns-in_err-begin : goal.returns-in_err-begin
returns-in_err-begin g c = no_round c.self.view_is (not_ok _ c.from_residual.result c.from_residual.ensures.1) refl

pub returns-in_err-any : goal.returns-in_err-any
returns-in_err-any g c =
    one_round c.self.view_is (λ d. absurd (let no = not_ok _ c.from_residual-in_err-any.result c.from_residual-in_err-any.ensures.1 d in cc)) c.in_ok-begin.ensures.0 c.in_ok-begin.ensures.1 c.round.ensures refl

pub returns : goal.returns
returns g c = one_round c.self.view_is (λ d. d) c.in_ok-begin.ensures.0 c.in_ok-begin.ensures.1 c.in_ok-any.ensures refl
