use Rattle.std.proofs.Common.{rules}
use Rattle.turn_requests.proofs.Sizes.{long_front}
use Rattle.turn_requests.proofs.request.Unsigned.push_all.Goals as goal

pub returns-in_err-push_attribute-clause-too_long : goal.returns-in_err-push_attribute-clause-too_long
returns-in_err-push_attribute-clause-too_long g c = λ h.
    long_front _ _ _ _ _ c.loop-attribute-test.true c.loop-attribute.invariant (c.in_err-push_attribute.ensures.too_long (search rules))
