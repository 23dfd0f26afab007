use Rattle.std.proofs.Common.{arith, refl}
use Rattle.std.proofs.lemmas.Result.{on_ok_weaker}
use Rattle.turn_serving.proofs.Events.{does_in_row, does_less}
use Rattle.turn_serving.proofs.Moments.{moments_in_row}
use Rattle.turn_serving.proofs.serving.Serving.take_each.Goals as goal

pub returns-clause-does : goal.returns-clause-does
returns-clause-does g c = does_less {least = 2} (λ d. d) (omega arith) (does_in_row {least = 1} {more = 1} (λ d. refl) c.in_ok-tally.ensures.does c.take_round-3.ensures.does)

pub returns-clause-current : goal.returns-clause-current
returns-clause-current g c = on_ok_weaker c.take_round-3.result (λ later. moments_in_row c.in_ok-tally.ensures.current later) c.take_round-3.ensures.current
