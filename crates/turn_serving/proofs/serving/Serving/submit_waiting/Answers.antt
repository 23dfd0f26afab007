use Rattle.std.proofs.Common.{refl, ◌∙◌}
use Rattle.turn_serving.proofs.Events.{does_in_row, does_nothing, does_told}
use Rattle.turn_serving.proofs.serving.Serving.submit_waiting.Goals as goal

pub returns-in_err-moment-clause-does : goal.returns-in_err-moment-clause-does
returns-in_err-moment-clause-does g c = does_nothing refl

pub loop-count-init : goal.loop-count-init
loop-count-init g c = record { does = does_nothing refl; in_time = c.in_ok-moment.ensures.late; store = refl; manner = refl }

pub loop-count-preserved : goal.loop-count-preserved
loop-count-preserved g c =
    let before = c.loop-count.invariant in
    record {
      does = does_in_row {least = 0} {more = 0} (λ d. d) before.does c.submit_next.ensures.does;
      in_time = c.submit_next.ensures.in_time;
      store = c.submit_next.ensures.store ∙ before.store;
      manner = c.submit_next.ensures.manner ∙ before.manner;
    }

pub returns-then-not-submit_next-clause-does : goal.returns-then-not-submit_next-clause-does
returns-then-not-submit_next-clause-does g c = does_told c.in_ok-moment.ensures.is_one (does_in_row {least = 0} {more = 0} (λ d. d) c.loop-count.invariant.does c.submit_next.ensures.does)

pub returns-clause-does : goal.returns-clause-does
returns-clause-does g c = does_told c.in_ok-moment.ensures.is_one c.loop-count.invariant.does
