use Rattle.std.proofs.Common.{arith, refl, true}
use Rattle.turn_serving.proofs.Events.{does_failed, does_in_row, does_less, does_nothing, looked, reads_round}
use Rattle.turn_serving.proofs.Visiting.{not_ok}
use Rattle.turn_serving.proofs.serving.Serving.share_batch.Goals as goal

pub returns-then-eq-clause-does : goal.returns-then-eq-clause-does
returns-then-eq-clause-does g c = does_nothing refl

pub returns-in_err-begin_round-clause-does : goal.returns-in_err-begin_round-clause-does
returns-in_err-begin_round-clause-does g c = looked _ (not_ok _ c.from_residual.result c.from_residual.ensures.1) c.begin_round.ensures.rest

pub returns-in_err-read_round-clause-does : goal.returns-in_err-read_round-clause-does
returns-in_err-read_round-clause-does g c =
    does_failed (not_ok _ c.from_residual-in_err-read_round.result c.from_residual-in_err-read_round.ensures.1)
    (reads_round c.begin_round.ensures.rest c.in_ok-begin_round.ensures.begun.0 c.in_ok-begin_round.ensures.begun.1 c.requires.runs c.requires.current c.read_round.ensures.visits c.read_round.ensures.rest)

pub returns-in_err-submit_waiting-clause-does : goal.returns-in_err-submit_waiting-clause-does
returns-in_err-submit_waiting-clause-does g c =
    does_failed {least = 1} (not_ok _ c.from_residual-in_err-submit_waiting.result c.from_residual-in_err-submit_waiting.ensures.1)
    (does_in_row {least = 1} {more = 0} (λ d. refl)
    (reads_round {done = true} c.begin_round.ensures.rest c.in_ok-begin_round.ensures.begun.0 c.in_ok-begin_round.ensures.begun.1 c.requires.runs c.requires.current c.in_ok-read_round.ensures.visits c.in_ok-read_round.ensures.rest)
    c.submit_waiting.ensures.does)

pub returns-clause-does : goal.returns-clause-does
returns-clause-does g c =
    does_less {least = 1} (λ d. d) (omega arith)
    (does_in_row {least = 1} {more = 0} (λ d. refl)
    (reads_round {done = true} c.begin_round.ensures.rest c.in_ok-begin_round.ensures.begun.0 c.in_ok-begin_round.ensures.begun.1 c.requires.runs c.requires.current c.in_ok-read_round.ensures.visits c.in_ok-read_round.ensures.rest)
    c.in_ok-submit_waiting.ensures.does)
