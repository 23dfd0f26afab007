use Rattle.std.proofs.Common.{refl, ◌∙◌}
use Rattle.turn_serving.proofs.Events.{does_failed, does_in_row, does_nothing, stays_current}
use Rattle.turn_serving.proofs.Visiting.{not_ok}
use Rattle.turn_serving.proofs.serving.Serving.commit_due.Goals as goal

pub loop-commit-init : goal.loop-commit-init
loop-commit-init g c = record { does = does_nothing refl; done = λ idle. idle; runs = c.requires.runs; manner = refl }

pub commit_waiting-requires-clause-current : goal.commit_waiting-requires-clause-current
commit_waiting-requires-clause-current g c = stays_current c.requires.current c.loop-commit.invariant.does

pub loop-commit-preserved : goal.loop-commit-preserved
loop-commit-preserved g c =
    let before = c.loop-commit.invariant in
    record {
      does = does_in_row {least = 0} {more = 0} (λ d. d) before.does c.in_ok-commit_waiting.ensures.does;
      done = λ idle. c.in_ok-commit_waiting.ensures.done;
      runs = c.in_ok-commit_waiting.ensures.runs;
      manner = c.in_ok-commit_waiting.ensures.manner ∙ before.manner;
    }

pub returns-in_err-commit_waiting-clause-does : goal.returns-in_err-commit_waiting-clause-does
returns-in_err-commit_waiting-clause-does g c =
    does_failed {least = 0} (not_ok _ c.from_residual.result c.from_residual.ensures.1) (does_in_row {least = 0} {more = 0} (λ d. refl) c.loop-commit.invariant.does c.commit_waiting.ensures.does)

pub returns-then-not-is_due-clause-does : goal.returns-then-not-is_due-clause-does
returns-then-not-is_due-clause-does g c = c.loop-commit.invariant.does

pub returns-then-not-is_due-clause-done : goal.returns-then-not-is_due-clause-done
returns-then-not-is_due-clause-done g c = c.loop-commit.invariant.done

pub returns-then-not-is_due-clause-runs : goal.returns-then-not-is_due-clause-runs
returns-then-not-is_due-clause-runs g c = c.loop-commit.invariant.runs

pub returns-then-not-is_due-clause-manner : goal.returns-then-not-is_due-clause-manner
returns-then-not-is_due-clause-manner g c = c.loop-commit.invariant.manner

pub commit_waiting-requires-clause-runs : goal.commit_waiting-requires-clause-runs
commit_waiting-requires-clause-runs g c = c.loop-commit.invariant.runs

pub returns-in_err-commit_waiting-clause-manner : goal.returns-in_err-commit_waiting-clause-manner
returns-in_err-commit_waiting-clause-manner g c = c.commit_waiting.ensures.manner ∙ c.loop-commit.invariant.manner

pub returns-clause-does : goal.returns-clause-does
returns-clause-does g c = c.loop-commit.invariant.does

pub returns-clause-done : goal.returns-clause-done
returns-clause-done g c = c.loop-commit.invariant.done

pub returns-clause-runs : goal.returns-clause-runs
returns-clause-runs g c = c.loop-commit.invariant.runs

pub returns-clause-manner : goal.returns-clause-manner
returns-clause-manner g c = c.loop-commit.invariant.manner
