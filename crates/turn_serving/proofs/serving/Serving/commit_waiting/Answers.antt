use Rattle.std.proofs.Common.{refl}
use Rattle.turn_serving.proofs.Events.{does_failed, does_in_row, stays_current}
use Rattle.turn_serving.proofs.Visiting.{not_ok}
use Rattle.turn_serving.proofs.serving.Serving.commit_waiting.Goals as goal

pub share_batch-requires-clause-current : goal.share_batch-requires-clause-current
share_batch-requires-clause-current g c = stays_current c.requires.current c.submit_waiting.ensures.does

pub returns-in_err-share_batch-clause-does : goal.returns-in_err-share_batch-clause-does
returns-in_err-share_batch-clause-does g c =
    does_failed {least = 0} (not_ok _ c.from_residual-in_err-share_batch.result c.from_residual-in_err-share_batch.ensures.1) (does_in_row {least = 0} {more = 0} (λ d. refl) c.in_ok-count.ensures.does c.share_batch.ensures.does)

pub commit_staged-requires-clause-current : goal.commit_staged-requires-clause-current
commit_staged-requires-clause-current g c = stays_current (stays_current c.requires.current c.submit_waiting.ensures.does) c.share_batch.ensures.does

pub returns-clause-does : goal.returns-clause-does
returns-clause-does g c =
    does_in_row {least = 0} {more = 0} (λ d. refl) (does_in_row {least = 0} {more = 0} (λ d. refl) c.in_ok-count.ensures.does c.in_ok-share_batch.ensures.does) c.commit_staged.ensures.does
