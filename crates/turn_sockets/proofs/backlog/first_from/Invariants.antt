use Rattle.std.proofs.Common.{◌≡◌, ◌<◌, ◌≤◌, ℕ, false}
use Rattle.turn_sockets.specs.Backlog.{has_some}
use Rattle.turn_sockets.proofs.backlog.first_from.Given as goal

abbrev pub invariant-loop-place : goal.invariant-loop-place
invariant-loop-place g l = (k : ℕ) → l.first ≤ k → k < l.place → has_some l.queues k ≡ false
