use Rattle.std.proofs.Common.{◌≡◌, ◌≤◌, length}
use Rattle.turn_sockets.proofs.held.take_held.Given as goal

abbrev pub invariant-loop-place : goal.invariant-loop-place
invariant-loop-place g l = (length l.sockets.items ≡ l.place) × (l.fn.count ≤ 64)
