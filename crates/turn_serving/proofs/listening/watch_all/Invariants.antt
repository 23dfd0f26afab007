use Rattle.std.proofs.Common.{◌≡◌}
use Rattle.turn_serving.proofs.listening.watch_all.Given as goal

-- the sockets are at the same addresses
abbrev pub invariant-loop-place : goal.invariant-loop-place
invariant-loop-place l = l.sockets ≡ l.initial.sockets
