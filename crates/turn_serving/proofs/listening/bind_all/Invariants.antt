use Rattle.std.proofs.Common.{◌≡◌, ◌≤◌, length, take}
use Rattle.turn_serving.specs.Listening.{AreBoundFor}
use Rattle.turn_serving.proofs.listening.bind_all.Given as goal

-- the addresses so far are those of the sockets
abbrev pub invariant-loop-place : goal.invariant-loop-place
invariant-loop-place g l = record {
  long : length l.listening ≡ l.count;
  known : l.place ≤ l.count;
  bound : l.sockets.items ≡ take l.place l.listening;
  asked : AreBoundFor l.fn.listening l.listening;
}
