use Rattle.std.proofs.Common.{◌≡◌}
use Rattle.turn_serving.proofs.start.bind.Given as goal

abbrev pub invariant-loop-attempt : goal.invariant-loop-attempt
invariant-loop-attempt g l = record {
  ip : l.sockets.binder.ip ≡ l.fn.sockets.binder.ip;
  first : l.sockets.first ≡ l.fn.sockets.first;
  last : l.sockets.last ≡ l.fn.sockets.last;
  draws : l.sockets.draws ≡ l.fn.sockets.draws;
  same : l.sockets.sockets.entries ≡ l.fn.sockets.sockets.entries;
}
