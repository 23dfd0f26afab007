use Rattle.std.proofs.Common.{◌≡◌, drop}
use Rattle.turn_serving.proofs.Held.{IsBinding}
use Rattle.turn_serving.proofs.start.bind_reserved.Given as goal

abbrev pub invariant-loop-port : goal.invariant-loop-port
invariant-loop-port g l = record {
  ip : l.sockets.binder.ip ≡ l.fn.sockets.binder.ip;
  first : l.sockets.first ≡ l.fn.sockets.first;
  last : l.sockets.last ≡ l.fn.sockets.last;
  draws : l.sockets.draws ≡ l.fn.sockets.draws;
  binding : IsBinding (λ s. s.0) l.fn.sockets.sockets l.sockets.sockets (drop l.port-index l.reserved) l.reserved;
}
