use Rattle.turn_sockets.specs.Backlog.{AreApart, datagrams_at, has_queue}
use Rattle.std.proofs.Common.{◌≡◌, [], All, take, true}
use Rattle.turn_types.specs.declared.address.Endpoint.{Endpoint}
use Rattle.turn_sockets.proofs.backlog.Backlog.new.Given as goal

abbrev pub invariant-loop-server : goal.invariant-loop-server
invariant-loop-server g l = record {
  apart : AreApart l.queues.items;
  queues : All (λ e. has_queue l.queues.items e ≡ true) (take l.server-index l.addresses);
  empty : (server : Endpoint) → datagrams_at l.queues.items server ≡ [];
}
