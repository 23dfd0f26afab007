use Rattle.std.proofs.Common.{◌≡◌}
use Rattle.std.specs.FinMap as fin
use Rattle.turn_serving.proofs.Held.{IsBinding}
use Rattle.turn_serving.proofs.start.bind_allocated.Given as goal

abbrev pub invariant-loop-entry : goal.invariant-loop-entry
invariant-loop-entry g l = record {
  can_next : (goal.iterator-loop-entry g).can_next l.entry-iterator;
  is_finite : (goal.iterator-loop-entry g).is_finite l.entry-iterator;
  ip : l.sockets.binder.ip ≡ l.fn.sockets.binder.ip;
  first : l.sockets.first ≡ l.fn.sockets.first;
  last : l.sockets.last ≡ l.fn.sockets.last;
  draws : l.sockets.draws ≡ l.fn.sockets.draws;
  binding : IsBinding (λ p. p.1.port) l.fn.sockets.sockets l.sockets.sockets l.entry-iterator (fin.entries l.table.contents.entries);
}
