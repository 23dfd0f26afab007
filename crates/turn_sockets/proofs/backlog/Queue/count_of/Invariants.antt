use Rattle.std.proofs.Common.{◌≡◌, ◌≤◌, take, count_by}
use Rattle.turn_sockets.specs.Backlog.{is_same}
use Rattle.turn_sockets.proofs.backlog.Queue.count_of.Given as goal

abbrev pub invariant-loop-place : goal.invariant-loop-place
invariant-loop-place g l = record {
  counted : l.count ≡ count_by (λ d. is_same d.client l.client) (take l.place l.self-inside.datagrams.items);
  few : l.count ≤ l.place;
}
