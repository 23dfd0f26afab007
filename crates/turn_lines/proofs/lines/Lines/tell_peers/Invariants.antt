use Rattle.std.proofs.Common.{◌≡◌}
use Rattle.turn_lines.proofs.lines.Lines.tell_peers.Given as goal

abbrev pub invariant-loop-user : goal.invariant-loop-user
invariant-loop-user g l = l.self ≡ l.fn.self
