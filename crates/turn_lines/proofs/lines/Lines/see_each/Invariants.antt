use Rattle.std.proofs.Common.{◌≡◌}
use Rattle.turn_lines.proofs.lines.Lines.see_each.Given as goal

abbrev pub invariant-loop-datagram : goal.invariant-loop-datagram
invariant-loop-datagram g l = l.self ≡ l.fn.self
