use Rattle.std.proofs.Common.{◌≡◌}
use Rattle.turn_lines.proofs.lines.Lines.tell_expired.Given as goal

abbrev pub invariant-loop-five_tuple : goal.invariant-loop-five_tuple
invariant-loop-five_tuple g l = l.self ≡ l.fn.self
