use Rattle.std.proofs.Common.{◌≡◌}
use Rattle.turn_lines.proofs.lines.Lines.tell_refreshes.Given as goal

abbrev pub invariant-loop-key : goal.invariant-loop-key
invariant-loop-key g l = l.self ≡ l.fn.self
