use Rattle.std.proofs.Common.{◌≡◌}
use Rattle.turn_lines.proofs.lines.Lines.tell_repeats.Given as goal

abbrev pub invariant-loop-counted : goal.invariant-loop-counted
invariant-loop-counted g l = l.self ≡ l.fn.self
