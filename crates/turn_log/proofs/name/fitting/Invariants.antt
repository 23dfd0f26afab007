use Rattle.std.proofs.Common.{◌≡◌, ◌+◌, length, flat_map, take}
use Rattle.turn_log.specs.Names.{shown_byte}
use Rattle.turn_log.proofs.name.fitting.Given as goal

abbrev pub invariant-loop-place : goal.invariant-loop-place
invariant-loop-place l = l.left + length (flat_map shown_byte (take l.place l.fn.name)) ≡ l.fn.most
