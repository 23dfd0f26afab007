use Rattle.std.proofs.Common.{drop}
use Rattle.turn_table.proofs.FreePorts.{Reaches}
use Rattle.turn_table.proofs.search.lowest_free.Given as goal

-- what the ports so far leave
abbrev pub invariant-loop-slot : goal.invariant-loop-slot
invariant-loop-slot g l = Reaches (l.first, l.last) l.even l.ports (drop l.slot-index l.left) l.lowest
