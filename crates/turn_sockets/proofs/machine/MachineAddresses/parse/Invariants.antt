use Rattle.std.proofs.Common.{◌≤◌, length}
use Rattle.turn_sockets.proofs.machine.MachineAddresses.parse.Given as goal

abbrev pub invariant-loop-line : goal.invariant-loop-line
invariant-loop-line g l = length l.prefixes.items ≤ 512
