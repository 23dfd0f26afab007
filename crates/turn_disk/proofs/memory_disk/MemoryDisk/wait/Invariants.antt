use Rattle.turn_disk.specs.Prelude.{Passes}
use Rattle.turn_disk.proofs.memory_disk.MemoryDisk.wait.Given as goal

abbrev pub invariant-loop : goal.invariant-loop
invariant-loop g l = Passes g.M.Meanwhile.passes l.fn.other l.other
