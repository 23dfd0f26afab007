use Rattle.std.proofs.Common.{length}
use Rattle.turn_disk.proofs.memory.+leave.Given as goal

abbrev pub decreases-leave : goal.decreases-leave
decreases-leave g l = length l.calls.now
