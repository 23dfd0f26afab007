use Rattle.std.proofs.Common.{length, ◌-◌}
use Rattle.turn_nbd.proofs.pieces.+read_from.Given as goal

abbrev pub decreases-read_from : goal.decreases-read_from
decreases-read_from g l = length l.buffer.now - l.done
