use Rattle.std.proofs.Common.{length}
use Rattle.turn_mac.proofs.integrity.+differences.Given as goal

abbrev pub decreases-differences : goal.decreases-differences
decreases-differences l = length l.found.now
