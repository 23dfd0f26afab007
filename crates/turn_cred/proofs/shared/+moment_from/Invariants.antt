use Rattle.std.proofs.Common.{length}
use Rattle.turn_cred.proofs.shared.+moment_from.Given as goal

abbrev pub decreases-moment_from : goal.decreases-moment_from
decreases-moment_from l = length l.text.now
