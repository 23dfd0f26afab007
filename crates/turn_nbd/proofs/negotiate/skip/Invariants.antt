use Rattle.turn_nbd.proofs.negotiate.skip.Given as goal

abbrev pub decreases-loop-left : goal.decreases-loop-left
decreases-loop-left g l = l.left
