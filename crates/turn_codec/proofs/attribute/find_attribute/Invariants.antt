use Rattle.std.proofs.Common.{length}
use Rattle.turn_codec.proofs.Finding.{Looks}
use Rattle.turn_codec.proofs.attribute.find_attribute.Given as goal

abbrev pub invariant-loop-found : goal.invariant-loop-found
invariant-loop-found l = Looks l.fn.kind l.body l.rest

abbrev pub decreases-loop-found : goal.decreases-loop-found
decreases-loop-found l = length l.rest
