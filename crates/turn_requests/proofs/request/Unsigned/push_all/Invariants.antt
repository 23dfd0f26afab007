use Rattle.std.proofs.Common.{◌≡◌, take, fold}
use Rattle.turn_requests.specs.Sending.{with_one}
use Rattle.turn_requests.proofs.request.Unsigned.push_all.Given as goal

abbrev pub invariant-loop-attribute : goal.invariant-loop-attribute
invariant-loop-attribute g l = l.self.builder ≡ fold with_one l.initial.self.builder (take l.attribute-index l.attributes)
