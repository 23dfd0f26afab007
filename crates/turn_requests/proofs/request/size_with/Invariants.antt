use Rattle.std.proofs.Common.{◌≡◌, ◌≤◌, take, fold}
use Rattle.turn_codec.specs.Prelude.{Content, body_size}
use Rattle.turn_requests.specs.Sending.{with_one}
use Rattle.turn_requests.proofs.request.size_with.Given as goal

abbrev pub invariant-loop-attribute : goal.invariant-loop-attribute
invariant-loop-attribute l = (l.size ≤ 65532) × ((m : Content) → l.fn.size ≡ body_size m → l.size ≡ body_size (fold with_one m (take l.attribute-index l.attributes)))
