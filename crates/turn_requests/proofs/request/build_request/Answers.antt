use Rattle.std.proofs.Common.{rules}
use Rattle.turn_requests.specs.Sending.{named}
use Rattle.turn_requests.proofs.request.build_request.Goals as goal

pub returns-clause-content : goal.returns-clause-content
unfolding named
returns-clause-content g c = search rules
