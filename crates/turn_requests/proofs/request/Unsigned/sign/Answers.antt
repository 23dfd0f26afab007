use Rattle.std.proofs.Common.{rules}
use Rattle.turn_requests.specs.Sending.{signed}
use Rattle.turn_requests.proofs.request.Unsigned.sign.Goals as goal

pub returns-clause-content : goal.returns-clause-content
unfolding signed
returns-clause-content g c = search rules
