use Rattle.std.proofs.Common.{rules}
use Rattle.turn_requests.proofs.request.build_send.Goals as goal

pub returns-clause-content : goal.returns-clause-content
returns-clause-content g c = search rules
