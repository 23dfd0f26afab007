use Rattle.std.proofs.Common.{rules}
use Rattle.turn_requests.proofs.request.channel_data.Goals as goal

pub returns-clause-some : goal.returns-clause-some
returns-clause-some c = search rules
