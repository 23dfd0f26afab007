use Rattle.std.proofs.Common.{rules}
use Rattle.turn_sockets.proofs.moment.moment_at.Goals as goal

pub returns-in-Some-clause-in_range : goal.returns-in-Some-clause-in_range
returns-in-Some-clause-in_range c = search rules

pub returns-in-Some-clause-monotone : goal.returns-in-Some-clause-monotone
returns-in-Some-clause-monotone c = search rules
