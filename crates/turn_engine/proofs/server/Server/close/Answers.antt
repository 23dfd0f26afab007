use Rattle.std.proofs.Common.{rules}
use Rattle.turn_engine.proofs.server.Server.close.Goals as goal

pub returns-clause-disk : goal.returns-clause-disk
returns-clause-disk g c = search rules
