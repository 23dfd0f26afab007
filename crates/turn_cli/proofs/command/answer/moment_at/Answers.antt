use Rattle.std.proofs.Common.{rules}
use Rattle.turn_cli.proofs.command.answer.moment_at.Goals as goal

pub returns-in-None : goal.returns-in-None
returns-in-None c = search rules
