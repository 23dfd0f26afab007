use Rattle.std.proofs.Common.{rules}
use Rattle.turn_cli.proofs.command.inspect.shown_at.Goals as goal

pub returns-in-Some : goal.returns-in-Some
returns-in-Some c = search rules
