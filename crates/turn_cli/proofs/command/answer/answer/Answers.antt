use Rattle.std.proofs.Common.{rules}
use Rattle.turn_cli.proofs.command.answer.answer.Goals as goal

pub returns-in_default-clause-refused : goal.returns-in_default-clause-refused
returns-in_default-clause-refused c form = let read = c.in_default.ensures.only form.endpoint form.is_endpoint in cc

pub returns-in_default-2-clause-refused : goal.returns-in_default-2-clause-refused
returns-in_default-2-clause-refused c = search rules
