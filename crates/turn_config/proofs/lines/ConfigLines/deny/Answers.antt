use Rattle.std.proofs.Common.{rules}
use Rattle.turn_config.proofs.lines.ConfigLines.deny.Goals as goal

pub returns-in_default-clause-only : goal.returns-in_default-clause-only
returns-in_default-clause-only g c new sets bad =
    let some = c.range_of.ensures.only sets.0 sets.1 in
    cc

pub returns-clause-good : goal.returns-clause-good
returns-clause-good g c = search rules
