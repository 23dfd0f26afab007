use Rattle.turn_config.proofs.lines.ConfigLines.allow.Goals as goal

pub returns-in_default-clause-only : goal.returns-in_default-clause-only
returns-in_default-clause-only g c new sets =
    let some = c.relay_of.ensures.only sets.0 sets.1 in
    cc
