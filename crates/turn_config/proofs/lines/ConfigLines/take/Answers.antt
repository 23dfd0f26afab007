use Rattle.turn_config.proofs.Words.{setting_words}
use Rattle.turn_config.proofs.lines.ConfigLines.take.Goals as goal

pub returns-in-None-clause-only : goal.returns-in-None-clause-only
returns-in-None-clause-only g c new says bad =
    let words = setting_words _ _ _ _ new says c.in-Some.ensures.parts c.in-Some.ensures.first in
    let some = c.setting_of.ensures.only says.setting words.0 in
    cc
