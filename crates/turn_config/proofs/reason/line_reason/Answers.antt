use Rattle.turn_config.proofs.Splits.{same_split}
use Rattle.turn_config.proofs.Words.{name_of_setting}
use Rattle.turn_config.proofs.reason.line_reason.Goals as goal

pub returns-after-is_quotable : goal.returns-after-is_quotable
returns-after-is_quotable c setting value secret encoded =
    let parts = same_split 32 _ _ _ _ _ c.in-Some.ensures.parts encoded c.in-Some.ensures.first (name_of_setting setting) in
    let some = c.setting_of.ensures.only setting parts.0 in
    let none = c.in-None-2.is in
    cc
