use Rattle.std.proofs.Common.{sym, ◌∙◌}
use Rattle.turn_config.proofs.Splits.{no_split}
use Rattle.turn_config.proofs.Words.{user_words}
use Rattle.turn_config.proofs.settings.user_of.Goals as goal
use Rattle.turn_config.proofs.settings.user_of.Goals.{else-is_name-via-then-is_name+else-is_text, else-is_name-via-else-is_name}

pub returns-in_err-name-clause-only : goal.returns-in_err-name-clause-only
returns-in_err-name-clause-only c name password n = absurd (no_split 32 _ _ _ n.encoded c.in_err-name.ensures.none)

pub returns-else-is_name-clause-only : goal.returns-else-is_name-clause-only
returns-else-is_name-clause-only c name password n =
    let words = user_words _ _ _ name password n c.in_ok-name.ensures.parts c.in_ok-name.ensures.first in
    elim c.else-is_name.branch [
      | else-is_name-via-then-is_name+else-is_text w ↦ sym w.if-is_text.false ∙ w.is_text.ensures ∙ rw words.1 n.visible
      | else-is_name-via-else-is_name w ↦ sym w.if-is_name.false ∙ c.is_name.ensures ∙ rw words.0 n.named
    ]
