use Rattle.std.specs.Prelude.{[]}
use Rattle.turn_player.specs.Lives.{formatted}
use Rattle.turn_player.proofs.Lives.{begins_life, keeps, one_run, sent_lasts}
use Rattle.turn_player.proofs.laws.every_life_is_one_run.Goals as goal

pub returns-clause-whole : goal.returns-clause-whole
returns-clause-whole c = λ s may_fail inputs said q life never. one_run s may_fail formatted q inputs said [] life never (begins_life s may_fail)

pub returns-clause-goes_on : goal.returns-clause-goes_on
returns-clause-goes_on c = one_run

pub returns-clause-keeps : goal.returns-clause-keeps
returns-clause-keeps c = keeps

pub returns-clause-handed_out : goal.returns-clause-handed_out
returns-clause-handed_out c = sent_lasts
