use Rattle.turn_cli.proofs.Rules.{part_after}
use Rattle.turn_cli.proofs.command.words.row_command.Goals as goal

pub loop-part-preserved : goal.loop-part-preserved
loop-part-preserved c =
    (part_after _ _ _ _ _ _ c.loop-part-test.true c.in_ok-command.ensures.rules c.loop-part.invariant.0, c.in_ok-command.ensures.local)
