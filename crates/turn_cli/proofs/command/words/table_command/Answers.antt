use Rattle.turn_cli.proofs.Rules.{row_after}
use Rattle.turn_cli.proofs.command.words.table_command.Goals as goal

pub loop-synopsis-preserved : goal.loop-synopsis-preserved
loop-synopsis-preserved c =
    row_after _ _ _ _ _ _ c.loop-synopsis-test.true c.in_ok-command.ensures c.loop-synopsis.invariant c.in_ok-row_command.ensures.told
