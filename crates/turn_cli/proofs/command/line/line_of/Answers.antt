use Rattle.std.proofs.Common.{◌++◌, codes}
use Rattle.turn_cli.proofs.Rules.{shown_after}
use Rattle.turn_cli.proofs.command.line.line_of.Goals as goal

pub loop-part-preserved : goal.loop-part-preserved
loop-part-preserved c =
    shown_after (codes "turn " ++ c.args.synopsis.now.name.now) _ _ _ _ _ c.loop-part-test.true c.in_ok-push_part.ensures
    c.loop-part.invariant
