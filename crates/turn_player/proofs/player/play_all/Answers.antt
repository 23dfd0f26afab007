use Rattle.std.proofs.Common.{[], sym, append-nil}
use Rattle.turn_player.specs.Plays as plays
use Rattle.turn_player.proofs.Plays.{all_played, pushed}
use Rattle.turn_player.proofs.player.play_all.Goals as goal

pub loop-step-init : goal.loop-step-init
loop-step-init g c = λ s same. record { said = []; is = sym (append-nil _); does = plays.done }

pub loop-step-preserved : goal.loop-step-preserved
loop-step-preserved g c = λ s same.
    pushed g.D.Disk g.H.AuthHandler g.G.RelayAddressGenerator s _ _ _ c.args.steps.now c.loop-step.step-index c.step-item.result _ _ _ c.loop-step-test.true c.step-item.is
    (c.loop-step.invariant s same) (c.in_ok-held.ensures s same)

pub returns : goal.returns
returns g c = λ s same.
    all_played g.D.Disk g.H.AuthHandler g.G.RelayAddressGenerator s _ _ c.args.steps.now c.loop-step.step-index _ _ c.loop-step-test.false (c.loop-step.invariant s same)
