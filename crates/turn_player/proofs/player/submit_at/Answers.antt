use Rattle.std.proofs.Common.{max, ap, ◌∙◌}
use Rattle.turn_player.proofs.Plays.{submitted}
use Rattle.turn_player.proofs.player.submit_at.Goals as goal

pub returns-in-Ok : goal.returns-in-Ok
returns-in-Ok g c = λ s. submitted g.D.Disk g.H.AuthHandler g.G.RelayAddressGenerator s _ _ _ _ _ _ (c.later_of-at.ensures ∙ ap (max c.args.moment) c.clock.ensures) c.in-Ok.ensures.call

pub returns-in-Err : goal.returns-in-Err
returns-in-Err g c = λ s. submitted g.D.Disk g.H.AuthHandler g.G.RelayAddressGenerator s _ _ _ _ _ _ (c.later_of-at.ensures ∙ ap (max c.args.moment) c.clock.ensures) c.in-Err.ensures.call
