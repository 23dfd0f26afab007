use Rattle.turn_player.specs.Worlds as worlds
use Rattle.std.proofs.Common.{Err}
use Rattle.turn_player.proofs.Plays.{handed, one_more}
use Rattle.turn_player.proofs.player.commit_to.Goals as goal

pub returns-in-Ok : goal.returns-in-Ok
returns-in-Ok g c = handed g.D.Disk g.H.AuthHandler g.G.RelayAddressGenerator c.hand_out.result _ _ _ _ _ c.hand_out.ensures c.in-Ok.ensures.call

pub returns-in_ok-push-in-Err : goal.returns-in_ok-push-in-Err
returns-in_ok-push-in-Err g c = λ s. record {
  said = _;
  is = one_more _ _ _ c.in_ok-push-in-Err.ensures.items;
  does = worlds.commits (Err c.in-Err.why) c.in-Err.ensures.call;
}
