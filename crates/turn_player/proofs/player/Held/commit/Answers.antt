use Rattle.std.proofs.Common.{ap}
use Rattle.turn_player.specs.Held.{world_of}
use Rattle.turn_player.specs.Worlds as worlds
use Rattle.turn_player.proofs.Plays.{adds_at, at, one_more}
use Rattle.turn_player.proofs.player.Held.commit.Goals as goal

pub returns-in_ok-commit_to-in-Serving : goal.returns-in_ok-commit_to-in-Serving
returns-in_ok-commit_to-in-Serving g c = λ s. adds_at _ _ _ s _ _ _ _ _ _ (ap (λ x. world_of x) c.in-Serving.is) (c.in_ok-commit_to-in-Serving.ensures s)

pub returns-in_ok-push-in-Down : goal.returns-in_ok-push-in-Down
returns-in_ok-push-in-Down g c = λ s. record {
  said = _;
  is = one_more _ _ _ c.in_ok-push-in-Down.ensures.items;
  does = at _ _ _ s _ _ _ _ _ (ap (λ x. world_of x) c.in-Down.is) worlds.no_commit;
}
