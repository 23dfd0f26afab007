use Rattle.std.proofs.Common.{ap}
use Rattle.turn_player.specs.Held.{world_of}
use Rattle.turn_player.specs.Worlds as worlds
use Rattle.turn_player.proofs.Plays.{at}
use Rattle.turn_player.proofs.player.Held.arrive.Goals as goal

pub returns-in-Serving : goal.returns-in-Serving
returns-in-Serving g c = λ s. at _ _ _ s _ _ _ _ _ (ap (λ x. world_of x) c.in-Serving.is) (c.submit_at-event.ensures s)

pub returns-in-Down : goal.returns-in-Down
returns-in-Down g c = λ s. at _ _ _ s _ _ _ _ _ (ap (λ x. world_of x) c.in-Down.is) worlds.no_submit
