use Rattle.turn_player.proofs.Plays.{not_opened, opened}
use Rattle.turn_player.proofs.player.Closed.open.Goals as goal

pub returns-in-Ok-clause-call : goal.returns-in-Ok-clause-call
returns-in-Ok-clause-call g c = λ s same. opened _ _ _ s _ _ _ _ _ _ same c.clock-clock.ensures c.in-Ok.ensures.call

pub returns-in-Ok-clause-carried : goal.returns-in-Ok-clause-carried
returns-in-Ok-clause-carried g c = c.in-Ok.ensures.carried

pub returns-in-Err-clause-call : goal.returns-in-Err-clause-call
returns-in-Err-clause-call g c = λ s same. not_opened _ _ _ s _ _ _ _ _ same c.in-Err.ensures.call
