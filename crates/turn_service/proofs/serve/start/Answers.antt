use Rattle.turn_service.proofs.Serves.{started_over}
use Rattle.turn_service.proofs.serve.start.Goals as goal

pub returns-in-Ok-clause-started : goal.returns-in-Ok-clause-started
returns-in-Ok-clause-started g c = started_over _ _ _ _ _ _ _ _ c.in-Ok.ensures.started
