use Rattle.turn_store.proofs.Kept.{goes_kept}
use Rattle.turn_store.proofs.replay.replay_frame.Goals as goal

pub returns-clause-holds : goal.returns-clause-holds
returns-clause-holds g c = λ is. goes_kept c.args.version c.args.limits _ _ _ c.in_ok-replay_payload.ensures.goes is
