use Rattle.std.proofs.Common.{rules}
use Rattle.turn_engine.proofs.server.stage_act.Goals as goal

pub returns-in-Some-clause-acts : goal.returns-in-Some-clause-acts
returns-in-Some-clause-acts g c = rw (← c.in-Some.ensures) c.push.ensures.acts

pub returns-in-Some-clause-bounds : goal.returns-in-Some-clause-bounds
returns-in-Some-clause-bounds g c = c.push.ensures.bounds

pub returns-in-Some-clause-payload : goal.returns-in-Some-clause-payload
returns-in-Some-clause-payload g c = rw (← c.in-Some.ensures) c.push.ensures.payload

pub returns-in_default-clause-acts : goal.returns-in_default-clause-acts
returns-in_default-clause-acts g c = search rules

pub returns-in_default-clause-payload : goal.returns-in_default-clause-payload
returns-in_default-clause-payload g c = search rules
