use Rattle.turn_scenario.proofs.Refusals.{why_refused}
use Rattle.turn_scenario.proofs.running.format_as.Goals as goal

pub returns-in-V1-clause-refused : goal.returns-in-V1-clause-refused
returns-in-V1-clause-refused g c = rw c.in-V1.is (why_refused _ _ _ _ _ c.format_version1.ensures.uses.device c.format_version1.ensures.too_small)

pub returns-in-V2-clause-refused : goal.returns-in-V2-clause-refused
returns-in-V2-clause-refused g c = rw c.in-V2.is (why_refused _ _ _ _ _ c.format.ensures.uses.device c.format.ensures.too_small)
