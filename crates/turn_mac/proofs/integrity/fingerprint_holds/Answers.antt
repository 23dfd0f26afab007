use Rattle.std.proofs.Common.{rules}
use Rattle.turn_mac.proofs.Decided.{fingerprint_when}
use Rattle.turn_mac.proofs.integrity.fingerprint_holds.Goals as goal

pub returns-in_default-clause-value : goal.returns-in_default-clause-value
returns-in_default-clause-value c = fingerprint_when _ _ (search rules)

pub returns-then-found-eq4-clause-value : goal.returns-then-found-eq4-clause-value
returns-then-found-eq4-clause-value c = fingerprint_when _ _ (search rules)

pub returns-else-found-eq4-clause-value : goal.returns-else-found-eq4-clause-value
returns-else-found-eq4-clause-value c = fingerprint_when _ _ (search rules)
