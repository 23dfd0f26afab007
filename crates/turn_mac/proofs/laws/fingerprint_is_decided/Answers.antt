use Rattle.turn_mac.proofs.Decided.{fingerprint_Decides}
use Rattle.turn_mac.proofs.laws.fingerprint_is_decided.Goals as goal

pub returns : goal.returns
returns c = λ d. let right = fingerprint_Decides d in (right.0, right.1)
