use Rattle.std.proofs.Common.{rules}
use Rattle.turn_mac.specs.Fingerprint.{has_wrong_fingerprint}
use Rattle.turn_mac.proofs.fingerprint.has_wrong_fingerprint.Goals as goal

pub returns-then-has_fingerprint : goal.returns-then-has_fingerprint
unfolding has_wrong_fingerprint
returns-then-has_fingerprint c = search rules
