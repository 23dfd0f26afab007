use Rattle.turn_cred.proofs.Names.{expiry_is, expiry_read}
use Rattle.turn_cred.proofs.laws.names_have_their_expiry.Goals as goal

pub returns : goal.returns
returns c = λ name expiry. (expiry_is name expiry, expiry_read name expiry)
