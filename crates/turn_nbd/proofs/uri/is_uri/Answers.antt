use Rattle.turn_nbd.proofs.Schemes.{last_of_four}
use Rattle.turn_nbd.proofs.uri.is_uri.Goals as goal

pub returns : goal.returns
returns c = last_of_four _ _ _ _ _ c.if-begins.ensures c.if-begins-2.ensures c.if-begins-3.ensures c.begins-4.ensures
