use Rattle.std.proofs.Common.{rules}
use Rattle.turn_record.specs.Prelude.{other_peer_at}
use Rattle.turn_record.proofs.lists.other_peer_of.Goals as goal

pub returns : goal.returns
unfolding other_peer_at
returns c = search rules
