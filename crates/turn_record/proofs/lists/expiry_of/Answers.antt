use Rattle.std.proofs.Common.{rules}
use Rattle.turn_record.specs.Prelude.{expiry_at}
use Rattle.turn_record.proofs.lists.expiry_of.Goals as goal

pub returns : goal.returns
unfolding expiry_at
returns c = search rules
