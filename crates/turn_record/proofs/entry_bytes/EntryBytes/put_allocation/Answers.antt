use Rattle.std.proofs.Common.{arith}
use Rattle.std.proofs.lemmas.Grind.{common_steps}
use Rattle.turn_record.proofs.entry_bytes.EntryBytes.put_allocation.Goals as goal

pub returns : goal.returns
returns g c = grind (arith, common_steps)
