use Rattle.std.proofs.Common.{arith}
use Rattle.std.proofs.lemmas.Grind.{common_steps}
use Rattle.turn_record.proofs.entry_bytes.EntryBytes.put_permissions.Goals as goal

pub returns : goal.returns
returns c = grind (arith, common_steps)
