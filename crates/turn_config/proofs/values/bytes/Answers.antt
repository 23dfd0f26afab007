use Rattle.std.proofs.Common.{rules}
use Rattle.turn_config.proofs.values.bytes.Goals as goal

pub returns-in-Err-OutOfMemory : goal.returns-in-Err-OutOfMemory
returns-in-Err-OutOfMemory g c = search rules
