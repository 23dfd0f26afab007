use Rattle.std.proofs.Common.{rules}
use Rattle.turn_disk.proofs.memory_disk.MemoryDiskDisk.write_at.Goals as goal

pub returns-clause-count : goal.returns-clause-count
returns-clause-count g c = search rules
