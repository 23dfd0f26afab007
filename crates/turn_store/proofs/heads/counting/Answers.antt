use Rattle.std.proofs.Common.{rules}
use Rattle.turn_store.proofs.heads.counting.Goals as goal

pub returns-in-true-true-clause-counts : goal.returns-in-true-true-clause-counts
returns-in-true-true-clause-counts c = search rules
