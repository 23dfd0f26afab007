use Rattle.std.proofs.Common.{arith}
use Rattle.turn_store.proofs.snapshots.feed.Goals as goal

pub returns-clause-bytes : goal.returns-clause-bytes
returns-clause-bytes g c = λ i. omega (arith, c.type_inv.piece i)

pub returns-clause-fed : goal.returns-clause-fed
returns-clause-fed g c = c.feed.ensures.fed
