use Rattle.turn_table.proofs.Ready.{at_of}
use Rattle.turn_table.proofs.table.Table.moment.Goals as goal

pub returns-clause-at : goal.returns-clause-at
returns-clause-at g c = at_of c.self.view_is c.self.invariant
