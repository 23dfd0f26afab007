use Rattle.std.proofs.Common.{ap, subst}
use Rattle.turn_types.specs.Prelude.{AreInRange}
use Rattle.turn_table.proofs.table.Table.limits.Goals as goal

pub returns-clause-range : goal.returns-clause-range
returns-clause-range g c = subst AreInRange (ap (λ s. s.bounds) c.self.view_is) c.self.invariant.range
