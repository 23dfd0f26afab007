use Rattle.std.proofs.Common.{sym, ap, ◌∙◌, subst, IsSome}
use Rattle.std.specs.FinMap as fin
use Rattle.std.specs.List.{AllByRecursion}
use Rattle.turn_table.specs.Prelude.{listed}
use Rattle.turn_table.proofs.Held.{held-placed, listed-placed}
use Rattle.turn_table.proofs.table.Table.entries.Goals as goal

pub invariant_of-result : goal.invariant_of-result
invariant_of-result g c =
    subst (AllByRecursion (λ p. IsSome (fin.get c.self.inside.allocations.held p.0))) (sym c.order.ensures) (held-placed c.self.inside.allocations.held)

pub returns : goal.returns
returns g c =
    ap (listed c.self.inside.allocations.held) c.order.ensures ∙ listed-placed c.self.inside.allocations.held
    ∙ ap (λ s. fin.entries s.contents.entries) c.self.view_is
