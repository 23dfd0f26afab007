use Rattle.std.proofs.Common.{ap, ◌∙◌}
use Rattle.turn_history.proofs.Maps.{tuple_total, tuple_exact}
use Rattle.turn_types.specs.Prelude.{tuple_cmp}
use Rattle.turn_table.specs.Prelude.{held_in, map_in, placed}
use Rattle.turn_table.proofs.Sorted.{entries-values_by}
use Rattle.turn_table.proofs.allocations.Allocations.order.Goals as goal

pub returns : goal.returns
returns g c =
    c.items.ensures
    ∙ entries-values_by tuple_total tuple_exact (λ h. h.entry.port) (held_in c.self.inside.entries.entries) (map_in tuple_cmp c.self.inside.order) c.self.invariant.0.placed
    ∙ ap (λ l. placed l.held) c.self.view_is
