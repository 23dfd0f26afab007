use Rattle.std.proofs.Common.{ap, ◌∙◌}
use Rattle.std.specs.FinMap as fin
use Rattle.turn_history.proofs.Maps.{tuple_total, tuple_exact}
use Rattle.turn_types.specs.Prelude.{tuple_cmp}
use Rattle.turn_table.specs.Prelude.{held_in, map_in}
use Rattle.turn_table.proofs.Sorted.{len-values_by}
use Rattle.turn_table.proofs.allocations.Allocations.len.Goals as goal

pub returns : goal.returns
returns g c =
    c.len.ensures
    ∙ len-values_by tuple_total tuple_exact (λ h. h.entry.port) (held_in c.self.inside.entries.entries) (map_in tuple_cmp c.self.inside.order) c.self.invariant.0.placed
    ∙ ap (λ l. fin.len l.held) c.self.view_is
