use Rattle.std.proofs.Common.{ap, sym, ◌∙◌}
use Rattle.std.specs.FinMap as fin
use Rattle.std.specs.FinMap.{entries-from_sorted}
use Rattle.turn_table.proofs.Sorted.{holds}
use Rattle.turn_table.specs.Prelude.{map_in}
use Rattle.turn_table.proofs.sorted_map.SortedMap.items.Goals as goal

pub returns : goal.returns
returns g c =
    c.as_slice.ensures.value ∙ sym (entries-from_sorted g.K.Ord.cmp c.self.inside.items.items (holds _ c.self.invariant)) ∙ ap (λ s. fin.entries (map_in g.K.Ord.cmp s)) c.self.view_is
