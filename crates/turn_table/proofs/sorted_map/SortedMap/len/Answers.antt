use Rattle.std.proofs.Common.{ap, sym, ◌∙◌, length}
use Rattle.std.specs.FinMap as fin
use Rattle.std.specs.FinMap.{entries-from_sorted, len-entries}
use Rattle.turn_table.proofs.Sorted.{holds}
use Rattle.turn_table.specs.Prelude.{map_in}
use Rattle.turn_table.proofs.sorted_map.SortedMap.len.Goals as goal

pub returns : goal.returns
returns g c =
    c.len.ensures ∙ c.self.inside.items.ok.0
    ∙ sym (len-entries (fin.from_sorted {R = g.K.Ord.cmp} c.self.inside.items.items) ∙ ap length (entries-from_sorted g.K.Ord.cmp c.self.inside.items.items (holds _ c.self.invariant)))
    ∙ ap (λ s. fin.len (map_in g.K.Ord.cmp s)) c.self.view_is
