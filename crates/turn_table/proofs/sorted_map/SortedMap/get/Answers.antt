use Rattle.std.proofs.Common.{ap, sym, ◌∙◌}
use Rattle.std.specs.FinMap as fin
use Rattle.turn_table.specs.Prelude.{scan, map_in}
use Rattle.turn_table.proofs.Sorted.{get-ok, get-err}
use Rattle.turn_table.proofs.sorted_map.SortedMap.get.Goals as goal

pub returns-in-Ok : goal.returns-in-Ok
returns-in-Ok g c =
    sym (get-ok g.met.K.Ord.total g.met.K.Key.exact c.self.inside.items.items c.self.invariant c.args.key c.in-Ok.i c.index.result.now (c.in-Ok.ensures.value ∙ ap (scan g.K.Ord.cmp c.args.key) c.deref.ensures.value) c.index.ensures)
    ∙ ap (λ s. fin.get (map_in g.K.Ord.cmp s) c.args.key) c.self.view_is

pub returns-in-Err : goal.returns-in-Err
returns-in-Err g c =
    sym (get-err g.met.K.Ord.total g.met.K.Key.exact c.self.inside.items.items c.self.invariant c.args.key c.in-Err.field-0 (c.in-Err.ensures.value ∙ ap (scan g.K.Ord.cmp c.args.key) c.deref.ensures.value))
    ∙ ap (λ s. fin.get (map_in g.K.Ord.cmp s) c.args.key) c.self.view_is
