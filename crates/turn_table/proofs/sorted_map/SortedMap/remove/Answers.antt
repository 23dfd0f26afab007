use Rattle.std.proofs.Common.{ap, sym, ◌∙◌}
use Rattle.std.specs.FinMap as fin
use Rattle.turn_table.specs.Prelude.{map_in, scan}
use Rattle.turn_table.proofs.Sorted.{removed, remove-absent, get-err}
use Rattle.turn_table.proofs.sorted_map.SortedMap.remove.Goals as goal

pub invariant_of-self : goal.invariant_of-self
invariant_of-self g c =
    (removed g.met.K.Ord.total g.met.K.Key.exact c.self.inside.items.items c.remove.new.self.items c.args.key c.in-Ok.i c.self.invariant (c.in-Ok.ensures.value ∙ ap (scan g.K.Ord.cmp c.args.key) c.deref.ensures.value) c.remove.ensures.items).0

pub returns-in-Ok-clause-map : goal.returns-in-Ok-clause-map
returns-in-Ok-clause-map g c =
    (removed g.met.K.Ord.total g.met.K.Key.exact c.self.inside.items.items c.remove.new.self.items c.args.key c.in-Ok.i c.self.invariant (c.in-Ok.ensures.value ∙ ap (scan g.K.Ord.cmp c.args.key) c.deref.ensures.value) c.remove.ensures.items).1
    ∙ ap (λ s. fin.remove (map_in g.K.Ord.cmp s) c.args.key) c.self.view_is

pub returns-in_default-clause-map : goal.returns-in_default-clause-map
returns-in_default-clause-map g c =
    remove-absent g.met.K.Ord.total g.met.K.Key.exact (map_in g.K.Ord.cmp c.args.self.now) c.args.key
    (ap (λ s. fin.get (map_in g.K.Ord.cmp s) c.args.key) (sym c.self.view_is)
    ∙ get-err g.met.K.Ord.total g.met.K.Key.exact c.self.inside.items.items c.self.invariant c.args.key c.in_default.field-0 (c.in_default.ensures.value ∙ ap (scan g.K.Ord.cmp c.args.key) c.deref.ensures.value))
