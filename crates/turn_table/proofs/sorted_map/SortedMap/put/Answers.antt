use Rattle.std.proofs.Common.{◌≡◌, ap, ◌∙◌, set, refl, arith, ◌<◌, ◌-◌, vec_len, vec_capacity, insert}
use Rattle.std.specs.FinMap as fin
use Rattle.turn_table.specs.Prelude.{scan, map_in}
use Rattle.turn_table.proofs.Sorted.{inserted, on_success, written}
use Rattle.turn_table.proofs.sorted_map.SortedMap.put.Goals as goal
use Rattle.turn_table.proofs.sorted_map.SortedMap.put.Goals.{After-insert}
use Rattle.turn_table.proofs.sorted_map.SortedMap.put.Given.{Over}

pub invariant_of-self : goal.invariant_of-self
invariant_of-self g c =
    (written g.met.K.Ord.total g.met.K.Key.exact c.self.inside.items.items (set c.self.inside.items.items c.in-Ok.i (c.index_mut.result.now.0, c.args.value)) c.args.key c.in-Ok.i c.index_mut.result.now c.args.value c.self.invariant (c.in-Ok.ensures.value ∙ ap (scan g.K.Ord.cmp c.args.key) c.deref.ensures.value) c.index_mut.ensures.value refl).0

pub returns-in-Ok-clause-map : goal.returns-in-Ok-clause-map
returns-in-Ok-clause-map g c =
    (written g.met.K.Ord.total g.met.K.Key.exact c.self.inside.items.items (set c.self.inside.items.items c.in-Ok.i (c.index_mut.result.now.0, c.args.value)) c.args.key c.in-Ok.i c.index_mut.result.now c.args.value c.self.invariant (c.in-Ok.ensures.value ∙ ap (scan g.K.Ord.cmp c.args.key) c.deref.ensures.value) c.index_mut.ensures.value refl).1
    ∙ ap (λ s. fin.insert (map_in g.K.Ord.cmp s) c.args.key c.args.value) c.self.view_is

-- there is room, so the key is there
there : (g : Over) (c : After-insert g) → c.insert.new.self.items ≡ insert c.self.inside.items.items c.in-Err.i (c.args.key, c.args.value)
there g c =
    let spare : vec_capacity c.self.inside.items - vec_len c.self.inside.items ≡ c.args.self.now.1 = ap (λ s. s.1) c.self.view_is in
    let room : vec_len c.self.inside.items < vec_capacity c.self.inside.items = omega (arith, c.requires) in
    on_success _ c.insert.new.self.items (insert c.self.inside.items.items c.in-Err.i (c.args.key, c.args.value)) c.self.inside.items.items c.insert.ensures.items (c.insert.ensures.succeeds room)

pub invariant_of-self-in-Err : goal.invariant_of-self-in-Err
invariant_of-self-in-Err g c =
    (inserted g.met.K.Ord.total g.met.K.Key.exact c.self.inside.items.items c.insert.new.self.items c.args.key c.in-Err.i c.args.value c.self.invariant (c.in-Err.ensures.value ∙ ap (scan g.K.Ord.cmp c.args.key) c.deref.ensures.value) (there g c)).0

pub returns-in-Err-clause-map : goal.returns-in-Err-clause-map
returns-in-Err-clause-map g c =
    (inserted g.met.K.Ord.total g.met.K.Key.exact c.self.inside.items.items c.insert.new.self.items c.args.key c.in-Err.i c.args.value c.self.invariant (c.in-Err.ensures.value ∙ ap (scan g.K.Ord.cmp c.args.key) c.deref.ensures.value) (there g c)).1
    ∙ ap (λ s. fin.insert (map_in g.K.Ord.cmp s) c.args.key c.args.value) c.self.view_is
