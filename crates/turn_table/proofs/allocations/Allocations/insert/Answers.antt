use Rattle.std.proofs.Common.{◌≡◌, sym, ap, ◌∙◌, Some, None, rules, nat_cmp}
use Rattle.std.specs.FinMap as fin
use Rattle.turn_types.specs.Prelude.{tuple_cmp}
use Rattle.turn_table.specs.Prelude.{held_in, map_in}
use Rattle.turn_table.proofs.Changing.{ok_holds, users_inserted}
use Rattle.turn_table.proofs.Held.{Updated, held-inserted}
use Rattle.turn_table.proofs.Index.{inserted}
use Rattle.turn_table.proofs.allocations.Allocations.insert.Goals as goal

pub returns : goal.returns
returns g c =
    let updates = ok_holds c.insert-2.result c.unwrap.result c.unwrap.ensures c.insert-2.ensures.updates in
    let updated : Updated c.self.inside.entries.entries c.args.tuple (Some c.args.entry) c.insert-2.new.self.entries = search (rules, updates.0) in
    held-inserted c.self.inside.entries.entries c.insert-2.new.self.entries c.args.tuple c.args.entry updated
    ∙ ap (λ l. fin.insert l.held c.args.tuple c.args.entry) c.self.view_is

pub invariant_of-self : goal.invariant_of-self
invariant_of-self g c =
    let absent : fin.get (held_in c.self.inside.entries.entries) c.args.tuple ≡ None = ap (λ l. fin.get l.held c.args.tuple) c.self.view_is ∙ c.requires.absent in
    let updated : Updated c.self.inside.entries.entries c.args.tuple (Some c.args.entry) c.insert-2.new.self.entries = (ok_holds c.insert-2.result c.unwrap.result c.unwrap.ensures c.insert-2.ensures.updates).0 in (
      inserted c.self.inside.entries.entries c.insert-2.new.self.entries (map_in tuple_cmp c.self.inside.order) (map_in tuple_cmp c.put.new.self) (map_in nat_cmp c.self.inside.ports) (map_in nat_cmp c.put-2.new.self) c.args.tuple c.args.entry c.self.invariant.0
          absent
          (λ q k at. c.requires.free q k (sym (ap (λ l. fin.get l.held q) c.self.view_is) ∙ at))
          updated
          (c.put.ensures.map ∙ ap (fin.insert (map_in tuple_cmp c.self.inside.order) c.args.tuple) c.port.ensures)
          (c.put-2.ensures.map ∙ ap (λ p. fin.insert (map_in nat_cmp c.self.inside.ports) p c.args.tuple) c.port-2.ensures),
      users_inserted c.self.inside.entries.entries c.insert-2.new.self.entries c.self.inside.users.0 c.insert.new.self.0 c.args.tuple c.args.entry c.user.result.now c.user.ensures c.self.invariant.1 absent updated c.insert.ensures.tuples,
    )
