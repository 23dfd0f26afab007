use Rattle.std.proofs.Common.{◌≡◌, sym, ap, ◌∙◌, [], Some, None, nat_cmp}
use Rattle.std.specs.FinMap as fin
use Rattle.std.specs.Option.{option_copied, option_map_or}
use Rattle.turn_history.proofs.Maps.{tuple_total, tuple_exact}
use Rattle.turn_types.specs.Prelude.{tuple_cmp}
use Rattle.turn_table.specs.Prelude.{user_of, held_in, map_in}
use Rattle.turn_table.proofs.ByUser.{listed}
use Rattle.turn_table.proofs.Changing.{get-view, users_removed}
use Rattle.turn_table.proofs.Held.{get-held_in, held-removed}
use Rattle.turn_table.proofs.Index.{port_of, removed}
use Rattle.turn_table.proofs.Sorted.{remove-absent}
use Rattle.turn_table.proofs.allocations.Allocations.remove.Goals as goal

pub returns-in_err-entry-clause-held : goal.returns-in_err-entry-clause-held
returns-in_err-entry-clause-held g c =
    remove-absent tuple_total tuple_exact c.args.self.now.held c.args.tuple
    (get-view c.self.inside.entries.entries c.args.self.now.held (ap (λ l. l.held) c.self.view_is) c.args.tuple None (sym c.get.ensures.value ∙ ap option_copied c.in_err-entry.was))

pub returns-in_err-entry-clause-port : goal.returns-in_err-entry-clause-port
returns-in_err-entry-clause-port g c =
    c.from_residual.ensures
    ∙ sym (ap port_of (get-view c.self.inside.entries.entries c.args.self.now.held (ap (λ l. l.held) c.self.view_is) c.args.tuple None (sym c.get.ensures.value ∙ ap option_copied c.in_err-entry.was)))

pub remove-requires-3-clause-named : goal.remove-requires-3-clause-named
remove-requires-3-clause-named g c =
    ap (λ o. option_map_or user_of o []) (get-held_in c.self.inside.entries.entries c.args.tuple ∙ sym c.get.ensures.value ∙ ap option_copied c.in_ok-entry.was)
    ∙ sym c.user.ensures

pub remove-requires-3-clause-listed : goal.remove-requires-3-clause-listed
remove-requires-3-clause-listed g c =
    listed (held_in c.self.inside.entries.entries) c.self.inside.users.0 c.self.invariant.1.counted c.args.tuple c.in_ok-entry.entry.now
    (get-held_in c.self.inside.entries.entries c.args.tuple ∙ sym c.get.ensures.value ∙ ap option_copied c.in_ok-entry.was)

pub invariant_of-self : goal.invariant_of-self
invariant_of-self g c =
    let there : fin.get (held_in c.self.inside.entries.entries) c.args.tuple ≡ Some c.in_ok-entry.entry.now =
    get-held_in c.self.inside.entries.entries c.args.tuple ∙ sym c.get.ensures.value ∙ ap option_copied c.in_ok-entry.was in (
      removed c.self.inside.entries.entries c.swap_remove.new.self.entries (map_in tuple_cmp c.self.inside.order) (map_in tuple_cmp c.remove.new.self) (map_in nat_cmp c.self.inside.ports) (map_in nat_cmp c.remove-2.new.self) c.args.tuple c.in_ok-entry.entry.now c.self.invariant.0
          there c.swap_remove.ensures.updates.0 c.remove.ensures.map
          (c.remove-2.ensures.map ∙ ap (fin.remove (map_in nat_cmp c.self.inside.ports)) c.port-port.ensures),
      users_removed c.self.inside.entries.entries c.swap_remove.new.self.entries c.self.inside.users.0 c.remove-3.new.self.0 c.args.tuple c.in_ok-entry.entry.now c.self.invariant.1
          there c.swap_remove.ensures.updates.0 c.remove-3.ensures.tuples,
    )

pub returns-clause-held : goal.returns-clause-held
returns-clause-held g c =
    held-removed c.self.inside.entries.entries c.swap_remove.new.self.entries c.args.tuple c.swap_remove.ensures.updates.0
    ∙ ap (λ l. fin.remove l.held c.args.tuple) c.self.view_is

pub returns-clause-port : goal.returns-clause-port
returns-clause-port g c =
    ap Some c.port-port.ensures
    ∙ sym (ap port_of (get-view c.self.inside.entries.entries c.args.self.now.held (ap (λ l. l.held) c.self.view_is) c.args.tuple (Some c.in_ok-entry.entry.now) (sym c.get.ensures.value ∙ ap option_copied c.in_ok-entry.was)))
