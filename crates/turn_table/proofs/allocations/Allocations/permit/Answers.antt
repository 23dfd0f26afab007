use Rattle.std.proofs.Common.{sym, ap, ◌∙◌, None, ◌≤◌, length, Some}
use Rattle.std.specs.FinMap as fin
use Rattle.std.specs.Option.{option_copied_mut}
use Rattle.turn_history.specs.Prelude.{permitting}
use Rattle.turn_table.proofs.Changing.{changes, get-view, lists_changed}
use Rattle.turn_table.proofs.Options.{is_some_none, some_at, some_is}
use Rattle.turn_table.proofs.allocations.Allocations.permit.Goals as goal

pub unreachable-requires : goal.unreachable-requires
unreachable-requires g c =
    is_some_none (some_is _ _ c.requires) (get-view c.self.inside.entries.entries c.args.self.now.held (ap (λ l. l.held) c.self.view_is) c.args.tuple None (sym c.get_mut.ensures.value ∙ ap option_copied_mut c.in-None.is))

pub invariant_of-self : goal.invariant_of-self
invariant_of-self g c =
    lists_changed c.self.inside.entries.entries c.args.self.now.held (ap (λ l. l.held) c.self.view_is) c.args.tuple c.in-Some.entry.now c.permit.new.entry
    (c.get_mut.follows.lender c.permit.new.entry).entries (sym c.get_mut.ensures.value ∙ ap option_copied_mut c.in-Some.is)
    (λ some. ((c.get_mut.follows.holds c.permit.new.entry).3 some).0)
    c.self.invariant (ap (λ e. e.port) c.permit.ensures) (ap (λ e. e.user) c.permit.ensures)

pub returns : goal.returns
returns g c =
    changes c.self.inside.entries.entries c.args.self.now.held (ap (λ l. l.held) c.self.view_is) c.args.tuple c.in-Some.entry.now c.permit.new.entry
    (c.get_mut.follows.lender c.permit.new.entry).entries (sym c.get_mut.ensures.value ∙ ap option_copied_mut c.in-Some.is)
    (λ some. ((c.get_mut.follows.holds c.permit.new.entry).3 some).0)
    (permitting c.args.expiry c.args.addresses.now) c.permit.ensures

pub permit-requires : goal.permit-requires
permit-requires g c =
    some_at (λ h. length c.args.addresses.now ≤ h.permission_room) (fin.get c.args.self.now.held c.args.tuple) c.in-Some.entry.now c.requires
    (get-view c.self.inside.entries.entries c.args.self.now.held (ap (λ l. l.held) c.self.view_is) c.args.tuple (Some c.in-Some.entry.now) (sym c.get_mut.ensures.value ∙ ap option_copied_mut c.in-Some.is))
