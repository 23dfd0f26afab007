use Rattle.std.proofs.Common.{sym, ap, ◌∙◌, None, ◌≤◌, Some}
use Rattle.std.specs.FinMap as fin
use Rattle.std.specs.Option.{option_copied_mut}
use Rattle.turn_history.specs.Prelude.{binding}
use Rattle.turn_table.proofs.Changing.{changes, get-view, lists_changed}
use Rattle.turn_table.proofs.Options.{is_some_none, some_at, some_is}
use Rattle.turn_table.proofs.allocations.Allocations.bind.Goals as goal

pub unreachable-requires : goal.unreachable-requires
unreachable-requires g c =
    is_some_none (some_is _ _ c.requires.room) (get-view c.self.inside.entries.entries c.args.self.now.held (ap (λ l. l.held) c.self.view_is) c.args.tuple None (sym c.get_mut.ensures.value ∙ ap option_copied_mut c.in-None.is))

pub invariant_of-self : goal.invariant_of-self
invariant_of-self g c =
    lists_changed c.self.inside.entries.entries c.args.self.now.held (ap (λ l. l.held) c.self.view_is) c.args.tuple c.in-Some.entry.now c.bind.new.entry
    (c.get_mut.follows.lender c.bind.new.entry).entries (sym c.get_mut.ensures.value ∙ ap option_copied_mut c.in-Some.is)
    (λ some. ((c.get_mut.follows.holds c.bind.new.entry).3 some).0)
    c.self.invariant (ap (λ e. e.port) c.bind.ensures) (ap (λ e. e.user) c.bind.ensures)

pub returns : goal.returns
returns g c =
    changes c.self.inside.entries.entries c.args.self.now.held (ap (λ l. l.held) c.self.view_is) c.args.tuple c.in-Some.entry.now c.bind.new.entry
    (c.get_mut.follows.lender c.bind.new.entry).entries (sym c.get_mut.ensures.value ∙ ap option_copied_mut c.in-Some.is)
    (λ some. ((c.get_mut.follows.holds c.bind.new.entry).3 some).0)
    (binding c.args.moment c.args.number c.args.peer) c.bind.ensures

pub bind-requires-clause-permissions : goal.bind-requires-clause-permissions
bind-requires-clause-permissions g c =
    (some_at (λ h. (1 ≤ h.permission_room) × (1 ≤ h.channel_room)) (fin.get c.args.self.now.held c.args.tuple) c.in-Some.entry.now c.requires.room
    (get-view c.self.inside.entries.entries c.args.self.now.held (ap (λ l. l.held) c.self.view_is) c.args.tuple (Some c.in-Some.entry.now) (sym c.get_mut.ensures.value ∙ ap option_copied_mut c.in-Some.is))).0

pub bind-requires-clause-channels : goal.bind-requires-clause-channels
bind-requires-clause-channels g c =
    (some_at (λ h. (1 ≤ h.permission_room) × (1 ≤ h.channel_room)) (fin.get c.args.self.now.held c.args.tuple) c.in-Some.entry.now c.requires.room
    (get-view c.self.inside.entries.entries c.args.self.now.held (ap (λ l. l.held) c.self.view_is) c.args.tuple (Some c.in-Some.entry.now) (sym c.get_mut.ensures.value ∙ ap option_copied_mut c.in-Some.is))).1
