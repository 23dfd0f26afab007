use Rattle.std.proofs.Common.{sym, ap, ◌∙◌, None}
use Rattle.std.specs.Option.{option_copied_mut}
use Rattle.turn_history.specs.Prelude.{renewed}
use Rattle.turn_table.proofs.Changing.{changes, get-view, lists_changed}
use Rattle.turn_table.proofs.Options.{is_some_none}
use Rattle.turn_table.proofs.allocations.Allocations.renew.Goals as goal

pub unreachable-requires : goal.unreachable-requires
unreachable-requires g c =
    is_some_none c.requires (get-view c.self.inside.entries.entries c.args.self.now.held (ap (λ l. l.held) c.self.view_is) c.args.tuple None (sym c.get_mut.ensures.value ∙ ap option_copied_mut c.in-None.is))

pub invariant_of-self : goal.invariant_of-self
invariant_of-self g c =
    lists_changed c.self.inside.entries.entries c.args.self.now.held (ap (λ l. l.held) c.self.view_is) c.args.tuple c.in-Some.entry.now c.set_expiry.new.entry
    (c.get_mut.follows.lender c.set_expiry.new.entry).entries (sym c.get_mut.ensures.value ∙ ap option_copied_mut c.in-Some.is)
    (λ some. ((c.get_mut.follows.holds c.set_expiry.new.entry).3 some).0)
    c.self.invariant (ap (λ e. e.port) c.set_expiry.ensures) (ap (λ e. e.user) c.set_expiry.ensures)

pub returns : goal.returns
returns g c =
    changes c.self.inside.entries.entries c.args.self.now.held (ap (λ l. l.held) c.self.view_is) c.args.tuple c.in-Some.entry.now c.set_expiry.new.entry
    (c.get_mut.follows.lender c.set_expiry.new.entry).entries (sym c.get_mut.ensures.value ∙ ap option_copied_mut c.in-Some.is)
    (λ some. ((c.get_mut.follows.holds c.set_expiry.new.entry).3 some).0)
    (renewed c.args.expiry) c.set_expiry.ensures
