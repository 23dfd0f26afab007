use Rattle.std.proofs.Common.{sym, ap, ◌∙◌, Some, option_copied}
use Rattle.turn_table.proofs.Changing.{get-view}
use Rattle.turn_table.proofs.Options.{some_none}
use Rattle.turn_table.proofs.Held.{get-held_in}
use Rattle.turn_table.proofs.Index.{holder-found, port_at}
use Rattle.turn_table.proofs.allocations.Allocations.by_port.Goals as goal

pub returns-in_err-entry : goal.returns-in_err-entry
returns-in_err-entry g c =
    let at = holder-found c.self.invariant.0 c.in_ok-tuple.tuple c.args.port (sym c.get.ensures ∙ c.in_ok-tuple.was) in
    absurd (some_none at.1 (get-held_in c.self.inside.entries.entries c.in_ok-tuple.tuple ∙ sym c.get-2.ensures.value ∙ ap option_copied c.in_err-entry.was))

pub returns : goal.returns
returns g c =
    let there = sym c.get-2.ensures.value ∙ ap option_copied c.in_ok-entry.was in (
      get-view c.self.inside.entries.entries c.args.self.now.held (ap (λ l. l.held) c.self.view_is) c.in_ok-tuple.tuple (Some c.in_ok-entry.entry.now) there,
      port_at c.self.invariant.0 c.in_ok-tuple.tuple c.args.port c.in_ok-entry.entry.now (sym c.get.ensures ∙ c.in_ok-tuple.was)
          (get-held_in c.self.inside.entries.entries c.in_ok-tuple.tuple ∙ there),
    )
