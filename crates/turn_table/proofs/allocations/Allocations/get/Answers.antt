use Rattle.std.proofs.Common.{sym, ap, ◌∙◌}
use Rattle.std.specs.FinMap as fin
use Rattle.turn_table.proofs.Held.{get-held_in}
use Rattle.turn_table.proofs.allocations.Allocations.get.Goals as goal

pub returns : goal.returns
returns g c =
    c.get.ensures.value ∙ sym (get-held_in c.self.inside.entries.entries c.args.tuple) ∙ ap (λ l. fin.get l.held c.args.tuple) c.self.view_is
