use Rattle.std.proofs.Common.{sym, ap, ◌∙◌, option_map}
use Rattle.std.specs.FinMap as fin
use Rattle.turn_table.proofs.Held.{get-entries_of}
use Rattle.turn_table.proofs.table.Table.get.Goals as goal

pub returns : goal.returns
returns g c =
    ap (option_map (λ h. h.entry)) c.get.ensures ∙ sym (get-entries_of c.self.inside.allocations.held c.args.tuple)
    ∙ ap (λ s. fin.get s.contents.entries c.args.tuple) c.self.view_is
