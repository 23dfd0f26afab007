use Rattle.std.proofs.Common.{sym, ap, ◌∙◌}
use Rattle.std.specs.FinMap as fin
use Rattle.turn_table.proofs.Held.{len-entries_of}
use Rattle.turn_table.proofs.table.Table.len.Goals as goal

pub returns : goal.returns
returns g c = c.len.ensures ∙ sym (len-entries_of c.self.inside.allocations.held) ∙ ap (λ s. fin.len s.contents.entries) c.self.view_is
