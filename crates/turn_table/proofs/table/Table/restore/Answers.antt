use Rattle.std.proofs.Common.{ap, ◌∙◌}
use Rattle.std.specs.FinMap as fin
use Rattle.turn_table.specs.Prelude.{with_entry}
use Rattle.turn_table.proofs.Ends.{entries-above}
use Rattle.turn_table.proofs.table.Table.restore.Goals as goal

pub returns-clause-entries : goal.returns-clause-entries
returns-clause-entries g c =
    ap (λ s. fin.entries s.contents.entries) (c.insert_entry.ensures ∙ ap (λ s. with_entry s c.args.tuple c.args.entry.entry) c.in_ok-reserve.ensures.ok)
    ∙ entries-above c.args.self.now.contents c.args.tuple c.args.entry.entry c.requires.above
