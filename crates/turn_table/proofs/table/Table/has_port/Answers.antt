use Rattle.std.proofs.Common.{◌∙◌}
use Rattle.turn_table.proofs.States.{taken_by}
use Rattle.turn_table.proofs.table.Table.has_port.Goals as goal

pub returns-clause-value : goal.returns-clause-value
returns-clause-value g c = c.is_some.ensures ∙ taken_by c.args.self.now.contents c.args.port (λ x. (x.0, x.1.now.entry)) c.by_port.result c.by_port.ensures
