use Rattle.std.proofs.Common.{ap}
use Rattle.turn_table.proofs.States.{entry_of, free_of_port, matched}
use Rattle.turn_table.proofs.table.Table.by_port.Goals as goal

pub returns : goal.returns
returns g c =
    matched c.by_port.result
    (free_of_port c.self.inside.allocations.held c.args.self.now.contents (ap (λ s. s.contents) c.self.view_is) c.args.port)
    (λ x at. (entry_of c.self.inside.allocations.held c.args.self.now.contents (ap (λ s. s.contents) c.self.view_is) x.0 x.1.now at.0, at.1))
    c.by_port.ensures
