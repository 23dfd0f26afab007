use Rattle.std.proofs.Common.{ap, ◌∙◌, None}
use Rattle.std.specs.FinMap as fin
use Rattle.turn_history.proofs.TableAt.{at-released}
use Rattle.turn_history.specs.Prelude.{Reservations}
use Rattle.turn_table.specs.Prelude.{state_of, State}
use Rattle.turn_table.proofs.Ready.{at_of, holds_of, holds_released, ready_of}
use Rattle.turn_table.proofs.table.Table.end_reservation.Goals as goal

pub returns : goal.returns
returns g c =
    let with : Reservations → State = λ q. state_of c.self.inside.limits c.self.inside.moment c.self.inside.allocations.held q None in
    let after : State → State = λ s. record s { contents = record s.contents { reserved = fin.remove s.contents.reserved c.args.reserved_port }; room = None } in
    ap with c.remove.ensures.map ∙ ap after c.self.view_is

pub invariant_of-self : goal.invariant_of-self
invariant_of-self g c =
    ready_of (returns g c) c.self.invariant.range (at-released _ _ c.args.self.now.contents (at_of c.self.view_is c.self.invariant) c.args.reserved_port)
    (holds_released (holds_of c.self.view_is c.self.invariant) c.args.reserved_port)
