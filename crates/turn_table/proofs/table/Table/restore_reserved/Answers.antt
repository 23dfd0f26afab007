use Rattle.std.proofs.Common.{ap, ◌∙◌, None, nat_cmp}
use Rattle.std.specs.FinMap as fin
use Rattle.turn_history.proofs.TableAt.{at-reserved}
use Rattle.turn_history.specs.Prelude.{Reservations}
use Rattle.turn_table.specs.Prelude.{map_in, state_of, State, with_reserved}
use Rattle.turn_table.proofs.Ends.{ports-above}
use Rattle.turn_table.proofs.Ready.{at_of, holds_earlier, holds_of, holds_reserved, min_below, ready_of}
use Rattle.turn_table.proofs.table.Table.restore_reserved.Goals as goal

pub returns-clause-ok : goal.returns-clause-ok
returns-clause-ok g c =
    let with : Reservations → State = λ q. state_of c.self.inside.limits c.self.inside.moment c.self.inside.allocations.held q None in
    ap with (c.put.ensures.map ∙ ap (λ xs. fin.insert (map_in nat_cmp (xs, 0)) c.args.port c.args.reservation) c.reserve.ensures.map)
    ∙ ap (λ s. with_reserved s c.args.port c.args.reservation) c.self.view_is

pub returns-clause-ports : goal.returns-clause-ports
returns-clause-ports g c =
    ap (λ s. fin.entries s.contents.reserved) (returns-clause-ok g c) ∙ ports-above c.args.self.now.contents c.args.port c.args.reservation c.requires.above

pub invariant_of-self-2 : goal.invariant_of-self-2
invariant_of-self-2 g c =
    let least = min_below c.self.inside.quiet_until c.args.reservation.expiry c.min-self-inside.result c.min-self-inside.ensures in
    ready_of (returns-clause-ok g c) c.self.invariant.range
    (at-reserved _ _ c.args.self.now.contents (at_of c.self.view_is c.self.invariant) c.args.port c.args.reservation c.requires.range c.requires.free c.requires.few)
    (holds_reserved (holds_earlier (holds_of c.self.view_is c.self.invariant) least.0) c.args.port c.args.reservation least.1)
