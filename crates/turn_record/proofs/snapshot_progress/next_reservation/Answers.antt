use Rattle.std.specs.FinMap as fin
use Rattle.turn_history.specs.Prelude.{IsReservationInRange, PortIsFree}
use Rattle.turn_record.specs.Prelude.{reservation_at}
use Rattle.turn_record.proofs.Onward.{front_reservation, next_of, whole_keeps}
use Rattle.turn_record.proofs.snapshot_progress.next_reservation.Goals as goal
use Rattle.turn_table.specs.Prelude.{IsAboveReserved}

pub returns-clause-next : goal.returns-clause-next
returns-clause-next g c =
    let s = c.args.table.now in
    rw c.if_whole.ensures (next_of _ _ (reservation_at s.moment (fin.entries s.contents.entries) (fin.entries s.contents.reserved)) (front_reservation _ _ _) c.args.bytes.now
    c.reservation_after.result c.reservation_after.ensures.gives)

pub returns-clause-range : goal.returns-clause-range
returns-clause-range g c = rw c.if_whole.ensures (whole_keeps (λ x. IsReservationInRange c.args.table.now.moment x.0 x.1) c.reservation_after.result c.reservation_after.ensures.range)

pub returns-clause-above : goal.returns-clause-above
returns-clause-above g c = rw c.if_whole.ensures (whole_keeps (λ x. IsAboveReserved c.args.table.now.contents x.0) c.reservation_after.result c.reservation_after.ensures.above)

pub returns-clause-free : goal.returns-clause-free
returns-clause-free g c = rw c.if_whole.ensures (whole_keeps (λ x. PortIsFree c.args.table.now.contents x.0) c.reservation_after.result c.reservation_after.ensures.free)
