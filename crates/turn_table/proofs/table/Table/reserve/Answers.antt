use Rattle.std.proofs.Common.{refl, ap, option_map, nat_cmp}
use Rattle.turn_table.specs.Prelude.{map_in, room_of}
use Rattle.turn_table.proofs.Ready.{at_of, holds_of, ready_of, ready_with}
use Rattle.turn_table.proofs.States.{same-is}
use Rattle.turn_table.proofs.table.Table.reserve.Goals as goal

pub invariant_of-self : goal.invariant_of-self
invariant_of-self g c =
    ready_of (same-is c.self.inside.limits c.self.inside.moment c.self.inside.allocations.held (option_map room_of c.self.inside.room) c.args.self.now c.self.view_is
    c.make_room.new.self.held c.make_room.ensures.same refl) c.self.invariant.range (at_of c.self.view_is c.self.invariant) (holds_of c.self.view_is c.self.invariant)

pub invariant_of-self-in_err-reserve : goal.invariant_of-self-in_err-reserve
invariant_of-self-in_err-reserve g c =
    ready_of (same-is c.self.inside.limits c.self.inside.moment c.self.inside.allocations.held (option_map room_of c.self.inside.room) c.args.self.now c.self.view_is
    c.make_room.new.self.held c.make_room.ensures.same (ap (λ xs. map_in nat_cmp (xs, 0)) c.reserve.ensures.map)) c.self.invariant.range (at_of c.self.view_is c.self.invariant) (holds_of c.self.view_is c.self.invariant)

pub invariant_of-self-2 : goal.invariant_of-self-2
invariant_of-self-2 g c =
    ready_with (ready_of (same-is c.self.inside.limits c.self.inside.moment c.self.inside.allocations.held (option_map room_of c.self.inside.room) c.args.self.now c.self.view_is
    c.make_room.new.self.held c.make_room.ensures.same (ap (λ xs. map_in nat_cmp (xs, 0)) c.reserve.ensures.map)) c.self.invariant.range (at_of c.self.view_is c.self.invariant) (holds_of c.self.view_is c.self.invariant))
    (room_of c.args.room) c.in_ok-make_room.ensures.room c.in_ok-reserve.ensures.room
