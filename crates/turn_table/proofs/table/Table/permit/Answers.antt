use Rattle.std.proofs.Common.{◌≤◌, length, ap, ◌∙◌, option_map}
use Rattle.std.specs.FinMap as fin
use Rattle.turn_history.specs.Prelude.{Permits, permitting}
use Rattle.turn_table.specs.Prelude.{room_of, room_for}
use Rattle.turn_table.proofs.Options.{some_is}
use Rattle.turn_table.proofs.Ready.{holds_of, min_below, quiet_permitting, ready_changed}
use Rattle.turn_table.proofs.States.{changed-is, room_inside, some_weaker, there_of}
use Rattle.turn_table.proofs.table.Table.permit.Goals as goal

pub returns : goal.returns
returns g c =
    changed-is c.self.inside.limits c.self.inside.moment c.self.inside.allocations.held (option_map room_of c.self.inside.room) c.args.self.now c.self.view_is
    c.permit.new.self.held c.args.tuple (permitting c.args.expiry c.args.addresses.now) c.permit.ensures

pub invariant_of-self : goal.invariant_of-self
invariant_of-self g c =
    let least = min_below c.self.inside.quiet_until c.args.expiry c.min-self-inside.result c.min-self-inside.ensures in
    ready_changed _ _ c.args.self.now c.self.invariant.range (holds_of c.self.view_is c.self.invariant) least.0 c.args.tuple (permitting c.args.expiry c.args.addresses.now)
    (λ e quiet. quiet_permitting _ _ e least.0 quiet c.args.expiry c.args.addresses.now least.1) c.requires.at (returns g c)

pub permit-requires : goal.permit-requires
permit-requires g c =
    let room = c.self.invariant.spare (room_for c.args.tuple (Permits c.args.addresses.now)) (ap (λ s. s.room) c.self.view_is ∙ c.requires.room) in
    let inside = room_inside (room_for c.args.tuple (Permits c.args.addresses.now)) c.self.inside.allocations room.0 (there_of c.self.inside.allocations.held c.args.self.now.contents (ap (λ s. s.contents) c.self.view_is) c.args.tuple (some_is _ (fin.get c.args.self.now.contents.entries c.args.tuple) c.requires.at)) in
    some_weaker _ (λ h. length c.args.addresses.now ≤ h.permission_room) (fin.get c.self.inside.allocations.held c.args.tuple) (λ h both. both.0) inside
