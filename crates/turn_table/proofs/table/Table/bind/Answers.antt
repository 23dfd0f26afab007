use Rattle.std.proofs.Common.{◌+◌, ap, ◌∙◌, arith, option_map, subst}
use Rattle.std.specs.FinMap as fin
use Rattle.turn_history.specs.Prelude.{Binds, binding}
use Rattle.turn_table.specs.Prelude.{Changes, room_of, room_for}
use Rattle.turn_table.proofs.Options.{some_is}
use Rattle.turn_table.proofs.Ready.{holds_of, min_below, quiet_binding, ready_changed}
use Rattle.turn_table.proofs.States.{changed-is, room_inside, there_of}
use Rattle.turn_table.proofs.table.Table.bind.Goals as goal
use Rattle.turn_types.specs.Prelude.{permission_lifetime}

pub returns : goal.returns
returns g c =
    changed-is c.self.inside.limits c.self.inside.moment c.self.inside.allocations.held (option_map room_of c.self.inside.room) c.args.self.now c.self.view_is
    c.bind.new.self.held c.args.tuple (binding c.args.self.now.moment c.args.number c.args.peer)
    (subst (λ t. Changes c.args.tuple (binding t c.args.number c.args.peer) c.self.inside.allocations.held c.bind.new.self.held) (c.seconds-seconds.ensures.value ∙ ap (λ s. s.moment) c.self.view_is) c.bind.ensures)

pub invariant_of-self : goal.invariant_of-self
invariant_of-self g c =
    let least = min_below c.self.inside.quiet_until (c.seconds-seconds.result + permission_lifetime) c.min-self-inside.result c.min-self-inside.ensures in
    let moment = c.seconds-seconds.ensures.value ∙ ap (λ s. s.moment) c.self.view_is in
    ready_changed _ _ c.args.self.now c.self.invariant.range (holds_of c.self.view_is c.self.invariant) least.0 c.args.tuple (binding c.args.self.now.moment c.args.number c.args.peer)
    (λ e quiet. quiet_binding _ _ e least.0 quiet c.args.self.now.moment c.args.number c.args.peer (omega (arith, least.1, moment))) c.requires.at (returns g c)

pub bind-requires-clause-room : goal.bind-requires-clause-room
bind-requires-clause-room g c =
    let room = c.self.invariant.spare (room_for c.args.tuple (Binds c.args.number c.args.peer)) (ap (λ s. s.room) c.self.view_is ∙ c.requires.room) in
    room_inside (room_for c.args.tuple (Binds c.args.number c.args.peer)) c.self.inside.allocations room.0 (there_of c.self.inside.allocations.held c.args.self.now.contents (ap (λ s. s.contents) c.self.view_is) c.args.tuple (some_is _ (fin.get c.args.self.now.contents.entries c.args.tuple) c.requires.at))
