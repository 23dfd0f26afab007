use Rattle.std.proofs.Common.{ap, ◌∙◌, option_map}
use Rattle.turn_history.proofs.TableAt.{at-inserted}
use Rattle.turn_table.specs.Prelude.{room_of}
use Rattle.turn_table.proofs.Ready.{at_of, holds_earlier, holds_inserted, holds_of, min_below, quiet_before, ready_of}
use Rattle.turn_table.proofs.States.{absent_of, port_free_of, room_for, with_entry-is}
use Rattle.turn_table.proofs.table.Table.insert_entry.Goals as goal

pub insert-requires-clause-absent : goal.insert-requires-clause-absent
insert-requires-clause-absent g c = absent_of c.self.inside.allocations.held c.args.self.now.contents (ap (λ s. s.contents) c.self.view_is) c.args.tuple c.requires.absent

pub insert-requires-clause-room : goal.insert-requires-clause-room
insert-requires-clause-room g c =
    room_for c.self.inside.allocations c.args.tuple (insert-requires-clause-absent g c)
    c.args.self.now.room (λ r is. (c.self.invariant.spare r (ap (λ s. s.room) c.self.view_is ∙ is)).0) c.requires.room

pub insert-requires-clause-free : goal.insert-requires-clause-free
insert-requires-clause-free g c = port_free_of c.self.inside.allocations.held c.args.self.now.contents (ap (λ s. s.contents) c.self.view_is) c.args.entry.entry.port c.requires.free

pub returns : goal.returns
returns g c =
    with_entry-is c.self.inside.limits c.self.inside.moment c.self.inside.allocations.held (option_map room_of c.self.inside.room) c.args.self.now c.self.view_is
    c.insert.new.self.held c.args.tuple c.args.entry c.insert.ensures

pub invariant_of-self : goal.invariant_of-self
invariant_of-self g c =
    let least = min_below c.self.inside.quiet_until c.earliest.result c.min-self-inside.result c.min-self-inside.ensures in
    ready_of (returns g c) c.self.invariant.range
    (at-inserted _ _ c.args.self.now.contents (at_of c.self.view_is c.self.invariant) c.args.tuple c.args.entry.entry c.requires.entry c.requires.free c.requires.unreserved c.requires.few)
    (holds_inserted (holds_earlier (holds_of c.self.view_is c.self.invariant) least.0) c.args.tuple c.args.entry.entry
    (quiet_before _ c.earliest.result c.args.entry.entry least.1 c.earliest.ensures))
