use Rattle.std.proofs.Common.{sym, ap, ◌∙◌}
use Rattle.std.proofs.lemmas.Result.{on_ok_weaker}
use Rattle.std.specs.FinMap as fin
use Rattle.std.specs.Option.{option_copied_mut}
use Rattle.turn_table.specs.Prelude.{held_in, room_of}
use Rattle.turn_table.proofs.Changing.{entries_unchanged, get-changed, lists_changed, on_ok_both, room_inside}
use Rattle.turn_table.proofs.Held.{get-held_in}
use Rattle.turn_table.proofs.Options.{match_none}
use Rattle.turn_table.proofs.allocations.Allocations.make_room.Goals as goal

pub invariant_of-self : goal.invariant_of-self
invariant_of-self g c =
    lists_changed c.self.inside.entries.entries c.args.self.now.held (ap (λ l. l.held) c.self.view_is) c.args.room.tuple c.in-Some.entry.now c.make_room.new.entry
    (c.get_mut.follows.lender c.make_room.new.entry).entries (sym c.get_mut.ensures.value ∙ ap option_copied_mut c.in-Some.is)
    (λ some. ((c.get_mut.follows.holds c.make_room.new.entry).3 some).0)
    c.self.invariant (ap (λ e. e.port) c.make_room.ensures.same) (ap (λ e. e.user) c.make_room.ensures.same)

pub returns-in-Some-clause-same : goal.returns-in-Some-clause-same
returns-in-Some-clause-same g c =
    entries_unchanged c.self.inside.entries.entries c.args.self.now.held (ap (λ l. l.held) c.self.view_is) c.args.room.tuple c.in-Some.entry.now c.make_room.new.entry
    (c.get_mut.follows.lender c.make_room.new.entry).entries (sym c.get_mut.ensures.value ∙ ap option_copied_mut c.in-Some.is)
    (λ some. ((c.get_mut.follows.holds c.make_room.new.entry).3 some).0)
    c.make_room.ensures.same

pub returns-in-Some-clause-room : goal.returns-in-Some-clause-room
returns-in-Some-clause-room g c =
    on_ok_both c.make_room.result c.make_room.ensures.permissions c.make_room.ensures.channels
    (room_inside (room_of c.args.room) _ c.make_room.new.entry
    (get-changed c.self.inside.entries.entries c.args.self.now.held (ap (λ l. l.held) c.self.view_is) c.args.room.tuple c.in-Some.entry.now c.make_room.new.entry
    (c.get_mut.follows.lender c.make_room.new.entry).entries (sym c.get_mut.ensures.value ∙ ap option_copied_mut c.in-Some.is)
    (λ some. ((c.get_mut.follows.holds c.make_room.new.entry).3 some).0)))

pub returns-in-None-clause-room : goal.returns-in-None-clause-room
returns-in-None-clause-room g c =
    on_ok_weaker c.reserve.result
    (match_none _ _ (fin.get c.reserve.new.self.held c.args.room.tuple)
    (ap (λ m. fin.get m c.args.room.tuple) c.reserve.ensures.same
    ∙ ap (λ m. fin.get (held_in m.entries) c.args.room.tuple) c.get_mut.follows.holds-at-none
    ∙ get-held_in c.self.inside.entries.entries c.args.room.tuple ∙ sym c.get_mut.ensures.value ∙ ap option_copied_mut c.in-None.is)) c.reserve.ensures.room
