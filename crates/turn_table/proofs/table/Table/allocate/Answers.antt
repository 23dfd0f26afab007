use Rattle.std.proofs.Common.{◌≡◌, ◌≤◌, ◌+◌, ℕ, ap, sym, ◌∙◌, arith, rules, subst, option_map, None, IfSome, nat_cmp}
use Rattle.std.specs.FinMap as fin
use Rattle.turn_history.specs.Prelude.{Reservations, with_reservation}
use Rattle.turn_history.specs.declared.reservation.Reservation.{Reservation}
use Rattle.turn_types.specs.Prelude.{reservation_lifetime}
use Rattle.turn_table.specs.Prelude.{map_in, room_of}
use Rattle.turn_table.proofs.Options.{none_of, some_none, some_then}
use Rattle.turn_table.proofs.Ready.{holds_allocated, holds_earlier, holds_of, min_below, quiet_before, ready_of}
use Rattle.turn_table.proofs.States.{absent_of, port_free_of, room_for, some_weaker, with_allocation-is}
use Rattle.turn_table.proofs.table.Table.allocate.Goals as goal

pub insert-requires-clause-absent : goal.insert-requires-clause-absent
insert-requires-clause-absent g c = absent_of c.self.inside.allocations.held c.args.self.now.contents (ap (λ s. s.contents) c.self.view_is) c.args.tuple c.requires.absent

pub insert-requires-clause-room : goal.insert-requires-clause-room
insert-requires-clause-room g c =
    room_for c.self.inside.allocations c.args.tuple (insert-requires-clause-absent g c)
    c.args.self.now.room (λ r is. (c.self.invariant.spare r (ap (λ s. s.room) c.self.view_is ∙ is)).0) (some_weaker _ (λ r. r.tuple ≡ c.args.tuple) c.args.self.now.room (λ r both. both.0) c.requires.room)

pub insert-requires-clause-free : goal.insert-requires-clause-free
insert-requires-clause-free g c = port_free_of c.self.inside.allocations.held c.args.self.now.contents (ap (λ s. s.contents) c.self.view_is) c.args.entry.entry.port c.requires.free

pub put-requires : goal.put-requires
put-requires g c =
    let one : 1 ≤ c.self.inside.reserved.1 = some_then _ c.args.self.now.room c.requires.room (λ r is needs.
    let room = (c.self.invariant.spare r (ap (λ s. s.room) c.self.view_is ∙ is)).1 in
    let ports : 1 ≤ r.ports = subst (λ t. IfSome t (λ _. 1 ≤ r.ports)) (sym c.in-Some.ensures) needs.1 in
    omega (arith, room, ports)) in
    omega (arith, one, c.remove.ensures.room)

-- ---- Without a token

pub returns-in_default : goal.returns-in_default
returns-in_default g c =
    let old : Reservations = map_in nat_cmp c.self.inside.reserved in
    let removed : map_in nat_cmp c.remove.new.self ≡ fin.remove old c.args.entry.entry.port = c.remove.ensures.map ∙ ap (fin.remove old) (search rules) in
    let none : c.args.entry.entry.token ≡ None = sym c.token-token.ensures ∙ none_of c.token-token.result c.in_default.not-Some in
    with_allocation-is c.self.inside.limits c.self.inside.moment c.self.inside.allocations.held (option_map room_of c.self.inside.room) c.args.self.now c.self.view_is
    c.insert.new.self.held c.args.tuple c.args.entry c.insert.ensures (map_in nat_cmp c.remove.new.self)
    (removed ∙ ap (λ t. with_reservation c.args.self.now.moment c.args.entry.entry.port t (fin.remove old c.args.entry.entry.port)) (sym none))

pub invariant_of-self-in_default : goal.invariant_of-self-in_default
invariant_of-self-in_default g c =
    let least = min_below c.self.inside.quiet_until c.earliest.result c.min-self-inside.result c.min-self-inside.ensures in
    ready_of (returns-in_default g c) c.self.invariant.range c.requires.at
    (holds_allocated (holds_earlier (holds_of c.self.view_is c.self.invariant) least.0) c.args.self.now.moment c.args.tuple c.args.entry.entry
    (quiet_before _ c.earliest.result c.args.entry.entry least.1 c.earliest.ensures)
    (λ k some. absurd (some_none some (sym c.token-token.ensures ∙ none_of c.token-token.result c.in_default.not-Some))))

-- ---- With a token

pub returns-in-Some : goal.returns-in-Some
returns-in-Some g c =
    let old : Reservations = map_in nat_cmp c.self.inside.reserved in
    let port = c.args.entry.entry.port in
    let r : Reservation = record { token = c.in-Some.token; expiry = c.seconds-expiry.result + reservation_lifetime } in
    let removed : map_in nat_cmp c.remove.new.self ≡ fin.remove old port = c.remove.ensures.map ∙ ap (fin.remove old) (search rules) in
    let put : map_in nat_cmp c.put.new.self ≡ fin.insert (fin.remove old port) (port + 1) r =
    c.put.ensures.map ∙ ap (λ m. fin.insert m (c.port-port.result + 1) r) removed ∙ ap (λ p. fin.insert (fin.remove old port) (p + 1) r) c.port-port.ensures in
    let with_expiry : ℕ → Reservations = λ t. fin.insert (fin.remove old port) (port + 1) (record { token = c.in-Some.token; expiry = t + reservation_lifetime }) in
    with_allocation-is c.self.inside.limits c.self.inside.moment c.self.inside.allocations.held (option_map room_of c.self.inside.room) c.args.self.now c.self.view_is
    c.insert.new.self.held c.args.tuple c.args.entry c.insert.ensures (map_in nat_cmp c.put.new.self)
    (put ∙ ap with_expiry (c.seconds-expiry.ensures.value ∙ ap (λ s. s.moment) c.self.view_is) ∙ ap (λ t. with_reservation c.args.self.now.moment port t (fin.remove old port)) c.in-Some.ensures)

pub invariant_of-self : goal.invariant_of-self
invariant_of-self g c =
    let moment = c.seconds-expiry.ensures.value ∙ ap (λ s. s.moment) c.self.view_is in
    let least = min_below c.self.inside.quiet_until c.earliest.result c.min-self-inside.result c.min-self-inside.ensures in
    let less = min_below c.min-self-inside.result (c.seconds-expiry.result + reservation_lifetime) c.min-self-inside-in-Some.result c.min-self-inside-in-Some.ensures in
    ready_of (returns-in-Some g c) c.self.invariant.range c.requires.at
    (holds_allocated (holds_earlier (holds_of c.self.view_is c.self.invariant) (omega (arith, less.0, least.0))) c.args.self.now.moment c.args.tuple c.args.entry.entry
    (quiet_before _ c.earliest.result c.args.entry.entry (omega (arith, less.0, least.1)) c.earliest.ensures) (λ k some. omega (arith, less.1, moment)))
