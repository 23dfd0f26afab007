use Rattle.std.proofs.Common.{◌≡◌, ◌+◌, ℕ, ◌*◌, ◌∙◌, List, [], ◌∷◌, ◌++◌, ap, length, arith, append_assoc, length-append}
use Rattle.turn_history.specs.Prelude.{event_of}
use Rattle.turn_record.specs.Prelude.{act_entry, each, events_of}
use Rattle.turn_record.proofs.Last.{length-map}
use Rattle.turn_record.proofs.Sizes.{all_short, acts_at_most, batch_at_most, product_at_most}
use Rattle.turn_record.proofs.write.write_payload.Goals as goal

pub put_all-requires-clause-short : goal.put_all-requires-clause-short
put_all-requires-clause-short g c = all_short c.args.limits (rw c.bounds-bounds.ensures.value at c.bounds-bounds.ensures.range) c.args.events.now c.requires.in_range

pub put_all-requires-clause-room : goal.put_all-requires-clause-room
put_all-requires-clause-room g c =
    let size = acts_at_most c.args.version c.args.limits c.args.events.now c.requires in
    let same = ap (λ (m : ℕ). length c.args.events.now * m) c.max_act.ensures.value in
    let count : length c.put.new.out.items ≡ length c.reserve.new.self.items + 1 = ap length c.put.ensures.items ∙ length-append c.reserve.new.self.items _ in
    omega (arith, size, same, count, c.put.ensures.capacity, c.in_ok-reserve.ensures)

pub overflow_mul-events : goal.overflow_mul-events
overflow_mul-events g c =
    let few = batch_at_most c.args.version c.args.limits (rw c.bounds-bounds.ensures.value at c.bounds-bounds.ensures.range) c.args.events.now c.requires in
    omega (arith, product_at_most (length c.args.events.now) c.max_act.result few c.max_act.ensures.small)

pub overflow_add-events : goal.overflow_add-events
overflow_add-events g c =
    let few = batch_at_most c.args.version c.args.limits (rw c.bounds-bounds.ensures.value at c.bounds-bounds.ensures.range) c.args.events.now c.requires in
    omega (arith, product_at_most (length c.args.events.now) c.max_act.result few c.max_act.ensures.small)

pub overflow_cast-events : goal.overflow_cast-events
overflow_cast-events g c =
    let few = batch_at_most c.args.version c.args.limits (rw c.bounds-bounds.ensures.value at c.bounds-bounds.ensures.range) c.args.events.now c.requires in
    omega (arith, few)

pub returns-in_err-reserve-clause-room : goal.returns-in_err-reserve-clause-room
returns-in_err-reserve-clause-room g c = λ room.
    let same = ap (λ (m : ℕ). length c.args.events.now * m) c.max_act.ensures.value in
    absurd (omega (arith, room, same, c.in_err-reserve.ensures.full))

pub returns-clause-ok : goal.returns-clause-ok
returns-clause-ok g c =
    let es = c.args.events.now in
    let rest = each act_entry (events_of es) in
    let start : c.put.new.out.items ≡ c.args.out.now.items ++ length es ∷ [] = rw c.reserve.ensures.items at c.put.ensures.items in
    rw (length-map event_of es) (c.put_all.ensures.items ∙ ap (λ (u : List ℕ). u ++ rest) start ∙ append_assoc c.args.out.now.items (length es ∷ []) rest)
