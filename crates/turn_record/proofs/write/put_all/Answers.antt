use Rattle.std.proofs.Common.{◌≡◌, ◌+◌, ◌++◌, length, sym, subst, ap, ◌∙◌, arith, length-append}
use Rattle.turn_history.specs.Prelude.{act_of, event_of}
use Rattle.turn_record.specs.Prelude.{act_entry, HasShortParts}
use Rattle.turn_record.proofs.Appended.{one_more_of, size_left_of}
use Rattle.turn_record.proofs.write.put_all.Goals as goal

pub put_act-requires : goal.put_act-requires
put_act-requires g c =
    let left = size_left_of event_of act_entry c.args.events.now c.loop-event.event-index c.event-item.result c.loop-event-test.true c.event-item.is in
    record {
      short = subst (λ e. HasShortParts (act_of e.act)) (sym c.event-item.is) (c.requires.short c.loop-event.event-index c.event-item.result c.loop-event-test.true);
      room = omega (arith, left, c.loop-event.invariant.room);
    }

pub loop-event-preserved : goal.loop-event-preserved
loop-event-preserved g c =
    let e = event_of c.event-item.result in
    let added : c.put_act.new.out.items ≡ c.loop-event.out.items ++ act_entry e = c.put_act.ensures.items in
    let size : length c.put_act.new.out.items ≡ length c.loop-event.out.items + length (act_entry e) = ap length added ∙ length-append c.loop-event.out.items (act_entry e) in
    let left = size_left_of event_of act_entry c.args.events.now c.loop-event.event-index c.event-item.result c.loop-event-test.true c.event-item.is in
    record {
      items = one_more_of event_of act_entry c.args.events.now c.loop-event.event-index c.event-item.result c.loop-event.out.items c.put_act.new.out.items _ c.loop-event-test.true c.event-item.is added c.loop-event.invariant.items;
      room = omega (arith, left, size, c.loop-event.invariant.room, c.put_act.ensures.capacity);
      capacity = omega (arith, c.loop-event.invariant.capacity, c.put_act.ensures.capacity);
    }
