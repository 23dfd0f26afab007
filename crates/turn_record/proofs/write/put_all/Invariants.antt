use Rattle.std.proofs.Common.{◌≡◌, ◌+◌, ◌≤◌, ◌++◌, drop, length, vec_capacity}
use Rattle.turn_record.specs.Prelude.{act_entry, each, events_of}
use Rattle.turn_record.proofs.write.put_all.Given as goal

abbrev pub invariant-loop-event : goal.invariant-loop-event
invariant-loop-event g l = record {
  items : l.out.items ++ each act_entry (events_of (drop l.event-index l.events)) ≡ l.fn.out.items ++ each act_entry (events_of l.events);
  room : length l.out.items + length (each act_entry (events_of (drop l.event-index l.events))) ≤ vec_capacity l.out;
  capacity : vec_capacity l.fn.out ≤ vec_capacity l.out;
}
