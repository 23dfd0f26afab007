use Rattle.std.proofs.Common.{◌≡◌, ◌↔◌, length}
use Rattle.std.specs.List.{AllByRecursion}
use Rattle.turn_history.specs.Prelude.{IsInRange}
use Rattle.turn_record.specs.Prelude.{events_of}
use Rattle.turn_store.specs.Prelude.{GoOn, after_all, snapshot_of}
use Rattle.turn_store.proofs.replay.apply_all.Given as goal

abbrev pub decreases-loop-events : goal.decreases-loop-events
decreases-loop-events g l = length l.events.items

abbrev pub invariant-loop-events : goal.invariant-loop-events
invariant-loop-events g l = record {
  bounds : l.table.bounds ≡ l.initial.table.bounds;
  range : AllByRecursion (IsInRange l.initial.table.bounds) (events_of l.events.items);
  goes : GoOn l.initial.table.bounds (snapshot_of l.initial.table) (events_of l.fn.events.items) ↔ GoOn l.initial.table.bounds (snapshot_of l.table) (events_of l.events.items);
  ends : after_all (snapshot_of l.initial.table) (events_of l.fn.events.items) ≡ after_all (snapshot_of l.table) (events_of l.events.items);
}
