use Rattle.std.proofs.Common.{◌≡◌, ◌-◌, []}
use Rattle.turn_record.specs.Prelude.{events_of, many, event_at}
use Rattle.turn_record.proofs.read.events_of.Given as goal

abbrev pub invariant-loop : goal.invariant-loop
invariant-loop g l = many (event_at l.version l.bounds) (l.count - l.counter) (events_of l.events.items) l.rest ≡ many (event_at l.version l.bounds) l.count [] l.bytes
