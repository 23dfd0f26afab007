use Rattle.std.proofs.Common.{◌≡◌, ◌++◌, ◌∷◌, []}
use Rattle.std.proofs.lemmas.Result.{err_from_is_err_and}
use Rattle.std.proofs.lemmas.List.{map_push}
use Rattle.turn_history.specs.Prelude.{event_of}
use Rattle.turn_record.specs.Prelude.{events_of, many, event_at}
use Rattle.turn_record.proofs.Many.{goes_on, ends, is_done}
use Rattle.turn_record.proofs.read.events_of.Goals as goal

pub returns-in_err-event : goal.returns-in_err-event
returns-in_err-event g c =
    let p = err_from_is_err_and c.from_residual.result c.from_residual.ensures.1 in
    rw (p.1, p.2) (ends (event_at c.args.version c.args.bounds) c.in_err-event.field-0.0 c.args.count c.loop.counter (events_of c.loop.events.items) c.loop.rest.now (many (event_at c.args.version c.args.bounds) c.args.count [] c.args.bytes.now) c.loop-test.true (rw c.deref.ensures.value at c.in_err-event.ensures) c.loop.invariant)

pub loop-preserved : goal.loop-preserved
loop-preserved g c =
    let n = c.in_ok-event.event in
    let e : events_of c.push.new.self.items ≡ events_of c.loop.events.items ++ event_of n ∷ [] = rw c.in_ok-push.ensures.items (map_push _ c.loop.events.items n) in
    rw e (goes_on (event_at c.args.version c.args.bounds) c.args.count c.loop.counter (events_of c.loop.events.items) c.loop.rest.now (event_of n) c.in_ok-event.after.now (many (event_at c.args.version c.args.bounds) c.args.count [] c.args.bytes.now) c.loop-test.true (rw c.deref.ensures.value at c.in_ok-event.ensures) c.loop.invariant)

pub returns : goal.returns
returns g c = is_done (event_at c.args.version c.args.bounds) c.args.count c.loop.counter (events_of c.loop.events.items) c.loop.rest.now (many (event_at c.args.version c.args.bounds) c.args.count [] c.args.bytes.now) c.loop-test.false c.loop.invariant
