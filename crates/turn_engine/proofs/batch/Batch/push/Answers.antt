use Rattle.turn_history.specs.Prelude.{act_of, Event}
use Rattle.turn_record.specs.Prelude.{act_entry}
use Rattle.turn_record.proofs.Sizes.{act_at_most}
use Rattle.turn_engine.proofs.Batches.{pushed-sound, pushed-payload}
use Rattle.turn_engine.proofs.batch.Batch.push.Goals as goal

pub invariant_of-self : goal.invariant_of-self
invariant_of-self g c =
    let e : Event = record { moment = c.args.moment; tuple = c.args.five_tuple; act = act_of c.args.act.now } in
    let range = rw (← c.self.view_is) at c.requires.in_range in
    let few = rw (← c.self.view_is) at c.requires.few in
    let writes = rw (← c.self.view_is) at c.requires.writes in
    rw (c.in-Ok-push.ensures.items, c.in-Ok.ensures.ok) (pushed-sound _ _ _ _ (act_entry e) _ _ _ _ _ c.args.five_tuple c.self.invariant few (act_at_most _ _ e writes range) c.write_act.ensures.capacity c.push.ensures.capacity)

pub returns-clause-payload : goal.returns-clause-payload
returns-clause-payload g c = λ es is.
    let e : Event = record { moment = c.args.moment; tuple = c.args.five_tuple; act = act_of c.args.act.now } in
    rw c.in-Ok.ensures.ok (pushed-payload es e _ _ (rw (← c.self.view_is) at is) c.self.invariant.counted)
