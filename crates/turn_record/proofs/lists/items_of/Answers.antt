use Rattle.std.proofs.Common.{[]}
use Rattle.std.proofs.lemmas.Result.{err_from_is_err_and}
use Rattle.turn_record.specs.Prelude.{many}
use Rattle.turn_record.proofs.Many.{goes_on, ends, is_done}
use Rattle.turn_record.proofs.lists.items_of.Goals as goal

pub returns-in_err-item : goal.returns-in_err-item
returns-in_err-item g c =
    let item = g.T.ListItem.item_at c.args.moment in
    let p = err_from_is_err_and c.from_residual-in_err-item.result c.from_residual-in_err-item.ensures.1 in
    rw (p.1, p.2) (ends item c.in_err-item.field-0.0 c.args.count c.loop.counter c.loop.items.items c.loop.rest.now (many item c.args.count [] c.args.bytes.now) c.loop-test.true (rw c.deref.ensures.value at c.in_err-item.ensures) c.loop.invariant)

pub loop-preserved : goal.loop-preserved
loop-preserved g c =
    let item = g.T.ListItem.item_at c.args.moment in
    rw c.in_ok-push.ensures.items (goes_on item c.args.count c.loop.counter c.loop.items.items c.loop.rest.now c.in_ok-item.item c.in_ok-item.after.now (many item c.args.count [] c.args.bytes.now) c.loop-test.true (rw c.deref.ensures.value at c.in_ok-item.ensures) c.loop.invariant)

pub returns : goal.returns
returns g c =
    let item = g.T.ListItem.item_at c.args.moment in
    is_done item c.args.count c.loop.counter c.loop.items.items c.loop.rest.now (many item c.args.count [] c.args.bytes.now) c.loop-test.false c.loop.invariant
