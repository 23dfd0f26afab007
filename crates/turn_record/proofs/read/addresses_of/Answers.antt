use Rattle.std.proofs.Common.{[]}
use Rattle.std.proofs.lemmas.Result.{err_from_is_err_and}
use Rattle.turn_record.specs.Prelude.{many, address_at}
use Rattle.turn_record.proofs.Many.{goes_on, ends, is_done}
use Rattle.turn_record.proofs.read.addresses_of.Goals as goal

pub returns-in_err-address : goal.returns-in_err-address
returns-in_err-address g c =
    let p = err_from_is_err_and c.from_residual.result c.from_residual.ensures.1 in
    rw (p.1, p.2) (ends address_at c.in_err-address.field-0.0 c.args.count c.loop.counter c.loop.addresses.items c.loop.rest.now (many address_at c.args.count [] c.args.bytes.now) c.loop-test.true (rw c.deref.ensures.value at c.in_err-address.ensures) c.loop.invariant)

pub loop-preserved : goal.loop-preserved
loop-preserved g c =
    rw c.in_ok-push.ensures.items (goes_on address_at c.args.count c.loop.counter c.loop.addresses.items c.loop.rest.now c.in_ok-address.address c.in_ok-address.after.now (many address_at c.args.count [] c.args.bytes.now) c.loop-test.true (rw c.deref.ensures.value at c.in_ok-address.ensures) c.loop.invariant)

pub returns : goal.returns
returns g c = is_done address_at c.args.count c.loop.counter c.loop.addresses.items c.loop.rest.now (many address_at c.args.count [] c.args.bytes.now) c.loop-test.false c.loop.invariant
