use Rattle.std.proofs.Common.{◌<◌, ℕ, take, refl, sym, subst, arith, fold}
use Rattle.turn_requests.specs.Sending.{with_one}
use Rattle.turn_requests.proofs.Sizes.{long_front}
use Rattle.turn_requests.proofs.request.size_with.Goals as goal

pub returns-then-size-gt-MAX_ATTRIBUTES-clause-none : goal.returns-then-size-gt-MAX_ATTRIBUTES-clause-none
returns-then-size-gt-MAX_ATTRIBUTES-clause-none c = λ m is.
    let front = fold with_one m (take c.loop-attribute.attribute-index c.args.attributes.now) in
    let here = c.loop-attribute.invariant.1 m is in
    let grown = c.size_of-size.ensures.value front in
    let long = c.if-size-gt-MAX_ATTRIBUTES.true in
    long_front m front c.args.attributes.now _ _ c.loop-attribute-test.true refl (subst (λ (n : ℕ). 65532 < n) (sym grown) (omega arith))
