use Rattle.std.proofs.Common.{Bool, sym, subst, ◌∙◌}
use Rattle.turn_codec.specs.Prelude.{FirstHas, from, attributes_of}
use Rattle.turn_codec.proofs.Walk.{rest_shorter}
use Rattle.turn_codec.proofs.Finding.{looks_more, looks_here, looks_none}
use Rattle.turn_codec.proofs.attribute.find_attribute.Goals as goal

pub returns-then-found-number : goal.returns-then-found-number
returns-then-found-number c =
    let here = looks_here c.args.kind c.args.body.now c.loop-found.rest.now c.in-Some.after.now (record { kind = c.in-Some.found; value = c.in-Some.value.now }) c.loop-found.invariant (sym c.in-Some.ensures) (c.if-found-number.true ∙ c.number-number.ensures.value) in
    (here.0, here.1, subst (λ (b : Bool). FirstHas (from c.args.kind (attributes_of c.args.body.now)) c.in-Some.value.now b) (sym c.is_empty.ensures) here.2)

pub loop-found-smaller : goal.loop-found-smaller
loop-found-smaller c = rest_shorter c.loop-found.rest.now _ c.in-Some.after.now (sym c.in-Some.ensures)

pub loop-found-preserved : goal.loop-found-preserved
loop-found-preserved c = looks_more c.args.kind c.args.body.now c.loop-found.rest.now c.in-Some.after.now (record { kind = c.in-Some.found; value = c.in-Some.value.now }) c.loop-found.invariant (sym c.in-Some.ensures) (λ e. c.if-found-number.false (e ∙ sym c.number-number.ensures.value))

pub returns : goal.returns
returns c = looks_none c.args.kind c.args.body.now c.loop-found.rest.now c.loop-found.invariant (sym c.in_default.ensures)
