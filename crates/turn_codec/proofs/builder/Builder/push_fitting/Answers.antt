use Rattle.std.proofs.Common.{arith}
use Rattle.turn_codec.specs.Prelude.{Attribute}
use Rattle.turn_codec.proofs.Building.{pushed, with_size}
use Rattle.turn_codec.proofs.builder.Builder.push_fitting.Goals as goal

pub grow-requires-clause-fits : goal.grow-requires-clause-fits
grow-requires-clause-fits g c =
    let size = with_size c.self.inside.bytes.items c.args.self.now c.args.kind c.args.value.now c.self.invariant c.self.view_is in
    omega arith

pub invariant_of-self-2 : goal.invariant_of-self-2
invariant_of-self-2 g c =
    let a : Attribute = record { kind = c.args.kind; value = c.args.value.now } in
    (pushed c.self.inside.bytes.items _ c.args.self.now a c.self.invariant c.self.view_is (omega arith) (omega arith) c.in_ok-grow.ensures.ok).0

pub returns-clause-ok : goal.returns-clause-ok
returns-clause-ok g c =
    let a : Attribute = record { kind = c.args.kind; value = c.args.value.now } in
    (pushed c.self.inside.bytes.items _ c.args.self.now a c.self.invariant c.self.view_is (omega arith) (omega arith) c.in_ok-grow.ensures.ok).1
