use Rattle.std.proofs.Common.{◌∙◌, ap, length, refl, arith}
use Rattle.turn_codec.proofs.Views.{few_view, before_le, seen_view, unseen_view, attributes_of-in}
use Rattle.turn_codec.proofs.message.Message.seen.Goals as goal

pub new-requires : goal.new-requires
new-requires c = rw (seen_view c.self.inside.bytes.now c.args.self.now 8 c.in-Some.offset c.self.view_is c.self.invariant c.in-Some.ensures.0) refl

pub returns-in-Some-clause-value : goal.returns-in-Some-clause-value
returns-in-Some-clause-value c = c.new.ensures ∙ attributes_of-in _ _ (seen_view c.self.inside.bytes.now c.args.self.now 8 c.in-Some.offset c.self.view_is c.self.invariant c.in-Some.ensures.0)

pub returns-in-None-clause-value : goal.returns-in-None-clause-value
returns-in-None-clause-value c = c.new-in-None.ensures ∙ unseen_view c.self.inside.bytes.now c.args.self.now 8 c.self.view_is c.in-None.ensures

pub returns-in-Some-clause-few : goal.returns-in-Some-clause-few
returns-in-Some-clause-few c =
    let few = few_view c.self.inside.bytes.now c.args.self.now c.self.view_is c.self.invariant in
    let le = before_le 8 c.args.self.now.content.attributes in
    omega (arith, ap length (c.new.ensures ∙ attributes_of-in _ _ (seen_view c.self.inside.bytes.now c.args.self.now 8 c.in-Some.offset c.self.view_is c.self.invariant c.in-Some.ensures.0)))

pub returns-in-None-clause-few : goal.returns-in-None-clause-few
returns-in-None-clause-few c =
    let few = few_view c.self.inside.bytes.now c.args.self.now c.self.view_is c.self.invariant in
    let le = before_le 8 c.args.self.now.content.attributes in
    omega (arith, ap length (c.new-in-None.ensures ∙ unseen_view c.self.inside.bytes.now c.args.self.now 8 c.self.view_is c.in-None.ensures))
