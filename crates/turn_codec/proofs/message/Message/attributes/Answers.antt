use Rattle.std.proofs.Common.{arith, ap, length, ◌∙◌}
use Rattle.turn_codec.proofs.Views.{attributes_view, few_view}
use Rattle.turn_codec.proofs.message.Message.attributes.Goals as goal

pub returns-clause-few : goal.returns-clause-few
returns-clause-few c =
    let few = few_view c.self.inside.bytes.now c.args.self.now c.self.view_is c.self.invariant in
    omega (arith, ap length (c.new.ensures ∙ attributes_view c.self.inside.bytes.now c.args.self.now c.self.view_is))
