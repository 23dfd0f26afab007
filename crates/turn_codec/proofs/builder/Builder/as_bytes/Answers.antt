use Rattle.std.proofs.Common.{◌∙◌, ap, length}
use Rattle.turn_codec.proofs.Building.{sized}
use Rattle.turn_codec.proofs.builder.Builder.as_bytes.Goals as goal

pub returns-clause-size : goal.returns-clause-size
returns-clause-size g c = ap length c.deref.ensures.value ∙ (sized c.self.inside.bytes.items c.args.self.now c.self.invariant c.self.view_is).0

pub returns-clause-small : goal.returns-clause-small
returns-clause-small g c = (sized c.self.inside.bytes.items c.args.self.now c.self.invariant c.self.view_is).1
