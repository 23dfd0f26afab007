use Rattle.std.proofs.Common.{rules, Vec, map, ap, ◌∙◌}
use Rattle.turn_step.specs.Prelude.{sent_of}
use Rattle.turn_engine.proofs.server.Server.hand_out.Goals as goal

pub invariant_of-self : goal.invariant_of-self
invariant_of-self g c = search rules

pub returns-clause-handed : goal.returns-clause-handed
returns-clause-handed g c = ap (λ (v : Vec _ _). map sent_of v.items) c.replace.ensures.value ∙ ap (λ s. s.outs) c.self.view_is

pub returns-clause-emptied : goal.returns-clause-emptied
returns-clause-emptied g c = search rules
