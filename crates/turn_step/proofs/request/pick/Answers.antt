use Rattle.std.proofs.Common.{refl, rules}
use Rattle.turn_rules.specs.declared.need.Need.TheVariants.{Any, Even}
use Rattle.turn_step.proofs.Holding.{one_picked, pair_picked}
use Rattle.turn_step.proofs.request.pick.Goals as goal

pub returns-in-Some-Any-clause-held : goal.returns-in-Some-Any-clause-held
returns-in-Some-Any-clause-held g c held h =
    one_picked (g.G.RelayAddressGenerator.holds c.pick.new.self) held c.args.need Any (search rules) (λ p q. refl) c.pick.result (c.pick.ensures.picked held h)

pub returns-in-Some-Even-clause-held : goal.returns-in-Some-Even-clause-held
returns-in-Some-Even-clause-held g c held h =
    one_picked (g.G.RelayAddressGenerator.holds c.pick-in-Some-Even.new.self) held c.args.need Even (search rules) (λ p q. refl) c.pick-in-Some-Even.result (c.pick-in-Some-Even.ensures.picked held h)

pub returns-in-Some-Pair-clause-held : goal.returns-in-Some-Pair-clause-held
returns-in-Some-Pair-clause-held g c held h =
    pair_picked (g.G.RelayAddressGenerator.holds c.pick_pair.new.self) held c.args.need (search rules) c.pick_pair.result (c.pick_pair.ensures.picked held h)
