use Rattle.std.proofs.Common.{◌++◌, ◌∷◌, [], refl, ap, subst, sym, ◌∙◌, option_map}
use Rattle.turn_history.specs.Prelude.{act_of, Follows, is_taken}
use Rattle.turn_table.specs.Prelude.{State, Agrees}
use Rattle.turn_step.specs.Prelude.{Change, StepOutcome, change_of, event_at}
use Rattle.turn_step.proofs.Holding.{applied_holds, change_by, held_change, next_change}
use Rattle.turn_step.proofs.Machines.{after_change}
use Rattle.turn_step.proofs.machine.Machine.apply.Goals as goal

pub returns-in-Some-clause-after : goal.returns-in-Some-clause-after
returns-in-Some-clause-after g c h after =
    let change : Change = change_of c.in-Some.change.value.0 (act_of c.in-Some.change.value.1) in
    let new = c.apply-freed.new.self in
    after_change c.args.self.now _ h c.args.step.change change
    (ap (λ (o : StepOutcome). o.change) c.into_parts-act.ensures ∙ ap (option_map (λ b. change_of b.value.0 (act_of b.value.1))) c.in-Some.is)
    (sym (ap (λ m. m.table.bounds) c.self.view_is) ∙ c.self.invariant.1 ∙ ap (λ m. m.config.limits) c.self.view_is)
    c.requires.next
    (ap (λ m. m.config) c.self.view_is)
    (ap (λ (s : State). s.moment) c.apply-freed.ensures.state ∙ ap (λ m. m.table.moment) c.self.view_is)
    (subst (λ (s : State). Follows s.bounds h (event_at s.moment change) → Agrees s h → Agrees new (h ++ event_at s.moment change ∷ [])) (ap (λ m. m.table) c.self.view_is)
    (subst (λ p. Follows c.self.inside.table.bounds h (event_at c.self.inside.table.moment (change_of p.0 (act_of p.1))) → Agrees c.self.inside.table h → Agrees new (h ++ event_at c.self.inside.table.moment (change_of p.0 (act_of p.1)) ∷ [])) c.into_inner-act.ensures
    (c.apply-freed.ensures.agrees h)))
    after

pub returns-in-Some-clause-held : goal.returns-in-Some-clause-held
returns-in-Some-clause-held g c held =
    let holds = g.G.RelayAddressGenerator.holds in
    let s = c.self.inside.table in
    let p = c.into_inner-act.result in
    let change : Change = change_of p.0 (act_of p.1) in
    let is = change_by c.args.step _ c.into_parts-act.result.0 c.in-Some.change p p.1 c.into_parts-act.ensures c.in-Some.is c.into_inner-act.ensures refl in
    let next = next_change c.args.self.now _ c.args.step.change change c.self.view_is is c.requires.next in
    subst (λ (x : State). holds c.release.new.ports (is_taken x.contents)) (sym c.apply-freed.ensures.state)
    (applied_holds s.bounds s.moment p.0 s.contents c.moment.ensures.at.ports c.moment.ensures.at.reserved_apart (holds c.self.inside.ports) (holds c.release.new.ports) (act_of p.1) c.apply-freed.result
    next.fits c.apply-freed.ensures.freed c.release.ensures.held (held_change c.args.self.now _ c.args.step.change change c.self.view_is is holds held))
