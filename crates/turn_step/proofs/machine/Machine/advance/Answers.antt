use Rattle.std.proofs.Common.{None, ap, subst, sym}
use Rattle.turn_step.specs.Prelude.{HoldsPorts, IsPurged}
use Rattle.turn_step.proofs.Machines.{after_later}
use Rattle.turn_step.proofs.machine.Machine.advance.Goals as goal

pub returns-clause-after : goal.returns-clause-after
returns-clause-after g c h after =
    after_later c.args.self.now _ h c.args.moment c.requires (ap (λ m. m.config) c.self.view_is)
    (subst (λ s. IsPurged c.args.moment s c.advance.new.table) (ap (λ m. m.table) c.self.view_is) c.advance.ensures.table) after

pub returns-clause-held : goal.returns-clause-held
returns-clause-held g c held = c.advance.ensures.held (subst (λ m. HoldsPorts g.G.RelayAddressGenerator.holds m None) (sym c.self.view_is) held)
