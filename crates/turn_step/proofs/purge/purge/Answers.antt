use Rattle.std.proofs.Common.{ap, subst, sym, ◌∙◌}
use Rattle.turn_history.specs.Prelude.{is_taken, PortsApart, ReservedApart}
use Rattle.turn_table.specs.Prelude.{State}
use Rattle.turn_step.proofs.Holding.{expired_gone, purged_ports}
use Rattle.turn_step.proofs.purge.purge.Given.{Over}
use Rattle.turn_step.proofs.purge.purge.Goals as goal

-- what is held once one more is gone
held : (g : Over) (c : goal.After-release g) → PortsApart c.args.table.now.contents → ReservedApart c.args.table.now.contents
    → g.G.RelayAddressGenerator.holds c.args.ports.now (is_taken c.args.table.now.contents)
    → PortsApart c.purge.new.self.contents × ReservedApart c.purge.new.self.contents × g.G.RelayAddressGenerator.holds c.release.new.ports (is_taken c.purge.new.self.contents)
held g c apart reserved before =
    let was = c.loop-port.table.contents in
    let here = c.loop-port.invariant.held apart reserved before in
    let gone = expired_gone c.args.moment was c.in-Some.port here.0 here.1 c.purge.new.self.contents c.in-Some.ensures.one in
    (gone.apart, gone.reserved, subst (g.G.RelayAddressGenerator.holds c.release.new.ports) (sym gone.ports) (c.release.ensures.held (is_taken was) here.2 gone.taken))

pub loop-port-preserved : goal.loop-port-preserved
loop-port-preserved g c = record {
  moment = ap (λ (s : State). s.moment) c.in-Some.ensures.others ∙ c.loop-port.invariant.moment;
  bounds = ap (λ (s : State). s.bounds) c.in-Some.ensures.others ∙ c.loop-port.invariant.bounds;
  contents = c.in-Some.ensures.rest ∙ c.loop-port.invariant.contents;
  range = c.release.ensures.range ∙ c.loop-port.invariant.range;
  failures = c.release.ensures.failures ∙ c.loop-port.invariant.failures;
  held = held g c;
}

pub returns-clause-held : goal.returns-clause-held
returns-clause-held g c apart reserved held =
    subst (g.G.RelayAddressGenerator.holds c.loop-port.ports)
    (sym (ap (λ (s : State). is_taken s.contents) c.in_default.ensures.all
    ∙ purged_ports c.args.moment c.loop-port.table.contents c.in_default.ensures.kept.0 c.in_default.ensures.kept.1))
    (c.loop-port.invariant.held apart reserved held).2
