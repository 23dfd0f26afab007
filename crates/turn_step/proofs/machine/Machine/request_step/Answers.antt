use Rattle.std.proofs.Common.{◌||◌, ap, subst, sym, ◌∙◌, option_map}
use Rattle.turn_cred.specs.Prelude.{verdict_of}
use Rattle.turn_ports.specs.Ports.{has_failed}
use Rattle.turn_table.specs.Prelude.{Agrees, State}
use Rattle.turn_history.specs.Prelude.{is_taken}
use Rattle.turn_rules.specs.Prelude.{credential_outcome, is_picked, IsAssessed, NamesInRange}
use Rattle.turn_step.specs.Prelude.{IsDecided, Setting, ports_with, setting_of}
use Rattle.turn_step.proofs.Exclusion.{decided_as_checked, checked_in_range}
use Rattle.turn_step.proofs.Holding.{picked_beside, picked_is_free}
use Rattle.turn_step.proofs.machine.Machine.request_step.Goals as goal

pub returns-clause-answers : goal.returns-clause-answers
returns-clause-answers g c h d agrees is =
    let failures = g.G.RelayAddressGenerator.failures in
    let failed = has_failed (failures c.self.inside.ports) (failures c.pick.new.ports) in
    let s : Setting = record {
      config = c.self.inside.config;
      keys = g.H.AuthHandler.key_of c.self.inside.checker.handler;
      range = g.G.RelayAddressGenerator.range c.self.inside.ports;
      pairs = c.self.inside.pairs;
    } in
    let here : Agrees c.self.inside.table h = subst (λ x. Agrees x h) (sym (ap (λ m. m.table) c.self.view_is)) agrees in
    subst (λ x. IsDecided (setting_of g.H.AuthHandler.key_of g.G.RelayAddressGenerator.range c.args.self.now) h c.args.self.now.table.moment (has_failed (failures c.args.self.now.ports) (failures c.pick.new.ports)) c.args.five_tuple x c.in-Ok.step) is
    (subst (λ m. IsDecided (setting_of g.H.AuthHandler.key_of g.G.RelayAddressGenerator.range m) h m.table.moment (has_failed (failures m.ports) (failures c.pick.new.ports)) c.args.five_tuple c.args.message c.in-Ok.step) c.self.view_is
    (decided_as_checked s h c.self.inside.table.moment failed c.args.five_tuple c.args.message (option_map verdict_of c.check_credentials-verdict.result) c.in-Ok.step
    (c.check_credentials-verdict.ensures.value c.self.inside.config c.self.invariant.0 ∙ ap (λ t. credential_outcome s.config s.keys c.args.five_tuple.client t c.args.message) c.moment-moment.ensures.value)
    (c.in-Ok.ensures.answers c.self.inside.pairs h (g.G.RelayAddressGenerator.range c.self.inside.ports) failed c.assess-assessment.ensures.assessed here (rw c.needs_port-need.ensures at c.in_ok-port.ensures.picked))))

pub returns-clause-ready : goal.returns-clause-ready
returns-clause-ready g c =
    let s = c.self.inside.config in
    let checked = c.check_credentials-verdict.ensures.value s c.self.invariant.0 in
    record {
      next = c.in-Ok.ensures.ready c.self.inside.pairs c.assess-assessment.ensures.assessed c.self.invariant.1 c.requires
          (subst (NamesInRange s.limits) (sym checked) (checked_in_range s (g.H.AuthHandler.key_of c.self.inside.checker.handler) c.args.five_tuple.client c.moment-moment.result c.args.message c.requires))
          (picked_is_free c.self.inside.table.contents _ _ _ c.in_ok-port.port (rw c.needs_port-need.ensures at c.in_ok-port.ensures.picked));
      no_pairs = λ without. c.in-Ok.ensures.no_pairs (subst (λ b. IsAssessed b s c.self.inside.table.contents (record { message = c.args.message; five_tuple = c.args.five_tuple; verdict = c.check_credentials-verdict.result }) c.self.inside.table.moment c.assess-assessment.result) without c.assess-assessment.ensures.assessed);
    }

-- ---- The ports that are held

pub returns-clause-held : goal.returns-clause-held
returns-clause-held g c held =
    let holds = g.G.RelayAddressGenerator.holds in
    let t = c.self.inside.table.contents in
    let picked = c.in_ok-port.ensures.held (is_taken t) (subst (λ m. holds m.ports (is_taken m.table.contents)) (sym c.self.view_is) held) in
    let takes = c.in-Ok.ensures.takes c.self.inside.pairs c.assess-assessment.ensures.assessed (λ none. c.in_ok-port.ensures.only (c.needs_port-need.ensures ∙ none)) in
    subst (λ (s : State). holds c.pick.new.ports (ports_with s.contents c.in-Ok.step.change)) (sym c.settle-settled.ensures.table)
    (subst (holds c.pick.new.ports) (λ j q. (ap (λ n. is_picked n c.in_ok-port.port q || is_taken t q) c.needs_port-need.ensures ∙ sym (takes q)) j) picked)

pub returns-in_default-clause-held_err : goal.returns-in_default-clause-held_err
returns-in_default-clause-held_err g c held =
    let holds = g.G.RelayAddressGenerator.holds in
    let t = c.self.inside.table.contents in
    let picked = c.in_ok-port.ensures.held (is_taken t) (subst (λ m. holds m.ports (is_taken m.table.contents)) (sym c.self.view_is) held) in
    subst (λ (s : State). holds c.release_for.new.ports (is_taken s.contents)) (sym c.settle-settled.ensures.table)
    (c.release_for.ensures.held (is_taken t) (picked_beside t _ _ c.needs_port-need.result c.in_ok-port.port c.in_ok-port.ensures.only c.in_ok-port.ensures.picked) picked)
