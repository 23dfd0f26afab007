use Rattle.std.proofs.Common.{ap, ◌∙◌}
use Rattle.turn_config.specs.Lines.{Lines, Sets}
use Rattle.turn_config.specs.declared.settings.Setting.TheVariants as settings
use Rattle.turn_config.proofs.Words.{is_put}
use Rattle.turn_config.proofs.lines.ConfigLines.set.Goals as goal

pub returns-in-Listen-clause-only : goal.returns-in-Listen-clause-only
returns-in-Listen-clause-only g c new sets bad =
    let s : Sets settings.Listen c.args.text.now c.args.self.now new = rw c.in-Listen.is at sets in
    let good = is_put _ _ s.0 _ c.put-in-Listen.ensures.done (ap (λ (l : Lines). l.listen) c.self-in-Listen.view_is ∙ s.2) (c.endpoint.ensures.only s.0 s.1) in
    cc

pub returns-in-Relay-clause-only : goal.returns-in-Relay-clause-only
returns-in-Relay-clause-only g c new sets bad =
    let s : Sets settings.Relay c.args.text.now c.args.self.now new = rw c.in-Relay.is at sets in
    let good = is_put _ _ s.0 _ c.put-in-Relay.ensures.done (ap (λ (l : Lines). l.relay) c.self-in-Relay.view_is ∙ s.2) (c.relay_of.ensures.only s.0 s.1) in
    cc

pub returns-in-RelayBind-clause-only : goal.returns-in-RelayBind-clause-only
returns-in-RelayBind-clause-only g c new sets bad =
    let s : Sets settings.RelayBind c.args.text.now c.args.self.now new = rw c.in-RelayBind.is at sets in
    let good = is_put _ _ s.0 _ c.put-in-RelayBind.ensures.done (ap (λ (l : Lines). l.relay_bind) c.self-in-RelayBind.view_is ∙ s.2) (c.ip.ensures.only s.0 s.1) in
    cc

pub returns-in-Limits-clause-only : goal.returns-in-Limits-clause-only
returns-in-Limits-clause-only g c new sets bad =
    let s : Sets settings.Limits c.args.text.now c.args.self.now new = rw c.in-Limits.is at sets in
    let good = is_put _ _ s.0 _ c.put-in-Limits.ensures.done (ap (λ (l : Lines). l.limits) c.self-in-Limits.view_is ∙ s.2) (c.limits_of.ensures.only s.0 s.1) in
    cc

pub returns-in-Deny-clause-only : goal.returns-in-Deny-clause-only
returns-in-Deny-clause-only g c new sets = c.deny.ensures.only new (rw c.in-Deny.is at sets)

pub returns-in-Local-clause-only : goal.returns-in-Local-clause-only
returns-in-Local-clause-only g c new sets bad =
    let s : Sets settings.Local c.args.text.now c.args.self.now new = rw c.in-Local.is at sets in
    let good = c.allow.ensures.only new s in
    cc

pub returns-in-User-clause-only : goal.returns-in-User-clause-only
returns-in-User-clause-only g c new sets = c.add_user.ensures.only new (rw c.in-User.is at sets)
