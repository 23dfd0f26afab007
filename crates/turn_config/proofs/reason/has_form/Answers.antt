use Rattle.std.proofs.Common.{rules}
use Rattle.turn_config.specs.Lines.{Sets}
use Rattle.turn_config.specs.declared.settings.Setting.TheVariants as settings
use Rattle.turn_config.proofs.reason.has_form.Goals as goal

pub returns-in-Listen : goal.returns-in-Listen
returns-in-Listen c old new sets =
    let s : Sets settings.Listen c.args.value.now old new = rw c.in-Listen.is at sets in
    let found = c.endpoint.ensures.only s.0 s.1 in
    search rules

pub returns-in-Relay : goal.returns-in-Relay
returns-in-Relay c old new sets =
    let s : Sets settings.Relay c.args.value.now old new = rw c.in-Relay.is at sets in
    let found = c.relay_of.ensures.only s.0 s.1 in
    search rules

pub returns-in-RelayBind : goal.returns-in-RelayBind
returns-in-RelayBind c old new sets =
    let s : Sets settings.RelayBind c.args.value.now old new = rw c.in-RelayBind.is at sets in
    let found = c.ip.ensures.only s.0 s.1 in
    search rules

pub returns-in-Limits : goal.returns-in-Limits
returns-in-Limits c old new sets =
    let s : Sets settings.Limits c.args.value.now old new = rw c.in-Limits.is at sets in
    let found = c.limits_of.ensures.only s.0 s.1 in
    search rules

pub returns-in-Deny : goal.returns-in-Deny
returns-in-Deny c old new sets =
    let s : Sets settings.Deny c.args.value.now old new = rw c.in-Deny.is at sets in
    let found = c.range_of.ensures.only s.0 s.1 in
    search rules

pub returns-in-Local : goal.returns-in-Local
returns-in-Local c old new sets =
    let s : Sets settings.Local c.args.value.now old new = rw c.in-Local.is at sets in
    let found = c.relay_of-in-Local.ensures.only s.0 s.1 in
    search rules
