use Rattle.std.proofs.Common.{sym, ap, ◌∙◌}
use Rattle.turn_step.proofs.Machines.{after_later, follows_outcome, purged_same}
use Rattle.turn_step.proofs.machine.Machine.prepare.Goals as goal

pub returns-in-Client-clause-follows : goal.returns-in-Client-clause-follows
returns-in-Client-clause-follows g c h after =
    let config = c.client_step.ensures.setting.config ∙ c.advance.ensures.setting.config in
    let later = purged_same c.args.moment c.args.self.now.table c.advance.new.self.table c.client_step.new.self.table c.advance.ensures.table c.client_step.ensures.table in
    follows_outcome c.client_step.new.self c.args.self.now.config.limits h c.args.moment c.client_step.result
    (later.bounds ∙ sym c.advance.ensures.table.bounds ∙ c.advance.ensures.limits ∙ ap (λ m. m.limits) c.advance.ensures.setting.config)
    later.moment (after_later c.args.self.now c.client_step.new.self h c.args.moment c.requires config later after) c.client_step.ensures.ready
