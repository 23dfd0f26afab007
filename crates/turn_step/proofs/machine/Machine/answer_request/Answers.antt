use Rattle.std.proofs.Common.{None, IfSome, ap, subst, ◌∙◌, option_map}
use Rattle.turn_cred.specs.Prelude.{verdict_of}
use Rattle.turn_rules.specs.Prelude.{Decided, MayAnswer, credential_outcome, tableless_decision}
use Rattle.turn_step.specs.Prelude.{IsDecided, Setting, sends_only, setting_of}
use Rattle.turn_step.proofs.Exclusion.{decided_as_checked}
use Rattle.turn_step.proofs.machine.Machine.answer_request.Goals as goal

pub returns-in-Reply-clause-reply : goal.returns-in-Reply-clause-reply
returns-in-Reply-clause-reply g c h failed =
    let s : Setting = record {
      config = c.self.inside.config;
      keys = g.H.AuthHandler.key_of c.self.inside.checker.handler;
      range = g.G.RelayAddressGenerator.range c.self.inside.ports;
      pairs = c.self.inside.pairs;
    } in
    let f = c.args.five_tuple in
    let d = c.args.message in
    let v = option_map verdict_of c.peek_credentials-verdict.result in
    let x : Decided = record { reply = option_map (λ b. b.items) c.in-Reply.reply; act = None } in
    let then : MayAnswer s.pairs s.config s.range h c.moment-moment.result failed f d v x =
    subst (λ r. IfSome (tableless_decision r) (MayAnswer s.pairs s.config s.range h c.moment-moment.result failed f d v)) c.in-Reply.is
    (c.in_ok-reply_without_table.ensures.answers s.pairs s.range h failed) in
    subst (λ m. IsDecided (setting_of g.H.AuthHandler.key_of g.G.RelayAddressGenerator.range m) h m.table.moment failed f d (sends_only c.reply_to.result)) c.self.view_is
    (decided_as_checked s h c.self.inside.table.moment failed f d v (sends_only c.reply_to.result)
    (c.peek_credentials-verdict.ensures c.self.inside.config c.self.invariant.0 ∙ ap (λ t. credential_outcome s.config s.keys f.client t d) c.moment-moment.ensures.value)
    (x, subst (λ t. MayAnswer s.pairs s.config s.range h t failed f d v x) c.moment-moment.ensures.value then, λ j. record { change = None; sent = c.reply_to.ensures.sent j }))
