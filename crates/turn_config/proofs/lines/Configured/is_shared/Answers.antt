use Rattle.std.proofs.Common.{ap, length, ◌∙◌, nat_le}
use Rattle.turn_config.specs.Lines.{is_shared}
use Rattle.turn_config.proofs.Passwords.{both_tests, first_fails, has_password}
use Rattle.turn_config.proofs.lines.Configured.is_shared.Goals as goal

pub returns-then-not-own : goal.returns-then-not-own
unfolding is_shared
returns-then-not-own g c =
    let limit = c.from.ensures ∙ c.name_bytes-limit.ensures.value ∙ ap (λ l. l.name_bytes) c.limits.ensures.value in
    let own = c.contains_key-own.ensures ∙ has_password c.args.name.now c.args.self.now.passwords.entries in
    ap (λ n. nat_le (length c.args.name.now) n) limit ∙ both_tests _ _ _ own c.if-not-own.true

pub returns-else-not-own : goal.returns-else-not-own
unfolding is_shared
returns-else-not-own g c =
    let own = c.contains_key-own.ensures ∙ has_password c.args.name.now c.args.self.now.passwords.entries in
    first_fails _ _ _ own c.if-not-own.false
