use Rattle.std.proofs.Common.{◌∙◌, ap, length, arith}
use Rattle.std.proofs.lemmas.Option.{same_Some}
use Rattle.turn_mac.proofs.Values.{length-hmac}
use Rattle.turn_mac.proofs.Decided.{integrity_when}
use Rattle.turn_mac.proofs.integrity.integrity_holds.Goals as goal

pub returns-else-found-eq20-clause-exact : goal.returns-else-found-eq20-clause-exact
returns-else-found-eq20-clause-exact c =
    let another_length = c.if-found-eq20.false in
    (λ e. absurd (another_length (grind (arith, e))), λ h. absurd (another_length (ap length (same_Some _ _ (c.in-Some.ensures.value ∙ h)) ∙ length-hmac _ _)))

pub returns-else-found-eq20-clause-value : goal.returns-else-found-eq20-clause-value
returns-else-found-eq20-clause-value c = integrity_when c.args.key.now c.args.message.now _ (returns-else-found-eq20-clause-exact c)
