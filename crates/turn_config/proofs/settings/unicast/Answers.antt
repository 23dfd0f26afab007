use Rattle.std.proofs.Common.{◌≡◌, ℕ, Bool, false, subst, sym, ◌∙◌}
use Rattle.turn_config.specs.Lines.{is_unicast}
use Rattle.turn_config.proofs.settings.unicast.Goals as goal

pub returns-in_err-address-clause-only : goal.returns-in_err-address-clause-only
returns-in_err-address-clause-only c address is unicast = let none = c.in_err-address.ensures.only address is in cc

pub returns-then-is_unicast-clause-only : goal.returns-then-is_unicast-clause-only
returns-then-is_unicast-clause-only c address is unicast = c.in_ok-address.ensures.only address is

pub returns-else-is_unicast-clause-only : goal.returns-else-is_unicast-clause-only
returns-else-is_unicast-clause-only c address is unicast =
    let found = c.in_ok-address.ensures.only address is in
    let same : c.in_ok-address.address ≡ address = cc in
    let other : is_unicast c.in_ok-address.address ≡ false = sym c.is_unicast.ensures ∙ c.if-is_unicast.false in
    let none : is_unicast address ≡ false = subst (λ (a : ℕ). is_unicast a ≡ false) same other in
    cc
