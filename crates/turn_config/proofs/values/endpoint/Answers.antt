use Rattle.std.proofs.Common.{ℕ, List, ap, sym, ◌∙◌, rules}
use Rattle.turn_config.specs.Values.{number_of}
use Rattle.turn_config.proofs.Splits.{no_split}
use Rattle.turn_config.proofs.Addresses.{colon, same_endpoint}
use Rattle.turn_config.proofs.values.endpoint.Goals as goal

pub returns-in_err-address-clause-only : goal.returns-in_err-address-clause-only
returns-in_err-address-clause-only c endpoint n = absurd (no_split 58 _ _ _ n.encoded c.in_err-address.ensures.none)

pub returns-in_err-ip-clause-only : goal.returns-in_err-ip-clause-only
returns-in_err-ip-clause-only c endpoint n =
    let parts = colon _ _ _ endpoint n c.in_ok-address.ensures.parts c.in_ok-address.ensures.first in
    let some = c.in_err-ip.ensures.only endpoint.ip (rw parts.0 n.address) in
    cc

pub returns-in_err-port-clause-only : goal.returns-in_err-port-clause-only
returns-in_err-port-clause-only c endpoint n =
    let parts = colon _ _ _ endpoint n c.in_ok-address.ensures.parts c.in_ok-address.ensures.first in
    absurd (c.in_err-port.ensures (rw parts.1 n.number))

pub returns-clause-found : goal.returns-clause-found
returns-clause-found c = search rules

pub returns-clause-only : goal.returns-clause-only
returns-clause-only c endpoint n =
    let parts = colon _ _ _ endpoint n c.in_ok-address.ensures.parts c.in_ok-address.ensures.first in
    let address = c.in_ok-ip.ensures.only endpoint.ip (rw parts.0 n.address) in
    let number = λ (x : List ℕ). number_of x in
    same_endpoint _ _ endpoint address (c.in_ok-port.ensures.1 ∙ ap number parts.1 ∙ sym n.value)
