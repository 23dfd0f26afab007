use Rattle.std.proofs.Common.{ℕ, List, ap, sym, ◌∙◌}
use Rattle.turn_config.specs.Values.{number_of}
use Rattle.turn_config.proofs.Splits.{no_split}
use Rattle.turn_config.proofs.Words.{relay_words, port_words, same_relay}
use Rattle.turn_config.proofs.settings.relay_of.Goals as goal

pub returns-in_err-address-clause-only : goal.returns-in_err-address-clause-only
returns-in_err-address-clause-only c relay n = absurd (no_split 32 _ _ _ n.encoded c.in_err-address.ensures.none)

pub returns-in_err-low-clause-only : goal.returns-in_err-low-clause-only
returns-in_err-low-clause-only c relay n =
    let words = relay_words _ _ _ relay n c.in_ok-address.ensures.parts c.in_ok-address.ensures.first in
    absurd (no_split 32 _ _ _ words.1 c.in_err-low.ensures.none)

pub returns-in_err-unicast-clause-only : goal.returns-in_err-unicast-clause-only
returns-in_err-unicast-clause-only c relay n =
    let words = relay_words _ _ _ relay n c.in_ok-address.ensures.parts c.in_ok-address.ensures.first in
    let some = c.in_err-unicast.ensures.only relay.ip (rw words.0 n.address) n.unicast in
    cc

pub returns-in_err-port-clause-only : goal.returns-in_err-port-clause-only
returns-in_err-port-clause-only c relay n =
    let ports = port_words _ _ _ _ _ relay n c.in_ok-address.ensures.parts c.in_ok-address.ensures.first c.in_ok-low.ensures.parts c.in_ok-low.ensures.first in
    absurd (c.in_err-port.ensures (rw ports.0 n.numbers.0))

pub returns-in_err-port-2-clause-only : goal.returns-in_err-port-2-clause-only
returns-in_err-port-2-clause-only c relay n =
    let ports = port_words _ _ _ _ _ relay n c.in_ok-address.ensures.parts c.in_ok-address.ensures.first c.in_ok-low.ensures.parts c.in_ok-low.ensures.first in
    absurd (c.in_err-port-2.ensures (rw ports.1 n.numbers.1))

pub returns-in_err-new-clause-only : goal.returns-in_err-new-clause-only
returns-in_err-new-clause-only c relay n =
    let ports = port_words _ _ _ _ _ relay n c.in_ok-address.ensures.parts c.in_ok-address.ensures.first c.in_ok-low.ensures.parts c.in_ok-low.ensures.first in
    let number = λ (x : List ℕ). number_of x in
    absurd (c.in_err-new.ensures (rw (c.in_ok-port.ensures.1 ∙ ap number ports.0, c.in_ok-port-2.ensures.1 ∙ ap number ports.1) n.ordered))

pub returns-clause-only : goal.returns-clause-only
returns-clause-only c relay n =
    let words = relay_words _ _ _ relay n c.in_ok-address.ensures.parts c.in_ok-address.ensures.first in
    let ports = port_words _ _ _ _ _ relay n c.in_ok-address.ensures.parts c.in_ok-address.ensures.first c.in_ok-low.ensures.parts c.in_ok-low.ensures.first in
    let number = λ (x : List ℕ). number_of x in
    let low = c.in_ok-port.ensures.1 ∙ ap number ports.0 in
    let high = c.in_ok-port-2.ensures.1 ∙ ap number ports.1 in
    same_relay _ _ relay (c.in_ok-unicast.ensures.only relay.ip (rw words.0 n.address) n.unicast) (c.in_ok-new.ensures.1 ∙ rw (low, high) (sym n.ports))
