use Rattle.std.proofs.Common.{ℕ, List, ap, refl, ◌∙◌}
use Rattle.turn_config.specs.Values.{number_of}
use Rattle.turn_config.proofs.Splits.{no_split}
use Rattle.turn_config.proofs.Words.{limits_words, next_word, limits_found, limits_only, same_bounds, encoded}
use Rattle.turn_config.proofs.settings.limits_of.Goals as goal

pub returns-in_err-allocations-clause-only : goal.returns-in_err-allocations-clause-only
returns-in_err-allocations-clause-only c bounds n = absurd (no_split 32 _ _ _ n.encoded c.in_err-allocations.ensures.none)

pub returns-in_err-permissions-clause-only : goal.returns-in_err-permissions-clause-only
returns-in_err-permissions-clause-only c bounds n =
    let one = limits_words _ _ _ bounds n c.in_ok-allocations.ensures.parts c.in_ok-allocations.ensures.first in
    absurd (no_split 32 _ _ _ one.1 c.in_err-permissions.ensures.none)

pub returns-in_err-channels-clause-only : goal.returns-in_err-channels-clause-only
returns-in_err-channels-clause-only c bounds n =
    let one = limits_words _ _ _ bounds n c.in_ok-allocations.ensures.parts c.in_ok-allocations.ensures.first in
    let two = next_word _ _ _ n.p _ n.others.0 one.1 c.in_ok-permissions.ensures.parts c.in_ok-permissions.ensures.first in
    absurd (no_split 32 _ _ _ two.1 c.in_err-channels.ensures.none)

pub returns-in_err-acts-clause-only : goal.returns-in_err-acts-clause-only
returns-in_err-acts-clause-only c bounds n =
    let one = limits_words _ _ _ bounds n c.in_ok-allocations.ensures.parts c.in_ok-allocations.ensures.first in
    let two = next_word _ _ _ n.p _ n.others.0 one.1 c.in_ok-permissions.ensures.parts c.in_ok-permissions.ensures.first in
    let three = next_word _ _ _ n.c _ n.others.1 two.1 c.in_ok-channels.ensures.parts c.in_ok-channels.ensures.first in
    absurd (no_split 32 _ _ _ three.1 c.in_err-acts.ensures.none)

pub returns-in_err-number_32-clause-only : goal.returns-in_err-number_32-clause-only
returns-in_err-number_32-clause-only c bounds n =
    let one = limits_words _ _ _ bounds n c.in_ok-allocations.ensures.parts c.in_ok-allocations.ensures.first in
    absurd (c.in_err-number_32.ensures (rw one.0 n.first))

pub returns-in_err-port-clause-only : goal.returns-in_err-port-clause-only
returns-in_err-port-clause-only c bounds n =
    let one = limits_words _ _ _ bounds n c.in_ok-allocations.ensures.parts c.in_ok-allocations.ensures.first in
    let two = next_word _ _ _ n.p _ n.others.0 one.1 c.in_ok-permissions.ensures.parts c.in_ok-permissions.ensures.first in
    absurd (c.in_err-port.ensures (rw two.0 n.others.0))

pub returns-in_err-port-2-clause-only : goal.returns-in_err-port-2-clause-only
returns-in_err-port-2-clause-only c bounds n =
    let one = limits_words _ _ _ bounds n c.in_ok-allocations.ensures.parts c.in_ok-allocations.ensures.first in
    let two = next_word _ _ _ n.p _ n.others.0 one.1 c.in_ok-permissions.ensures.parts c.in_ok-permissions.ensures.first in
    let three = next_word _ _ _ n.c _ n.others.1 two.1 c.in_ok-channels.ensures.parts c.in_ok-channels.ensures.first in
    absurd (c.in_err-port-2.ensures (rw three.0 n.others.1))

pub returns-in_err-port-3-clause-only : goal.returns-in_err-port-3-clause-only
returns-in_err-port-3-clause-only c bounds n =
    let one = limits_words _ _ _ bounds n c.in_ok-allocations.ensures.parts c.in_ok-allocations.ensures.first in
    let two = next_word _ _ _ n.p _ n.others.0 one.1 c.in_ok-permissions.ensures.parts c.in_ok-permissions.ensures.first in
    let three = next_word _ _ _ n.c _ n.others.1 two.1 c.in_ok-channels.ensures.parts c.in_ok-channels.ensures.first in
    let four = next_word _ _ _ n.f _ n.others.2 three.1 c.in_ok-acts.ensures.parts c.in_ok-acts.ensures.first in
    absurd (c.in_err-port-3.ensures (rw four.0 n.others.2))

pub returns-in_err-port-4-clause-only : goal.returns-in_err-port-4-clause-only
returns-in_err-port-4-clause-only c bounds n =
    let one = limits_words _ _ _ bounds n c.in_ok-allocations.ensures.parts c.in_ok-allocations.ensures.first in
    let two = next_word _ _ _ n.p _ n.others.0 one.1 c.in_ok-permissions.ensures.parts c.in_ok-permissions.ensures.first in
    let three = next_word _ _ _ n.c _ n.others.1 two.1 c.in_ok-channels.ensures.parts c.in_ok-channels.ensures.first in
    let four = next_word _ _ _ n.f _ n.others.2 three.1 c.in_ok-acts.ensures.parts c.in_ok-acts.ensures.first in
    absurd (c.in_err-port-4.ensures (rw four.1 n.others.3))

pub returns-clause-found : goal.returns-clause-found
returns-clause-found c = limits_found _ _ _ c.new.ensures (λ in_range. record {
  a = c.in_ok-allocations.allocations.now;
  p = c.in_ok-permissions.permissions.now;
  c = c.in_ok-channels.channels.now;
  f = c.in_ok-acts.acts.now;
  n = c.in_ok-acts.name_bytes.now;
  first = c.in_ok-number_32.ensures.0;
  others = (c.in_ok-port.ensures.0, c.in_ok-port-2.ensures.0, c.in_ok-port-3.ensures.0, c.in_ok-port-4.ensures.0);
  encoded = encoded _ _ _ _ _ _ _ _ _ c.in_ok-allocations.ensures.parts c.in_ok-permissions.ensures.parts c.in_ok-channels.ensures.parts c.in_ok-acts.ensures.parts;
  bounds_are = rw (c.in_ok-number_32.ensures.1, c.in_ok-port.ensures.1, c.in_ok-port-2.ensures.1, c.in_ok-port-3.ensures.1, c.in_ok-port-4.ensures.1) refl;
  in_range = in_range;
})

pub returns-clause-only : goal.returns-clause-only
returns-clause-only c bounds n =
    let one = limits_words _ _ _ bounds n c.in_ok-allocations.ensures.parts c.in_ok-allocations.ensures.first in
    let two = next_word _ _ _ n.p _ n.others.0 one.1 c.in_ok-permissions.ensures.parts c.in_ok-permissions.ensures.first in
    let three = next_word _ _ _ n.c _ n.others.1 two.1 c.in_ok-channels.ensures.parts c.in_ok-channels.ensures.first in
    let four = next_word _ _ _ n.f _ n.others.2 three.1 c.in_ok-acts.ensures.parts c.in_ok-acts.ensures.first in
    let number = λ (x : List ℕ). number_of x in
    limits_only _ _ bounds c.new.ensures (same_bounds _ _ _ _ _ _ bounds n (c.in_ok-number_32.ensures.1 ∙ ap number one.0)
    (c.in_ok-port.ensures.1 ∙ ap number two.0) (c.in_ok-port-2.ensures.1 ∙ ap number three.0)
    (c.in_ok-port-3.ensures.1 ∙ ap number four.0) (c.in_ok-port-4.ensures.1 ∙ ap number four.1)) n.in_range
