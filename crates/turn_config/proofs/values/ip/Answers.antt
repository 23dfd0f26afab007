use Rattle.std.proofs.Common.{List, ℕ, Some, ap, sym, ◌∙◌}
use Rattle.turn_config.specs.Values.{number_of}
use Rattle.turn_config.proofs.Splits.{no_split}
use Rattle.turn_config.proofs.Addresses.{one_dot, two_dots, three_dots, joined, same_bytes}
use Rattle.turn_config.proofs.values.ip.Goals as goal

pub returns-in_err-first-clause-only : goal.returns-in_err-first-clause-only
returns-in_err-first-clause-only c address n = absurd (no_split 46 _ _ _ n.encoded c.in_err-first.ensures.none)

pub returns-in_err-second-clause-only : goal.returns-in_err-second-clause-only
returns-in_err-second-clause-only c address n =
    let one = one_dot c.args.text.now c.in_ok-first.first.now c.in_ok-first.rest.now address n c.in_ok-first.ensures.parts c.in_ok-first.ensures.first in
    absurd (no_split 46 _ _ _ one.1 c.in_err-second.ensures.none)

pub returns-in_err-third-clause-only : goal.returns-in_err-third-clause-only
returns-in_err-third-clause-only c address n =
    let two = two_dots c.args.text.now c.in_ok-first.first.now c.in_ok-first.rest.now c.in_ok-second.second.now c.in_ok-second.rest.now address n
    c.in_ok-first.ensures.parts c.in_ok-first.ensures.first c.in_ok-second.ensures.parts c.in_ok-second.ensures.first in
    absurd (no_split 46 _ _ _ two.1 c.in_err-third.ensures.none)

pub returns-in_err-octet-clause-only : goal.returns-in_err-octet-clause-only
returns-in_err-octet-clause-only c address n =
    let one = one_dot c.args.text.now c.in_ok-first.first.now c.in_ok-first.rest.now address n c.in_ok-first.ensures.parts c.in_ok-first.ensures.first in
    absurd (c.in_err-octet.ensures (rw one.0 n.numbers.0))

pub returns-in_err-octet-2-clause-only : goal.returns-in_err-octet-2-clause-only
returns-in_err-octet-2-clause-only c address n =
    let two = two_dots c.args.text.now c.in_ok-first.first.now c.in_ok-first.rest.now c.in_ok-second.second.now c.in_ok-second.rest.now address n
    c.in_ok-first.ensures.parts c.in_ok-first.ensures.first c.in_ok-second.ensures.parts c.in_ok-second.ensures.first in
    absurd (c.in_err-octet-2.ensures (rw two.0 n.numbers.1))

pub returns-in_err-octet-3-clause-only : goal.returns-in_err-octet-3-clause-only
returns-in_err-octet-3-clause-only c address n =
    let three = three_dots c.args.text.now c.in_ok-first.first.now c.in_ok-first.rest.now c.in_ok-second.second.now c.in_ok-second.rest.now
    c.in_ok-third.third.now c.in_ok-third.fourth.now address n c.in_ok-first.ensures.parts c.in_ok-first.ensures.first
    c.in_ok-second.ensures.parts c.in_ok-second.ensures.first c.in_ok-third.ensures.parts c.in_ok-third.ensures.first in
    absurd (c.in_err-octet-3.ensures (rw three.0 n.numbers.2))

pub returns-in_err-octet-4-clause-only : goal.returns-in_err-octet-4-clause-only
returns-in_err-octet-4-clause-only c address n =
    let three = three_dots c.args.text.now c.in_ok-first.first.now c.in_ok-first.rest.now c.in_ok-second.second.now c.in_ok-second.rest.now
    c.in_ok-third.third.now c.in_ok-third.fourth.now address n c.in_ok-first.ensures.parts c.in_ok-first.ensures.first
    c.in_ok-second.ensures.parts c.in_ok-second.ensures.first c.in_ok-third.ensures.parts c.in_ok-third.ensures.first in
    absurd (c.in_err-octet-4.ensures (rw three.1 n.numbers.3))

pub returns-clause-found : goal.returns-clause-found
returns-clause-found c = record {
  a = c.in_ok-first.first.now;
  b = c.in_ok-second.second.now;
  c = c.in_ok-third.third.now;
  d = c.in_ok-third.fourth.now;
  numbers = (c.in_ok-octet.ensures.0, c.in_ok-octet-2.ensures.0, c.in_ok-octet-3.ensures.0, c.in_ok-octet-4.ensures.0);
  encoded = joined _ _ _ _ _ _ _ c.in_ok-first.ensures.parts c.in_ok-second.ensures.parts c.in_ok-third.ensures.parts;
  bytes = c.from_be_bytes.ensures ∙ same_bytes _ _ _ _ c.in_ok-first.first.now c.in_ok-second.second.now c.in_ok-third.third.now c.in_ok-third.fourth.now
      c.in_ok-octet.ensures.1 c.in_ok-octet-2.ensures.1 c.in_ok-octet-3.ensures.1 c.in_ok-octet-4.ensures.1;
}

pub returns-clause-only : goal.returns-clause-only
returns-clause-only c address n =
    let one = one_dot c.args.text.now c.in_ok-first.first.now c.in_ok-first.rest.now address n c.in_ok-first.ensures.parts c.in_ok-first.ensures.first in
    let two = two_dots c.args.text.now c.in_ok-first.first.now c.in_ok-first.rest.now c.in_ok-second.second.now c.in_ok-second.rest.now address n
    c.in_ok-first.ensures.parts c.in_ok-first.ensures.first c.in_ok-second.ensures.parts c.in_ok-second.ensures.first in
    let three = three_dots c.args.text.now c.in_ok-first.first.now c.in_ok-first.rest.now c.in_ok-second.second.now c.in_ok-second.rest.now
    c.in_ok-third.third.now c.in_ok-third.fourth.now address n c.in_ok-first.ensures.parts c.in_ok-first.ensures.first
    c.in_ok-second.ensures.parts c.in_ok-second.ensures.first c.in_ok-third.ensures.parts c.in_ok-third.ensures.first in
    let number = λ (x : List ℕ). number_of x in
    ap (λ x. Some x) (c.from_be_bytes.ensures ∙ same_bytes _ _ _ _ n.a n.b n.c n.d
    (c.in_ok-octet.ensures.1 ∙ ap number one.0) (c.in_ok-octet-2.ensures.1 ∙ ap number two.0)
    (c.in_ok-octet-3.ensures.1 ∙ ap number three.0) (c.in_ok-octet-4.ensures.1 ∙ ap number three.1) ∙ sym n.bytes)
