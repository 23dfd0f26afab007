use Rattle.std.proofs.Common.{◌≡◌, arith}
use Rattle.turn_config.proofs.Splits.{no_split}
use Rattle.turn_config.proofs.Words.{range_words, same_range}
use Rattle.turn_config.proofs.settings.range_of.Goals as goal

pub returns-in_err-first-clause-only : goal.returns-in_err-first-clause-only
returns-in_err-first-clause-only c range n = absurd (no_split 32 _ _ _ n.encoded c.in_err-first.ensures.none)

pub returns-in_err-first-2-clause-only : goal.returns-in_err-first-2-clause-only
returns-in_err-first-2-clause-only c range n =
    let words = range_words _ _ _ range n c.in_ok-first.ensures.parts c.in_ok-first.ensures.first in
    let some = c.in_err-first-2.ensures.only range.first (rw words.0 n.from) in
    cc

pub returns-in_err-last-clause-only : goal.returns-in_err-last-clause-only
returns-in_err-last-clause-only c range n =
    let words = range_words _ _ _ range n c.in_ok-first.ensures.parts c.in_ok-first.ensures.first in
    let some = c.in_err-last.ensures.only range.last (rw words.1 n.to) in
    cc

pub returns-then-first-last-clause-only : goal.returns-then-first-last-clause-only
returns-then-first-last-clause-only c range n =
    let words = range_words _ _ _ range n c.in_ok-first.ensures.parts c.in_ok-first.ensures.first in
    same_range _ _ range (c.in_ok-first-2.ensures.only range.first (rw words.0 n.from)) (c.in_ok-last.ensures.only range.last (rw words.1 n.to))

pub returns-else-first-last-clause-only : goal.returns-else-first-last-clause-only
returns-else-first-last-clause-only c range n =
    let words = range_words _ _ _ range n c.in_ok-first.ensures.parts c.in_ok-first.ensures.first in
    let from = c.in_ok-first-2.ensures.only range.first (rw words.0 n.from) in
    let to = c.in_ok-last.ensures.only range.last (rw words.1 n.to) in
    let first : c.in_ok-first-2.first ≡ range.first = cc in
    let last : c.in_ok-last.last ≡ range.last = cc in
    let ordered = n.ordered in
    absurd (omega arith)
