use Rattle.std.proofs.Common.{ap, ◌∙◌, unwrap_or}
use Rattle.std.specs.FinMap as map
use Rattle.turn_log.specs.Counting.{more}
use Rattle.turn_log.specs.Tallies.{count_of, tallied}
use Rattle.turn_log.proofs.Tallies.{lookup-tallied, tallied-insert_entry}
use Rattle.turn_log.proofs.tally.Tally.count.Goals as goal

pub returns-clause-before : goal.returns-clause-before
returns-clause-before c =
    c.unwrap_or-before.ensures
    ∙ ap (λ o. unwrap_or o 0) (c.copied.ensures ∙ c.get.ensures.value ∙ lookup-tallied c.args.key.now c.self.inside.counts.entries)
    ∙ ap (λ m. count_of m c.args.key.now) c.self.view_is

pub returns-clause-counted : goal.returns-clause-counted
returns-clause-counted c =
    ap tallied c.in_ok-insert.ensures.entries
    ∙ tallied-insert_entry c.self.inside.counts.entries c.in_ok-key.key c.saturating_add.result
    ∙ ap (λ m. map.insert m c.in_ok-key.key.items c.saturating_add.result) c.self.view_is
    ∙ ap (λ n. map.insert c.args.self.now n c.saturating_add.result) c.in_ok-key.ensures.items
    ∙ ap (λ n. map.insert c.args.self.now c.args.key.now n) (c.saturating_add.ensures ∙ ap more (returns-clause-before c))
