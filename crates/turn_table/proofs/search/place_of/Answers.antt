use Rattle.std.proofs.Common.{rules}
use Rattle.std.proofs.lemmas.Fn.{always_returns_same}
use Rattle.turn_table.proofs.Sorted.{searched}
use Rattle.turn_table.proofs.search.place_of.Goals as goal

pub returns-clause-value : goal.returns-clause-value
returns-clause-value g c =
    searched g.met.K.Ord.total g.met.K.Key.exact c.args.key.now c.args.items.now c.binary_search_by.result c.requires c.binary_search_by.ensures.bound
    (c.binary_search_by.ensures.position (λ slot. g.K.Ord.cmp slot.0 c.args.key.now) (always_returns_same _ _ _ (λ slot order f called. search rules)))
