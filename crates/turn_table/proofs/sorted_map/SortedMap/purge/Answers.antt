use Rattle.std.proofs.Common.{ap, ◌∙◌}
use Rattle.turn_table.specs.Prelude.{map_in, still}
use Rattle.turn_table.proofs.Sorted.{still_is}
use Rattle.turn_table.proofs.sorted_map.SortedMap.purge.Goals as goal

pub invariant_of-self : goal.invariant_of-self
invariant_of-self g c = (still_is g.met.K.Ord.total g.met.K.Key.exact g.V.Expires.expiry c.args.moment c.self.inside.items.items c.keep_ahead.new.items.items c.self.invariant c.keep_ahead.ensures).0

pub returns : goal.returns
returns g c =
    (still_is g.met.K.Ord.total g.met.K.Key.exact g.V.Expires.expiry c.args.moment c.self.inside.items.items c.keep_ahead.new.items.items c.self.invariant c.keep_ahead.ensures).1
    ∙ ap (λ s. still g.V.Expires.expiry c.args.moment (map_in g.K.Ord.cmp s)) c.self.view_is
