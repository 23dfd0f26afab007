use Rattle.std.proofs.Common.{◌≤◌, ap, ◌∙◌, subst}
use Rattle.std.specs.FinMap as fin
use Rattle.std.specs.List.{AllByRecursion}
use Rattle.turn_table.specs.Prelude.{map_in}
use Rattle.turn_table.proofs.Sorted.{of_items}
use Rattle.turn_table.proofs.sorted_map.SortedMap.earliest.Goals as goal

pub returns : goal.returns
returns g c k v is =
    of_items g.met.K.Ord.total g.met.K.Key.exact (λ x. c.earliest.result ≤ g.V.Expires.expiry x) c.self.inside.items.items c.self.invariant
    (subst (AllByRecursion (λ e. c.earliest.result ≤ g.V.Expires.expiry e.1)) c.deref.ensures.value c.earliest.ensures) k v
    (ap (λ s. fin.get (map_in g.K.Ord.cmp s) k) c.self.view_is ∙ is)
