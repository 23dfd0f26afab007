use Rattle.std.proofs.Common.{rules, nat_cmp}
use Rattle.std.proofs.lemmas.Cmp.{nat_cmp_total}
use Rattle.std.proofs.lemmas.Fn.{always_returns_same}
use Rattle.std.specs.FinMap.{nat_cmp-IsAntisymmetric}
use Rattle.turn_table.proofs.Sorted.{searched}
use Rattle.turn_table.proofs.search.place_of_number.Goals as goal

pub returns-clause-value : goal.returns-clause-value
returns-clause-value g c =
    searched nat_cmp_total nat_cmp-IsAntisymmetric c.args.number c.args.items.now c.binary_search_by.result c.requires c.binary_search_by.ensures.bound
    (c.binary_search_by.ensures.position (λ slot. nat_cmp slot.0 c.args.number) (always_returns_same _ _ _ (λ slot order f called. search rules)))
