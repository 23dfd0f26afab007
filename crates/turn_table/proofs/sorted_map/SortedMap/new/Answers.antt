use Rattle.std.proofs.Common.{ap, ◌∙◌}
use Rattle.std.specs.FinMap as fin
use Rattle.turn_table.proofs.Sorted.{from_sorted-none}
use Rattle.turn_table.proofs.sorted_map.SortedMap.new.Goals as goal

pub returns : goal.returns
returns g c = ap fin.from_sorted c.new.ensures.items ∙ from_sorted-none g.met.K.Ord.total g.met.K.Key.exact
