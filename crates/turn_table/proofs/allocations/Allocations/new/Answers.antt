use Rattle.std.specs.Ordering.{nat_cmp}
use Rattle.turn_types.specs.Prelude.{tuple_cmp}
use Rattle.turn_table.specs.Prelude.{map_in}
use Rattle.turn_table.proofs.Index.{indexed_empty}
use Rattle.turn_table.proofs.Changing.{users_empty}
use Rattle.turn_table.proofs.allocations.Allocations.new.Goals as goal

pub invariant_of-result : goal.invariant_of-result
invariant_of-result g c = (
  indexed_empty c.new.result.entries (map_in tuple_cmp c.new-2.result) (map_in nat_cmp c.new-3.result) c.new.ensures.empty c.new-2.ensures c.new-3.ensures,
  users_empty c.new.result.entries c.new-4.result.0 c.new.ensures.empty c.new-4.ensures,
)
