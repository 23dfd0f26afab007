use Rattle.std.proofs.Common.{rules, is_lt}
use Rattle.std.proofs.lemmas.List.Sorted.{IsPartitionPoint-from_clause}
use Rattle.turn_table.proofs.ByUser.{parted, lt_is}
use Rattle.turn_table.proofs.user_order.first_of.Goals as goal
use Rattle.turn_table.specs.Prelude.{name_cmp, names_in}

pub returns : goal.returns
returns g c =
    let name = names_in c.args.entries.now.entries in
    let user = c.args.user.now in
    record {
      within = c.partition_point.ensures.bound;
      point = IsPartitionPoint-from_clause (λ f. is_lt (name_cmp (name f) user)) _ _ c.partition_point.ensures.partitioned (parted name user c.args.tuples.now is_lt 0 lt_is c.requires) (λ a r q k. search rules);
    }
