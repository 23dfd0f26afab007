use Rattle.std.proofs.Common.{rules, is_le}
use Rattle.std.proofs.lemmas.List.Sorted.{IsPartitionPoint-from_clause}
use Rattle.turn_table.proofs.ByUser.{parted, le_is}
use Rattle.turn_table.proofs.user_order.end_of.Goals as goal
use Rattle.turn_table.specs.Prelude.{name_cmp, names_in}

pub returns : goal.returns
returns g c =
    let name = names_in c.args.entries.now.entries in
    let user = c.args.user.now in
    record {
      within = c.partition_point.ensures.bound;
      point = IsPartitionPoint-from_clause (λ f. is_le (name_cmp (name f) user)) _ _ c.partition_point.ensures.partitioned (parted name user c.args.tuples.now is_le 1 le_is c.requires) (λ a r q k. search rules);
    }
