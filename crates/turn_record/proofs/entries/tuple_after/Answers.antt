use Rattle.std.proofs.Common.{◌-◌, length, sym, slice_get}
use Rattle.std.specs.FinMap as fin
use Rattle.turn_types.specs.Prelude.{tuple_cmp}
use Rattle.turn_record.proofs.Onward.{less_last}
use Rattle.turn_record.proofs.entries.tuple_after.Goals as goal

pub returns-clause-above : goal.returns-clause-above
returns-clause-above g c =
    let es = fin.entries c.args.table.now.contents.entries in
    c.above_the_last.ensures c.args.table.now.contents c.in_ok-tuple.tuple (less_last (λ p. tuple_cmp p.0 c.in_ok-tuple.tuple) (slice_get es (length es - 1)) (sym c.if-not-is_above_last.ensures))
