use Rattle.std.proofs.Common.{◌<◌, ◌≤◌, length, ◌∙◌, arith}
use Rattle.std.proofs.lemmas.List.{length-map}
use Rattle.indexmap.proofs.CallerLemmas.{index_map_len-with_value_at}
use Rattle.turn_table.specs.Prelude.{pair_of, pairs}
use Rattle.turn_table.proofs.Purged.{purged_end, purged_more}
use Rattle.turn_table.proofs.edit.purge_entries.Goals as goal

pub loop-i-preserved : goal.loop-i-preserved
loop-i-preserved g c =
    let within : c.loop-i.i < length (pairs c.args.entries.now.entries) = omega (arith, c.loop-i-test.true, c.len-i-end.ensures.len, length-map c.args.entries.now.entries pair_of) in (
      index_map_len-with_value_at c.loop-i.entries c.loop-i.i c.purge_entry.new.entry ∙ c.loop-i.invariant.0,
      purged_more c.args.moment (pairs c.args.entries.now.entries) c.loop-i.entries.entries c.loop-i.i c.index_mut.result.now c.purge_entry.new.entry within c.loop-i.invariant.1 c.index_mut.ensures.value c.purge_entry.ensures,
    )

pub returns : goal.returns
returns g c =
    let end : length (pairs c.args.entries.now.entries) ≤ c.loop-i.i = omega (arith, c.loop-i-test.false, c.len-i-end.ensures.len, length-map c.args.entries.now.entries pair_of) in
    purged_end c.args.moment (pairs c.args.entries.now.entries) (pairs c.loop-i.entries.entries) c.loop-i.i end c.loop-i.invariant.1
