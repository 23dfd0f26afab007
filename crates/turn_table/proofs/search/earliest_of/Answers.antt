use Rattle.std.proofs.Common.{arith}
use Rattle.turn_table.specs.Prelude.{IsQuiet}
use Rattle.turn_table.proofs.Places.{all_next, all_of}
use Rattle.turn_table.proofs.Ready.{min_below, quiet_before}
use Rattle.turn_table.proofs.search.earliest_of.Goals as goal

pub loop-entry-preserved : goal.loop-entry-preserved
loop-entry-preserved g c =
    let least = min_below c.loop-entry.earliest c.earliest.result c.min-earliest.result c.min-earliest.ensures in
    all_next (λ h. IsQuiet c.loop-entry.earliest h.entry) (λ h. IsQuiet c.min-earliest.result h.entry) (λ h. quiet_before c.min-earliest.result c.loop-entry.earliest h.entry least.0)
    c.args.entries.now c.loop-entry.entry-index c.entry-item.result c.loop-entry-test.true c.entry-item.is (quiet_before c.min-earliest.result c.earliest.result c.entry-item.result.entry least.1 c.earliest.ensures) c.loop-entry.invariant

pub returns : goal.returns
returns g c = all_of (λ h. IsQuiet c.loop-entry.earliest h.entry) c.args.entries.now c.loop-entry.entry-index (omega arith) c.loop-entry.invariant
