use Rattle.std.proofs.Common.{sym}
use Rattle.turn_ending.proofs.Calls.{among, in_row, mapped, of_more}
use Rattle.turn_ending.proofs.ending.end_all.Goals as goal

pub returns-in_err-end-clause-ends : goal.returns-in_err-end-clause-ends
returns-in_err-end-clause-ends g c = in_row c.loop-one.invariant.ends (of_more (among _ _ (mapped (λ c. c.five_tuple) c.args.chosen.now c.loop-one.one-index _ c.one-item.result c.loop-one-test.true (sym c.one-item.is))) c.end.ensures.ends)

pub loop-one-preserved : goal.loop-one-preserved
loop-one-preserved g c = record {
  ends = in_row c.loop-one.invariant.ends (of_more (among _ _ (mapped (λ c. c.five_tuple) c.args.chosen.now c.loop-one.one-index _ c.one-item.result c.loop-one-test.true (sym c.one-item.is))) c.end.ensures.ends);
  clock = c.end.ensures.clock;
  same = c.loop-one.invariant.same;
}
