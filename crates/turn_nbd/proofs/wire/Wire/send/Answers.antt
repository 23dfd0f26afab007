use Rattle.std.proofs.Common.{true}
use Rattle.turn_nbd.proofs.Passing.{pass_more}
use Rattle.turn_nbd.proofs.wire.Wire.send.Goals as goal

pub loop-done-preserved : goal.loop-done-preserved
loop-done-preserved g c = record {
  within = c.in_ok-count.ensures.1;
  passed = pass_more true c.args.self.now c.loop-done.self c.send_part.new.self c.args.bytes.now c.loop-done.done c.in_ok-count.count
      c.loop-done.invariant.passed c.in_ok-count.ensures.2;
}
