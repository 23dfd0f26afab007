use Rattle.std.proofs.Common.{List, ℕ, ◌++◌, false, ap, sym, ◌∙◌, arith}
use Rattle.turn_nbd.specs.Wire.{received}
use Rattle.turn_nbd.proofs.Passing.{pass_more}
use Rattle.turn_nbd.proofs.wire.Wire.receive.Goals as goal

pub loop-done-preserved : goal.loop-done-preserved
loop-done-preserved g c = record {
  within = omega (arith, c.in_ok-count.ensures.1);
  len = omega arith;
  passed = pass_more false c.args.self.now c.loop-done.self c.receive_part.new.self c.receive_part.new.buffer c.loop-done.done c.in_ok-count.count
      (c.loop-done.invariant.passed ∙ ap (λ (xs : List ℕ). c.args.self.now ++ received xs) (sym c.in_ok-count.ensures.2)) c.in_ok-count.ensures.3;
}
