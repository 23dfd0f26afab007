use Rattle.std.proofs.Common.{List, ℕ, ◌++◌, append-nil, false, refl, ap, sym, subst, ◌∙◌, arith}
use Rattle.turn_disk.specs.Prelude.{Passes}
use Rattle.turn_disk.proofs.Passing.{passes_join, passes_none, passes_one}
use Rattle.turn_nbd.specs.Wire.{received}
use Rattle.turn_nbd.proofs.Passing.{pass_more}
use Rattle.turn_nbd.proofs.wire.Wire.receive_while.Goals as goal
use Rattle.turn_nbd.proofs.wire.Wire.receive_while.Goals.{then-count-eq0, else-count-eq0}

pub parts-init : goal.parts-init
parts-init g c = record { within = omega arith; len = refl; passed = sym (append-nil c.args.self.now); meanwhile = passes_none }

pub parts-preserved : goal.parts-preserved
parts-preserved g c = record {
  within = omega (arith, c.in_ok-count.ensures.0);
  len = omega arith;
  passed = pass_more false c.args.self.now c.parts.self c.try_receive_part.new.self c.try_receive_part.new.buffer c.parts.done c.in_ok-count.count
      (c.parts.invariant.passed ∙ ap (λ (xs : List ℕ). c.args.self.now ++ received xs) (sym c.in_ok-count.ensures.1)) c.in_ok-count.ensures.2;
  meanwhile = elim c.if-count-eq0.branch [
    | then-count-eq0 w ↦ subst (λ other. Passes g.M.Meanwhile.passes c.args.other.now other) (sym w.other-is) (passes_join c.parts.invariant.meanwhile (passes_one w.pass-more.ensures))
    | else-count-eq0 w ↦ subst (λ other. Passes g.M.Meanwhile.passes c.args.other.now other) (sym w.other-is) c.parts.invariant.meanwhile
  ];
}
