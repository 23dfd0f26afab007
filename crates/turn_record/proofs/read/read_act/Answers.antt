use Rattle.std.proofs.Common.{subst, arith}
use Rattle.turn_history.specs.Prelude.{event_of}
use Rattle.turn_history.specs.History as histories
use Rattle.turn_record.proofs.Batches.{act_again, act_found, found}
use Rattle.turn_record.proofs.read.read_act.Goals as goal
use Rattle.turn_record.specs.Prelude.{Gives, act_in, EncodesAct}

pub returns-clause-encoded : goal.returns-clause-encoded
returns-clause-encoded g c =
    found event_of c.whole_act.result (act_in c.args.version c.args.limits c.args.bytes.now) (λ (e : histories.Event). EncodesAct c.args.version c.args.limits e c.args.bytes.now)
    (act_found c.args.version c.args.limits (rw c.bounds.ensures.value at c.bounds.ensures.range) c.args.bytes.now (λ i. omega (arith, c.type_inv.bytes i))) (rw c.bounds.ensures.value at c.whole_act.ensures)

pub returns-clause-read : goal.returns-clause-read
returns-clause-read g c = λ e encoded. subst (λ f. Gives event_of c.whole_act.result f) (act_again c.args.version c.args.limits (rw c.bounds.ensures.value at c.bounds.ensures.range) c.args.bytes.now e encoded) (rw c.bounds.ensures.value at c.whole_act.ensures)
