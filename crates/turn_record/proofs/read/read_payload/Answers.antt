use Rattle.std.proofs.Common.{List, subst, arith}
use Rattle.turn_history.specs.History as histories
use Rattle.turn_record.proofs.Batches.{found, payload_again, payload_found}
use Rattle.turn_record.proofs.read.read_payload.Goals as goal
use Rattle.turn_record.specs.Prelude.{Gives, payload_in, EncodesPayload, events_of}

pub returns-clause-encoded : goal.returns-clause-encoded
returns-clause-encoded g c =
    found (λ v. events_of v.items) c.whole_payload.result (payload_in c.args.version c.args.limits c.args.bytes.now) (λ (es : List histories.Event). EncodesPayload c.args.version c.args.limits es c.args.bytes.now)
    (payload_found c.args.version c.args.limits (rw c.bounds.ensures.value at c.bounds.ensures.range) c.args.bytes.now (λ i. omega (arith, c.type_inv.bytes i))) (rw c.bounds.ensures.value at c.whole_payload.ensures)

pub returns-clause-read : goal.returns-clause-read
returns-clause-read g c = λ es encoded. subst (λ f. Gives (λ v. events_of v.items) c.whole_payload.result f) (payload_again c.args.version c.args.limits (rw c.bounds.ensures.value at c.bounds.ensures.range) c.args.bytes.now es encoded) (rw c.bounds.ensures.value at c.whole_payload.ensures)
