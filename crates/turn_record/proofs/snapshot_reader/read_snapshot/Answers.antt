use Rattle.std.proofs.Common.{ℕ, subst, arith}
use Rattle.turn_history.specs.Prelude.{Contents}
use Rattle.turn_record.proofs.Batches.{found}
use Rattle.turn_record.proofs.Snapshots.{snapshot_again, snapshot_found}
use Rattle.turn_record.proofs.snapshot_reader.read_snapshot.Goals as goal
use Rattle.turn_record.specs.Prelude.{Gives, EncodesSnapshot, snapshot_in}

pub returns-clause-encoded : goal.returns-clause-encoded
returns-clause-encoded g c =
    found (λ t. (t.moment, t.contents)) c.whole_snapshot.result (snapshot_in c.args.version c.args.limits c.args.bytes.now) (λ (y : ℕ × Contents). EncodesSnapshot c.args.version c.args.limits y.0 y.1 c.args.bytes.now)
    (snapshot_found c.args.version c.args.limits (rw c.bounds-bounds.ensures.value at c.bounds-bounds.ensures.range) c.args.bytes.now (λ i. omega (arith, c.type_inv.bytes i))) c.whole_snapshot.ensures.fault

pub returns-clause-read : goal.returns-clause-read
returns-clause-read g c = λ t contents encoded.
    subst (λ f. Gives {Y = ℕ × Contents} (λ x. (x.moment, x.contents)) c.whole_snapshot.result f)
    (snapshot_again c.args.version c.args.limits (rw c.bounds-bounds.ensures.value at c.bounds-bounds.ensures.range) c.args.bytes.now t contents encoded) c.whole_snapshot.ensures.fault
