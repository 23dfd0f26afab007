use Rattle.std.proofs.Common.{◌≡◌, true, false, ap, subst, sym}
use Rattle.turn_record.specs.Prelude.{HasRoom, Place, is_done}
use Rattle.turn_record.proofs.Onward.{given_all, given_none, given_short}
use Rattle.turn_record.proofs.snapshot_progress.conclude.Goals as goal

pub returns-in-None-clause-gives : goal.returns-in-None-clause-gives
returns-in-None-clause-gives g c = λ b bytes waits. rw c.in-None.is (given_none c.args.version b bytes (rw c.in-None.is at waits))

pub returns-then-not-is_done-clause-gives : goal.returns-then-not-is_done-clause-gives
returns-then-not-is_done-clause-gives g c = λ b bytes waits.
    let more = subst (λ (p : Place). is_done c.args.version p.1 ≡ false) c.restored.view_is (sym c.if-not-is_done.ensures) in
    rw c.in-Some.is (given_short c.args.version b c.in-Some.restored bytes (rw c.in-Some.is at waits) more)

pub returns-else-not-is_done-clause-gives : goal.returns-else-not-is_done-clause-gives
returns-else-not-is_done-clause-gives g c = λ b bytes waits.
    let done = subst (λ (p : Place). is_done c.args.version p.1 ≡ true) c.restored.view_is (sym c.if-not-is_done.ensures) in
    let room = subst (λ (p : Place). HasRoom p.0 p.1) c.restored.view_is c.restored.invariant in
    let given = given_all c.args.version b c.in-Some.restored bytes (rw c.in-Some.is at waits) done room in
    let table = ap (λ (p : Place). p.0) c.restored.view_is in
    rw c.in-Some.is cc
