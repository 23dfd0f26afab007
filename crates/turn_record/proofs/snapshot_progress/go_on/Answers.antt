use Rattle.std.proofs.Common.{◌≡◌, true, false, subst, sym}
use Rattle.turn_record.specs.Prelude.{HasRoom, Place, is_done}
use Rattle.turn_record.proofs.Onward.{empty_waits, goes_on_at, is_some, still_waits, trailing}
use Rattle.turn_record.proofs.snapshot_progress.go_on.Goals as goal
use Rattle.turn_record.proofs.snapshot_progress.go_on.Goals.{else-is_done, then-is_done+else-not-is_empty}

pub returns-then-not-is_empty-clause-goes : goal.returns-then-not-is_empty-clause-goes
returns-then-not-is_empty-clause-goes g c = λ b more.
    let done = subst (λ (p : Place). is_done c.args.version p.1 ≡ true) c.restored.view_is (sym c.if-is_done.ensures) in
    let room = subst (λ (p : Place). HasRoom p.0 p.1) c.restored.view_is c.restored.invariant in
    trailing c.args.version b c.args.restored c.restore_items.new.restored c.args.bytes.now c.in_ok-rest.rest.now more (c.in_ok-rest.ensures.goes more) done room (is_some _ c.if-not-is_empty.ensures)

pub returns-clause-goes : goal.returns-clause-goes
returns-clause-goes g c = λ b more. goes_on_at c.args.version b c.args.restored c.restore_items.new.restored c.args.bytes.now c.in_ok-rest.rest.now more (c.in_ok-rest.ensures.goes more)

pub returns-clause-waits : goal.returns-clause-waits
returns-clause-waits g c =
    elim c.if-is_done.branch [
      | then-is_done+else-not-is_empty w ↦ empty_waits c.args.version c.restore_items.new.restored c.in_ok-rest.rest.now (subst (λ (p : Place). is_done c.args.version p.1 ≡ true) c.restored.view_is (sym w.if-is_done.ensures)) w.if-not-is_empty.ensures
      | else-is_done w ↦ still_waits c.args.version c.restore_items.new.restored c.in_ok-rest.rest.now (subst (λ (p : Place). is_done c.args.version p.1 ≡ false) c.restored.view_is (sym w.if-is_done.ensures)) c.in_ok-rest.ensures.waits
    ]
