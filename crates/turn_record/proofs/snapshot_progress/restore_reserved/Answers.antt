use Rattle.std.proofs.Common.{◌++◌, ◌∙◌, ap, subst, arith}
use Rattle.std.specs.FinMap as fin
use Rattle.std.proofs.lemmas.Result.{err_from_is_err_and}
use Rattle.turn_record.specs.Prelude.{HasRoom, Place}
use Rattle.turn_record.proofs.Onward.{refused_reserved, reserved_room, took_reserved}
use Rattle.turn_record.proofs.snapshot_progress.restore_reserved.Goals as goal
use Rattle.turn_table.specs.Prelude.{State}

pub invariant_of-restored-2 : goal.invariant_of-restored-2
invariant_of-restored-2 g c =
    let is = ap (λ (p : Place). p.1) c.restored.view_is ∙ c.requires.reserved in
    let ok = c.in_ok-restore_reserved.ensures.ok in
    reserved_room c.restored.inside.table c.restore_reserved.new.self (c.in-Some.port, c.in-Some.reservation) c.args.left
    c.in_ok-restore_reserved.ensures.ports (ap (λ (s : State). s.bounds) ok) (subst (HasRoom c.restored.inside.table) is c.restored.invariant) c.requires.some

pub returns-in_err-port-clause-takes : goal.returns-in_err-port-clause-takes
returns-in_err-port-clause-takes g c =
    let is = ap (λ (p : Place). p.1) c.restored.view_is ∙ c.requires.reserved in
    let p = err_from_is_err_and c.from_residual.result c.from_residual.ensures.1 in
    rw (p.1, p.2, ← c.restored.view_is, is) (λ more. refused_reserved c.args.version c.restored.inside.table c.args.left c.in_err-port.field-0.0 (c.args.bytes.now ++ more) c.requires.some (c.in_err-port.ensures.next more))

pub returns-clause-takes : goal.returns-clause-takes
returns-clause-takes g c =
    let is = ap (λ (p : Place). p.1) c.restored.view_is ∙ c.requires.reserved in
    let ok = c.in_ok-restore_reserved.ensures.ok in
    let bounds = ap (λ (s : State). s.bounds) ok in
    let next = rw c.in-Some.is at c.in_ok-port.ensures.next in
    rw (← c.restored.view_is, is) (
      omega (arith, c.requires.some),
      λ more. took_reserved c.args.version c.restored.inside.table c.restore_reserved.new.self bounds (ap (λ (s : State). s.moment) ok) c.args.left (c.in-Some.port, c.in-Some.reservation)
          c.args.bytes.now c.in-Some.rest.now more c.requires.some (ap (λ (s : State). fin.entries s.contents.entries) ok) c.in_ok-restore_reserved.ensures.ports (next more),
    )
