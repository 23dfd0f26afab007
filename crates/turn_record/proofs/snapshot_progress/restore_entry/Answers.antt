use Rattle.std.proofs.Common.{◌++◌, ◌∙◌, ap, subst, arith}
use Rattle.std.proofs.lemmas.Result.{err_from_is_err_and}
use Rattle.turn_record.specs.Prelude.{HasRoom, Place}
use Rattle.turn_record.proofs.Snapshots.{none_at}
use Rattle.turn_record.proofs.Onward.{entry_room, refused_entry, took_entry}
use Rattle.turn_record.proofs.snapshot_progress.restore_entry.Goals as goal
use Rattle.turn_table.specs.Prelude.{State}
use Rattle.turn_types.specs.declared.limits.Bounds.{Bounds}

pub invariant_of-restored-2 : goal.invariant_of-restored-2
invariant_of-restored-2 g c =
    let is = ap (λ (p : Place). p.1) c.restored.view_is ∙ c.requires.entries in
    let ok = c.in_ok-restore.ensures.ok in
    entry_room c.restored.inside.table c.restore.new.self (c.in-Some.tuple, c.in-Some.entry.entry) c.args.left
    c.in_ok-restore.ensures.entries (ap (λ (s : State). s.bounds) ok) (ap (λ (s : State). s.contents.reserved) ok) (subst (HasRoom c.restored.inside.table) is c.restored.invariant) c.requires.some

pub returns-in_err-tuple-clause-takes : goal.returns-in_err-tuple-clause-takes
returns-in_err-tuple-clause-takes g c =
    let is = ap (λ (p : Place). p.1) c.restored.view_is ∙ c.requires.entries in
    let p = err_from_is_err_and c.from_residual.result c.from_residual.ensures.1 in
    rw (p.1, p.2, ← c.restored.view_is, is) (λ more. refused_entry c.args.version c.restored.inside.table c.args.left c.in_err-tuple.field-0.0 (c.args.bytes.now ++ more) c.requires.some (c.in_err-tuple.ensures.next more))

pub returns-clause-takes : goal.returns-clause-takes
returns-clause-takes g c =
    let is = ap (λ (p : Place). p.1) c.restored.view_is ∙ c.requires.entries in
    let ok = c.in_ok-restore.ensures.ok in
    let bounds = ap (λ (s : State). s.bounds) ok in
    let next = rw c.in-Some.is at c.in_ok-tuple.ensures.next in
    rw (← c.restored.view_is, is) (
      omega (arith, c.requires.some, ap (λ (b : Bounds). b.allocations) bounds),
      λ more. took_entry c.args.version c.restored.inside.table c.restore.new.self bounds (ap (λ (s : State). s.moment) ok) c.args.left (c.in-Some.tuple, c.in-Some.entry.entry)
          c.args.bytes.now c.in-Some.rest.now more c.requires.some c.in_ok-restore.ensures.entries (next more),
    )

pub restore-requires-clause-unreserved : goal.restore-requires-clause-unreserved
restore-requires-clause-unreserved g c =
    let is = ap (λ (p : Place). p.1) c.restored.view_is ∙ c.requires.entries in
    let room = subst (HasRoom c.restored.inside.table) is c.restored.invariant in
    none_at c.restored.inside.table.contents.reserved room.1 c.in-Some.entry.entry.port
