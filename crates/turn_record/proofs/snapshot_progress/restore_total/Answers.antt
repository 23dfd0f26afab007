use Rattle.std.proofs.Common.{◌++◌, ◌∙◌, [], ap, subst, arith}
use Rattle.std.proofs.lemmas.Result.{err_from_is_err_and}
use Rattle.turn_record.specs.Prelude.{HasRoom, Place}
use Rattle.turn_record.proofs.Onward.{refused_total, took_total, total_room}
use Rattle.turn_record.proofs.Tables.{total_passes}
use Rattle.turn_record.proofs.snapshot_progress.restore_total.Goals as goal

pub invariant_of-restored : goal.invariant_of-restored
invariant_of-restored g c =
    let is = ap (λ (p : Place). p.1) c.restored.view_is ∙ c.requires.entries in
    let next = rw (c.in-Some.is, c.limits.ensures.value) at c.in_ok-count.ensures in
    total_room c.restored.inside.table 0 c.in-Some.count (subst (HasRoom c.restored.inside.table) is c.restored.invariant) (total_passes c.restored.inside.table.bounds (c.args.bytes.now ++ []) c.in-Some.count (c.in-Some.rest.now ++ []) (next []))

pub returns-in_err-count-clause-takes : goal.returns-in_err-count-clause-takes
returns-in_err-count-clause-takes g c =
    let is = ap (λ (p : Place). p.1) c.restored.view_is ∙ c.requires.entries in
    let fails = rw c.limits.ensures.value at c.in_err-count.ensures in
    let p = err_from_is_err_and c.from_residual.result c.from_residual.ensures.1 in
    rw (p.1, p.2, ← c.restored.view_is, is) (λ more. refused_total c.args.version c.restored.inside.table c.in_err-count.field-0.0 (c.args.bytes.now ++ more) c.requires.more (fails more))

pub returns-clause-takes : goal.returns-clause-takes
returns-clause-takes g c =
    let is = ap (λ (p : Place). p.1) c.restored.view_is ∙ c.requires.entries in
    let next = rw (c.in-Some.is, c.limits.ensures.value) at c.in_ok-count.ensures in
    let room = subst (HasRoom c.restored.inside.table) is c.restored.invariant in
    rw (← c.restored.view_is, is) (
      omega (arith, total_passes c.restored.inside.table.bounds (c.args.bytes.now ++ []) c.in-Some.count (c.in-Some.rest.now ++ []) (next [])),
      λ more. took_total c.args.version c.restored.inside.table c.in-Some.count c.args.bytes.now c.in-Some.rest.now more c.requires.more room.1 (next more),
    )
