use Rattle.std.proofs.Common.{inl, inr, refl, sym, ◌∙◌, subst, arith}
use Rattle.turn_disk.proofs.Device.{reads_as}
use Rattle.turn_store.proofs.Sizes.{each_small}
use Rattle.turn_store.proofs.Sound.{not_both}
use Rattle.turn_store.specs.Prelude.{HasSuperblock}
use Rattle.turn_types.specs.declared.limits.Bounds.{Bounds}
use Rattle.turn_store.proofs.Staged.{read_of}
use Rattle.turn_store.proofs.open.read_area_size.Goals as goal

pub returns-in-Err-NotAStore-clause-read : goal.returns-in-Err-NotAStore-clause-read
returns-in-Err-NotAStore-clause-read g c =
    let is = c.in-Err-NotAStore.ensures in
    record { reads = reads_as (λ e. cc) (λ e. let no = c.in-Err-NotAStore.field-0-is in cc) is.reads; found = λ crash_model. (tt, (is.found crash_model).1 c.in-Err-NotAStore.field-0-is) }

pub returns-then-not-are_same-clause-read : goal.returns-then-not-are_same-clause-read
returns-then-not-are_same-clause-read g c =
    let is = c.in-Ok.ensures in
    record { reads = reads_as (λ e. cc) (λ e. cc) is.reads; found = λ crash_model. (tt, (c.in-Ok.found.area, c.in-Ok.found.limits, (is.found crash_model).0, λ same. not_both c.are_same.result (c.are_same.ensures.1 same) c.if-not-are_same.true)) }

pub returns-then-found-needed-clause-read : goal.returns-then-found-needed-clause-read
returns-then-found-needed-clause-read g c =
    let is = c.in-Ok.ensures in
    read_of (reads_as (λ e. cc) (λ e. cc) is.reads) (λ crash_model.
    let content = (g.D.Disk.trace c.args.disk.now).now.bytes in
    let has : HasSuperblock c.in-Ok.found.area c.args.limits content = subst (λ (l : Bounds). HasSuperblock c.in-Ok.found.area l content) (c.are_same.ensures.0 c.if-not-are_same.false) (is.found crash_model).0 in
    (tt, (c.in-Ok.found.area, has, inl (refl, inl (omega (arith, c.if-found-needed.true, c.least_area_of-needed.ensures.value))))))

pub returns-then-not-is_whole-clause-read : goal.returns-then-not-is_whole-clause-read
returns-then-not-is_whole-clause-read g c =
    let is = c.in-Ok.ensures in
    read_of (reads_as (λ e. cc) (λ e. cc) is.reads) (λ crash_model.
    let content = (g.D.Disk.trace c.args.disk.now).now.bytes in
    let has : HasSuperblock c.in-Ok.found.area c.args.limits content = subst (λ (l : Bounds). HasSuperblock c.in-Ok.found.area l content) (c.are_same.ensures.0 c.if-not-are_same.false) (is.found crash_model).0 in
    (tt, (c.in-Ok.found.area, has, inl (refl, inr (λ whole. not_both c.is_whole.result (c.is_whole.ensures.1 (c.size-size.ensures ∙ sym (g.met.D.Disk.sized c.args.disk.now (is.reads.crash_model crash_model)) ∙ whole)) c.if-not-is_whole.true)))))

pub returns-clause-small : goal.returns-clause-small
returns-clause-small g c =
    each_small c.args.limits (omega (arith, c.least_area_of-needed.ensures.value, c.least_area_of-needed.ensures.small)) (omega (arith, c.least_area-max.ensures.value, c.least_area-max.ensures.small))
