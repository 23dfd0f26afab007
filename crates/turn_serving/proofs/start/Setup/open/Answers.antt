use Rattle.std.proofs.Common.{false, Ok, refl, subst}
use Rattle.turn_store.specs.Opening as stores
use Rattle.turn_types.specs.declared.limits.Bounds.{Bounds}
use Rattle.turn_serving.specs.Starts.{IsRefusedFor}
use Rattle.turn_serving.proofs.Starts.{store_images, store_refused, untouched}
use Rattle.turn_serving.proofs.start.Setup.open.Goals as goal

pub returns-in_default-clause-kept_err : goal.returns-in_default-clause-kept_err
returns-in_default-clause-kept_err g c = untouched g.D.Disk c.args.disk

pub returns-in-Ok-open_unchanged-clause-opens : goal.returns-in-Ok-open_unchanged-clause-opens
returns-in-Ok-open_unchanged-clause-opens g c = subst (λ (b : Bounds). stores.Opening g.D.Disk c.args.disk b false (Ok c.in-Ok-open_unchanged.opened)) c.limits-limits.ensures.value c.in-Ok-open_unchanged.ensures

pub returns-in-Err-clause-kept_err : goal.returns-in-Err-clause-kept_err
returns-in-Err-clause-kept_err g c = record { images = store_images g.D.Disk c.in-Err.ensures; content = c.in-Err.ensures.same refl }

pub returns-in-Err-clause-refused : goal.returns-in-Err-clause-refused
returns-in-Err-clause-refused g c =
    subst (λ (b : Bounds). IsRefusedFor g.D.Disk c.args.disk c.in-Err.refused.disk b c.in-Err.refused.fault) c.limits-limits.ensures.value (store_refused g.D.Disk c.in-Err.ensures)
