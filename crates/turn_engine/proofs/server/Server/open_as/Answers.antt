use Rattle.std.proofs.Common.{Err, Ok, sym, ap, ◌∙◌, subst}
use Rattle.turn_store.specs.Opening as stores
use Rattle.turn_types.specs.Prelude.{Config}
use Rattle.turn_types.specs.declared.limits.Bounds.{Bounds}
use Rattle.turn_engine.specs.Prelude.{Opening}
use Rattle.turn_engine.proofs.Opened.{of_made, refused}
use Rattle.turn_engine.proofs.server.Server.open_as.Goals as goal

pub returns-in-Err-clause-call : goal.returns-in-Err-clause-call
returns-in-Err-clause-call g c =
    refused g.D.Disk c.args.disk c.args.config.now c.args.handler c.args.ports c.args.carry c.in-Err.field-0
    (subst (λ (b : Bounds). stores.Opening g.D.Disk c.args.disk b c.args.carry (Err c.in-Err.field-0)) c.limits-limits.ensures.value c.in-Err.ensures)

pub returns-clause-call : goal.returns-clause-call
returns-clause-call g c =
    let same = c.in-Ok.ensures in
    subst (λ (x : Config). Opening g.D.Disk c.args.disk x c.args.handler c.args.ports c.over.result) same
    (c.over.ensures.call c.args.disk c.args.carry
    (subst (λ (b : Bounds). stores.Opening g.D.Disk c.args.disk b c.args.carry (Ok c.in-Ok-open_as.opened)) (c.limits-limits.ensures.value ∙ sym (ap (λ (x : Config). x.limits) same)) c.in-Ok-open_as.ensures))

pub returns-clause-carried : goal.returns-clause-carried
returns-clause-carried g c = of_made _ _ c.over.result c.over.ensures.ok c.in-Ok-open_as.ensures.carried

pub returns-clause-same : goal.returns-clause-same
returns-clause-same g c kept = rw c.over.ensures.disk (c.in-Ok-open_as.ensures.same kept)
