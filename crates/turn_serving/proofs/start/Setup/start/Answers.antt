use Rattle.std.proofs.Common.{true, Err, Ok, sym, ap, ◌∙◌, refl, subst}
use Rattle.turn_sockets.specs.Backlog.{waiting_of}
use Rattle.turn_store.specs.Prelude.{Carries}
use Rattle.turn_types.specs.Prelude.{Config}
use Rattle.turn_types.specs.declared.limits.Bounds.{Bounds}
use Rattle.turn_engine.specs.Prelude.{Opening}
use Rattle.turn_serving.specs.Starts.{IsRefusedFor, KeepsImages}
use Rattle.turn_serving.proofs.Held.{all_pass}
use Rattle.turn_serving.proofs.Starts.{not_carried, refused_for, refused_images, started, started_as, store_images, store_refused, told_by_sockets}
use Rattle.turn_serving.proofs.start.Setup.start.Goals as goal

pub returns-in-Err-bind_beside-clause-stop_err : goal.returns-in-Err-bind_beside-clause-stop_err
returns-in-Err-bind_beside-clause-stop_err g c = subst (λ d. KeepsImages g.D.Disk c.args.disk d) (sym c.into_disk.ensures) (store_images g.D.Disk c.in-Ok.ensures.opens)

pub returns-in-Err-bind_beside-clause-same_err : goal.returns-in-Err-bind_beside-clause-same_err
returns-in-Err-bind_beside-clause-same_err g c = rw c.into_disk.ensures (λ crash_model later. c.in-Ok.ensures.opens.same refl crash_model)

pub returns-in-Err-bind_beside-clause-before_err : goal.returns-in-Err-bind_beside-clause-before_err
returns-in-Err-bind_beside-clause-before_err g c = rw c.into_disk.ensures (λ crash_model before. c.in-Ok.ensures.opens.same refl crash_model)

pub returns-in-Err-bind_beside-clause-refused : goal.returns-in-Err-bind_beside-clause-refused
returns-in-Err-bind_beside-clause-refused g c = told_by_sockets _ _ c.from.ensures

pub carry_over-requires-clause-limits : goal.carry_over-requires-clause-limits
carry_over-requires-clause-limits g c = c.in-Ok.ensures.opens.bounds.1 ∙ sym c.in-Ok.ensures.opens.bounds.0

pub returns-in-Err-carry_over-clause-stop_err : goal.returns-in-Err-carry_over-clause-stop_err
returns-in-Err-carry_over-clause-stop_err g c = store_images g.D.Disk (c.in-Err-carry_over.ensures.opens c.args.disk _ c.in-Ok.ensures.opens)

pub returns-in-Err-carry_over-clause-same_err : goal.returns-in-Err-carry_over-clause-same_err
returns-in-Err-carry_over-clause-same_err g c =
    not_carried g.D.Disk c.in-Ok.opened.0 c.in-Ok.ensures.opens (Err c.in-Err-carry_over.field-0) c.in-Err-carry_over.ensures.kept c.in-Err-carry_over.ensures.crash_model

pub returns-in-Err-carry_over-clause-refused : goal.returns-in-Err-carry_over-clause-refused
returns-in-Err-carry_over-clause-refused g c = store_refused g.D.Disk (c.in-Err-carry_over.ensures.opens c.args.disk _ c.in-Ok.ensures.opens)

pub over-requires-clause-bounds : goal.over-requires-clause-bounds
over-requires-clause-bounds g c = rw c.in-Ok.ensures.config (c.in-Ok-carry_over.ensures.opens c.args.disk _ c.in-Ok.ensures.opens).bounds

pub over-requires-clause-holds : goal.over-requires-clause-holds
over-requires-clause-holds g c = (c.in-Ok-carry_over.ensures.opens c.args.disk _ c.in-Ok.ensures.opens).holds

pub returns-in-Err-over-clause-stop_err : goal.returns-in-Err-over-clause-stop_err
returns-in-Err-over-clause-stop_err g c =
    refused_images g.D.Disk (c.in-Err-over.ensures.call c.args.disk true (rw c.in-Ok.ensures.config (c.in-Ok-carry_over.ensures.opens c.args.disk _ c.in-Ok.ensures.opens)))

pub returns-in-Err-over-clause-refused : goal.returns-in-Err-over-clause-refused
returns-in-Err-over-clause-refused g c =
    subst (λ (x : Config). IsRefusedFor g.D.Disk c.args.disk c.in-Err-over.refused.disk x.limits c.in-Err-over.refused.fault) c.in-Ok.ensures.config
    (refused_for g.D.Disk (c.in-Err-over.ensures.call c.args.disk true (rw c.in-Ok.ensures.config (c.in-Ok-carry_over.ensures.opens c.args.disk _ c.in-Ok.ensures.opens))))

pub returns-in-Err-over-clause-same_err : goal.returns-in-Err-over-clause-same_err
returns-in-Err-over-clause-same_err g c =
    rw c.in-Err-over.ensures.disk (not_carried g.D.Disk c.in-Ok.opened.0 c.in-Ok.ensures.opens (Ok c.in-Ok-carry_over.opened) c.in-Ok-carry_over.ensures.kept c.in-Ok-carry_over.ensures.crash_model)

pub returns-clause-started : goal.returns-clause-started
returns-clause-started g c =
    let opens = c.in-Ok-carry_over.ensures.opens c.args.disk _ c.in-Ok.ensures.opens in
    let call = c.in-Ok-over.ensures.call c.args.disk true (rw c.in-Ok.ensures.config opens) in
    started_as c.new.ensures.server
    (started g.D.Disk g.H.AuthHandler _ c.args.disk _ _ _ _ _ c.in-Ok-bind_beside.ensures.range
    (subst (λ (x : Config). Opening g.D.Disk c.args.disk x c.args.handler c.in-Ok-bind_beside.beside.ports (Ok c.in-Ok-over.server)) c.in-Ok.ensures.config call)
    (subst (λ st. g.D.Disk.follows_crash_model st.disk → Carries true (g.D.Disk.trace c.args.disk).now.bytes st) (sym (ap (λ s. s.store) c.in-Ok-over.ensures.ok)) opens.carried))

pub returns-clause-sockets : goal.returns-clause-sockets
returns-clause-sockets g c = rw (c.new.ensures.server, c.in-Ok-over.ensures.ok, c.in-Ok-carry_over.ensures.table) (all_pass _ c.in-Ok.opened.0.table.contents c.in-Ok-bind_beside.ensures.held)

pub returns-clause-held : goal.returns-clause-held
returns-clause-held g c = rw (c.new.ensures.server, c.in-Ok-over.ensures.ok, c.in-Ok-carry_over.ensures.table) c.in-Ok-bind_beside.ensures.held

pub returns-clause-same : goal.returns-clause-same
returns-clause-same g c =
    rw (c.new.ensures.server, c.in-Ok-over.ensures.ok)
    (not_carried g.D.Disk c.in-Ok.opened.0 c.in-Ok.ensures.opens (Ok c.in-Ok-carry_over.opened) c.in-Ok-carry_over.ensures.kept c.in-Ok-carry_over.ensures.crash_model)

pub returns-clause-stop : goal.returns-clause-stop
returns-clause-stop g c =
    rw (c.new.ensures.server, c.in-Ok-over.ensures.ok) (store_images g.D.Disk (c.in-Ok-carry_over.ensures.opens c.args.disk _ c.in-Ok.ensures.opens))

pub returns-clause-waits : goal.returns-clause-waits
returns-clause-waits g c f = ap (λ b. waiting_of b f) c.new.ensures.backlog ∙ c.in-Ok-bind_beside.ensures.waits f
