use Rattle.std.proofs.Common.{refl}
use Rattle.std.proofs.lemmas.Result.{err_from_is_err_and}
use Rattle.turn_disk.proofs.Device.{uses_then}
use Rattle.turn_disk.proofs.Passing.{passes_join}
use Rattle.turn_store.proofs.Replacing.{closing, filling, switching}
use Rattle.turn_store.proofs.Staged.{step_of}
use Rattle.turn_store.proofs.areas.replace.Goals as goal

pub returns-in_err-close : goal.returns-in_err-close
returns-in_err-close g c =
    let p = err_from_is_err_and c.from_residual.result c.from_residual.ensures.1 in
    let closes = c.in_err-close.ensures in
    rw (p.1, p.2) (step_of (λ crash_model v w form start generation end snapshot next payloads fits short fitting room front_is recovers.
    closing v w form start c.args.gate generation snapshot next payloads _ _ _ (closes.does crash_model v form start generation end snapshot payloads recovers).stop) closes.uses closes.meanwhile)

pub returns-in_err-fill : goal.returns-in_err-fill
returns-in_err-fill g c =
    let p = err_from_is_err_and c.from_residual-in_err-fill.result c.from_residual-in_err-fill.ensures.1 in
    let closes = c.in_ok-close.ensures in
    let fills = c.in_err-fill.ensures in
    rw (p.1, p.2) (step_of (λ crash_model v w form start generation end snapshot next payloads fits short fitting room front_is recovers.
    filling v w form start c.args.gate generation snapshot next payloads _ room front_is _ _ _ _ (closes.does (fills.uses.crash_model crash_model) v form start generation end snapshot payloads recovers)
    _ (fills.does crash_model v form start generation snapshot payloads) _) (uses_then closes.uses (λ is. cc) fills.uses) (passes_join closes.meanwhile fills.meanwhile))

pub returns-in_err-switch : goal.returns-in_err-switch
returns-in_err-switch g c =
    let p = err_from_is_err_and c.from_residual-in_err-switch.result c.from_residual-in_err-switch.ensures.1 in
    let closes = c.in_ok-close.ensures in
    let fills = c.in_ok-fill.ensures in
    let switches = c.in_err-switch.ensures.switches in
    rw (p.1, p.2) (step_of (λ crash_model v w form start generation end snapshot next payloads fits short fitting room front_is recovers.
    let before = switches.uses.crash_model crash_model in
    switching v w form start c.args.gate generation snapshot next payloads _ room front_is _ _ _ _ (closes.does (fills.uses.crash_model before) v form start generation end snapshot payloads recovers)
    _ (fills.does before v form start generation snapshot payloads) _ refl _ _ (switches.does crash_model v w form start generation snapshot next payloads fits short fitting room) (c.switch.ensures.once crash_model)) (uses_then closes.uses (λ is. cc) (uses_then fills.uses (λ is. cc) switches.uses)) (passes_join closes.meanwhile (passes_join fills.meanwhile switches.meanwhile)))

pub returns : goal.returns
returns g c =
    let closes = c.in_ok-close.ensures in
    let fills = c.in_ok-fill.ensures in
    let switches = c.in_ok-switch.ensures.switches in
    step_of (λ crash_model v w form start generation end snapshot next payloads fits short fitting room front_is recovers.
    let before = switches.uses.crash_model crash_model in
    switching v w form start c.args.gate generation snapshot next payloads _ room front_is _ _ _ _ (closes.does (fills.uses.crash_model before) v form start generation end snapshot payloads recovers)
    _ (fills.does before v form start generation snapshot payloads) _ refl _ _ (switches.does crash_model v w form start generation snapshot next payloads fits short fitting room) (c.switch.ensures.once crash_model)) (uses_then closes.uses (λ is. cc) (uses_then fills.uses (λ is. cc) switches.uses)) (passes_join closes.meanwhile (passes_join fills.meanwhile switches.meanwhile))
