use Rattle.std.proofs.Common.{◌⊎◌, ◌∷◌, []}
use Rattle.std.proofs.lemmas.Result.{err_from_is_err_and}
use Rattle.turn_disk.proofs.Since.{since_weaken, through_once}
use Rattle.turn_store.proofs.Rows.{row_switch, after_switch}
use Rattle.turn_store.specs.Prelude.{Holds}
use Rattle.turn_store.proofs.Staged.{leaves_of, step_of}
use Rattle.turn_store.proofs.areas.switch.Goals as goal

pub returns-in_err-write_through-clause-switches : goal.returns-in_err-write_through-clause-switches
returns-in_err-write_through-clause-switches g c =
    let p = err_from_is_err_and c.from_residual.result c.from_residual.ensures.1 in
    rw (p.1, p.2) (step_of (λ crash_model v w form start generation snapshot next payloads fits short fitting room holds filled.
    leaves_of (since_weaken _ _ _ (λ image. Holds v form snapshot payloads image ⊎ Holds w form next [] image) (λ image changes. row_switch v form start c.args.gate generation snapshot payloads _ holds w fitting next fits short room image changes filled) (c.write_through.ensures.stop crash_model holds.settled)) tt) c.in_err-write_through.ensures.uses c.write_through.ensures.meanwhile)

pub returns-clause-switches : goal.returns-clause-switches
returns-clause-switches g c =
    step_of (λ crash_model v w form start generation snapshot next payloads fits short fitting room holds filled.
    leaves_of (since_weaken _ _ _ (λ image. Holds v form snapshot payloads image ⊎ Holds w form next [] image) (λ image changes. row_switch v form start c.args.gate generation snapshot payloads _ holds w fitting next fits short room image changes filled) (c.write_through.ensures.stop crash_model holds.settled)) (after_switch v form start c.args.gate generation snapshot payloads _ holds w fitting next fits short room _ (c.in_ok-write_through.ensures.done crash_model) filled)) c.in_ok-write_through.ensures.uses c.write_through.ensures.meanwhile

pub returns-in_err-write_through-clause-once : goal.returns-in_err-write_through-clause-once
returns-in_err-write_through-clause-once g c = λ crash_model. through_once c.args.gate (165 ∷ []) _ _ c.write_through.result (c.write_through.ensures.once crash_model)

pub returns-clause-once : goal.returns-clause-once
returns-clause-once g c = λ crash_model. through_once c.args.gate (165 ∷ []) _ _ c.write_through.result (c.write_through.ensures.once crash_model)
