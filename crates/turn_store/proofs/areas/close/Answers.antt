use Rattle.std.proofs.Common.{refl, rules}
use Rattle.std.proofs.lemmas.Result.{err_from_is_err_and}
use Rattle.turn_disk.proofs.Passing.{passes_none}
use Rattle.turn_disk.proofs.Since.{since_same, since_weaken}
use Rattle.turn_store.proofs.Rows.{row_close, closed_after, closed_there, recovers_image}
use Rattle.turn_store.specs.Prelude.{Holds}
use Rattle.turn_store.proofs.Staged.{leaves_of, step_of}
use Rattle.turn_store.proofs.areas.close.Goals as goal

pub returns-in_err-write_through : goal.returns-in_err-write_through
returns-in_err-write_through g c =
    let p = err_from_is_err_and c.from_residual.result c.from_residual.ensures.1 in
    rw (p.1, p.2) (step_of (λ crash_model v form start generation end snapshot payloads recovers.
    leaves_of (since_weaken _ _ _ (Holds v form snapshot payloads) (λ image changes. row_close v form start c.args.gate generation snapshot payloads _ recovers.holds image changes (recovers.below.0 (search rules))) (c.write_through.ensures.stop crash_model recovers.holds.settled)) tt) c.in_err-write_through.ensures.uses c.write_through.ensures.meanwhile)

pub returns-in_ok-write_through : goal.returns-in_ok-write_through
returns-in_ok-write_through g c =
    step_of (λ crash_model v form start generation end snapshot payloads recovers.
    leaves_of (since_weaken _ _ _ (Holds v form snapshot payloads) (λ image changes. row_close v form start c.args.gate generation snapshot payloads _ recovers.holds image changes (recovers.below.0 (search rules))) (c.write_through.ensures.stop crash_model recovers.holds.settled)) (closed_after v form start c.args.gate generation snapshot payloads _ recovers.holds _ (c.in_ok-write_through.ensures.done crash_model))) c.in_ok-write_through.ensures.uses c.write_through.ensures.meanwhile

pub returns-else-is_below : goal.returns-else-is_below
returns-else-is_below g c =
    step_of (λ crash_model v form start generation end snapshot payloads recovers.
    leaves_of (since_same _ _ (Holds v form snapshot payloads) refl (recovers_image v form start c.args.gate generation end _ snapshot payloads _ recovers)) ((recovers.holds, closed_there v form start c.args.gate generation end _ snapshot payloads _ recovers (search rules)))) (search rules) passes_none
