use Rattle.std.proofs.Common.{◌+◌, length, arith, rules}
use Rattle.std.proofs.lemmas.Result.{err_from_is_err_and}
use Rattle.turn_disk.specs.Prelude.{ChangesOnly}
use Rattle.turn_disk.proofs.Since.{since_weaken}
use Rattle.turn_store.proofs.Rows.{row_fill, filled_after}
use Rattle.turn_store.specs.Prelude.{Holds}
use Rattle.turn_store.proofs.Staged.{leaves_of, step_of}
use Rattle.turn_store.proofs.areas.fill.Goals as goal

pub returns-in_err-write_produced : goal.returns-in_err-write_produced
returns-in_err-write_produced g c =
    let p = err_from_is_err_and c.from_residual.result c.from_residual.ensures.1 in
    rw (p.1, p.2) (step_of (λ crash_model v form start generation snapshot payloads fits holds closed.
    let count = length (g.P.Producer.rest c.args.front.now) in
    record { stop = since_weaken _ _ (ChangesOnly (c.args.gate + 1) count (g.D.Disk.trace c.args.disk.now).now.bytes) (Holds v form snapshot payloads) (λ image changes. row_fill v form start c.args.gate generation snapshot payloads _ holds count image changes (omega arith) closed) (search (rules, holds.settled)); done = tt }) c.in_err-write_produced.ensures.uses c.write_produced.ensures.meanwhile)

pub returns : goal.returns
returns g c =
    step_of (λ crash_model v form start generation snapshot payloads fits holds closed.
    let count = length (g.P.Producer.rest c.args.front.now) in
    leaves_of (since_weaken _ _ (ChangesOnly (c.args.gate + 1) count (g.D.Disk.trace c.args.disk.now).now.bytes) (Holds v form snapshot payloads) (λ image changes. row_fill v form start c.args.gate generation snapshot payloads _ holds count image changes (omega arith) closed) (search (rules, holds.settled))) (filled_after v form start c.args.gate generation snapshot payloads _ holds (g.P.Producer.rest c.args.front.now) _ fits closed (c.in_ok-write_produced.ensures.done crash_model holds.settled))) c.in_ok-write_produced.ensures.uses c.write_produced.ensures.meanwhile
