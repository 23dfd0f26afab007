use Rattle.std.proofs.lemmas.Result.{err_from_is_err_and}
use Rattle.turn_disk.proofs.Device.{reads_as}
use Rattle.turn_store.proofs.superblock.limits.Goals as goal

pub returns-in_err-found : goal.returns-in_err-found
returns-in_err-found g c =
    let p = err_from_is_err_and c.from_residual.result c.from_residual.ensures.1 in
    let is = c.in_err-found.ensures in
    rw (p.1, p.2) (record { reads = reads_as (λ e. cc) (λ e. cc) is.reads; found = λ crash_model. (tt, (is.found crash_model).1) })
