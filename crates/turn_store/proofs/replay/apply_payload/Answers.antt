use Rattle.std.proofs.Common.{List, sym, subst}
use Rattle.std.proofs.lemmas.Result.{err_from_is_err_and}
use Rattle.turn_history.specs.History as histories
use Rattle.turn_store.specs.Prelude.{GoOn, snapshot_of}
use Rattle.std.specs.List.{AllByRecursion}
use Rattle.turn_history.specs.Prelude.{Bounds, IsInRange}
use Rattle.turn_record.specs.Prelude.{events_of}
use Rattle.turn_store.proofs.replay.apply_payload.Goals as goal

pub returns-in_err-apply_all-clause-bad : goal.returns-in_err-apply_all-clause-bad
returns-in_err-apply_all-clause-bad g c =
    let p = err_from_is_err_and c.from_residual-in_err-apply_all.result c.from_residual-in_err-apply_all.ensures.1 in
    rw (p.1, p.2) (λ is es encodes goes.
    let s = snapshot_of c.args.table.now in
    let there = subst (λ (b : Bounds). GoOn b s es) (sym c.requires) goes in
    c.in_err-apply_all.ensures.bad is (subst (λ (l : List histories.Event). GoOn c.args.table.now.bounds s l) (c.in_ok-events.ensures.once es encodes) there))

pub apply_all-requires : goal.apply_all-requires
apply_all-requires g c = subst (λ (b : Bounds). AllByRecursion (IsInRange b) (events_of c.in_ok-events.events.items)) (sym c.requires) c.in_ok-events.ensures.encoded.batch.in_range
