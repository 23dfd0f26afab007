use Rattle.turn_store.proofs.Versions.{counts_in}
use Rattle.turn_store.proofs.laws.what_holds_nothing_is_not_opened.Goals as goal

pub returns : goal.returns
returns g c = λ carry content store nothing carries.
    let is = counts_in carry content store carries in
    nothing carries.version (record { bounds = store.bounds; area = store.area.size }) is.snapshot is.payloads is.holds
