use Rattle.std.proofs.Common.{sym, ◌∙◌, true, false}
use Rattle.std.proofs.lemmas.Cmp.{nat_cmp_total}
use Rattle.std.specs.FinMap.{nat_cmp-IsAntisymmetric}
use Rattle.turn_table.proofs.FreePorts.{from_place}
use Rattle.turn_table.proofs.Sorted.{found-scan, gap-scan}
use Rattle.turn_table.proofs.search.ports_from.Goals as goal

pub returns-in-Ok : goal.returns-in-Ok
returns-in-Ok g c =
    let from = from_place c.args.first c.args.ports.now true c.in-Ok.place c.requires
    (found-scan nat_cmp_total nat_cmp-IsAntisymmetric c.args.first c.args.ports.now c.in-Ok.place (sym c.in-Ok.is ∙ c.place_of.ensures.value)) in
    record { sorted = from.sorted; same = from.same }

pub returns-in-Err : goal.returns-in-Err
returns-in-Err g c =
    let from = from_place c.args.first c.args.ports.now false c.in-Err.place c.requires
    (gap-scan nat_cmp_total nat_cmp-IsAntisymmetric c.args.first c.args.ports.now c.in-Err.place (sym c.in-Err.is ∙ c.place_of.ensures.value)) in
    record { sorted = from.sorted; same = from.same }
