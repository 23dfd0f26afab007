use Rattle.std.proofs.Common.{ap, sym, ◌∙◌, nat_cmp}
use Rattle.std.proofs.lemmas.Cmp.{nat_cmp_total}
use Rattle.std.specs.FinMap as fin
use Rattle.std.specs.FinMap.{nat_cmp-IsAntisymmetric}
use Rattle.turn_table.specs.Prelude.{scan, map_in}
use Rattle.turn_table.proofs.Sorted.{get-ok, get-err}
use Rattle.turn_table.proofs.sorted_map.SortedMap+ChannelNumber+V+A.get_number.Goals as goal

pub returns-in-Ok : goal.returns-in-Ok
returns-in-Ok g c =
    sym (get-ok nat_cmp_total nat_cmp-IsAntisymmetric c.self.inside.items.items c.self.invariant c.args.number c.in-Ok.i c.index.result.now (c.in-Ok.ensures.value ∙ ap (scan nat_cmp c.args.number) c.deref.ensures.value) c.index.ensures)
    ∙ ap (λ s. fin.get (map_in nat_cmp s) c.args.number) c.self.view_is

pub returns-in-Err : goal.returns-in-Err
returns-in-Err g c =
    sym (get-err nat_cmp_total nat_cmp-IsAntisymmetric c.self.inside.items.items c.self.invariant c.args.number c.in-Err.field-0 (c.in-Err.ensures.value ∙ ap (scan nat_cmp c.args.number) c.deref.ensures.value))
    ∙ ap (λ s. fin.get (map_in nat_cmp s) c.args.number) c.self.view_is
