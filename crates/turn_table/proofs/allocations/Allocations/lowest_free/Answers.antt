use Rattle.std.proofs.Common.{subst, nat_cmp}
use Rattle.std.specs.FinMap as fin
use Rattle.turn_history.specs.Prelude.{has_port}
use Rattle.turn_ports.specs.Ports.{IsLowestFree}
use Rattle.turn_types.specs.Prelude.{tuple_cmp}
use Rattle.turn_table.specs.Prelude.{held_in, map_in, entries_of}
use Rattle.turn_table.proofs.Index.{taken-is}
use Rattle.turn_table.proofs.allocations.Allocations.lowest_free.Goals as goal

pub returns : goal.returns
returns g c =
    subst (λ l. IsLowestFree (c.args.first, c.args.last) (has_port (record { entries = entries_of l.held; reserved = fin.empty })) c.args.even c.lowest_free.result) c.self.view_is
    (subst (λ taken. IsLowestFree (c.args.first, c.args.last) taken c.args.even c.lowest_free.result)
    (λ j port. taken-is (held_in c.self.inside.entries.entries) (fin.get (map_in tuple_cmp c.self.inside.order)) (fin.get (map_in nat_cmp c.self.inside.ports)) c.self.invariant.0 port j)
    c.lowest_free.ensures)
