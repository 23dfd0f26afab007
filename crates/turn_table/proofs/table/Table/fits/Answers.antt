use Rattle.std.proofs.Common.{ap, sym, subst, IsTrue}
use Rattle.turn_history.specs.Prelude.{act_of, Fits}
use Rattle.turn_table.proofs.table.Table.fits.Goals as goal

pub returns-then-fits_allocation : goal.returns-then-fits_allocation
returns-then-fits_allocation g c =
    let alloc = c.fits_allocation-in-AllocEven.ensures.0 c.if-fits_allocation.true in
    let next = c.fits_reservation.ensures c.in-AllocEven.token in
    subst (λ d. (IsTrue c.fits_reservation.result → Fits c.args.self.now.bounds c.args.self.now.contents c.args.tuple d) × (Fits c.args.self.now.bounds c.args.self.now.contents c.args.tuple d → IsTrue c.fits_reservation.result)) (sym (ap act_of c.in-AllocEven.is))
    ((λ t. (alloc.0, alloc.1, alloc.2, next.0 t)), λ fits. next.1 fits.3)
