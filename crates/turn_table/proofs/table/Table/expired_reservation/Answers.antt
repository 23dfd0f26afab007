use Rattle.std.proofs.Common.{◌≤◌, ◌<◌, ap, sym, ◌∙◌, arith, subst, get_or, IsSomeAnd, nat_le, nat_cmp, leb-false, leb-true}
use Rattle.std.specs.FinMap as fin
use Rattle.turn_table.specs.Prelude.{map_in}
use Rattle.turn_table.proofs.Places.{entry_found, no_entry, no_port}
use Rattle.turn_table.proofs.table.Table.expired_reservation.Goals as goal

pub returns-then-seconds-self : goal.returns-then-seconds-self
returns-then-seconds-self g c port r is =
    let later = c.self.invariant.reserved_quiet port r (ap (λ s. fin.get s.contents.reserved port) c.self.view_is ∙ is) in
    omega (arith, later, c.if-seconds-self.true, c.seconds.ensures.value)

pub returns-in-Some : goal.returns-in-Some
returns-in-Some g c =
    let at = entry_found (λ p. nat_le p.1.expiry c.seconds-2.result) (map_in nat_cmp c.self.inside.reserved) c.items-ports.result.now c.items-ports.ensures c.in-Some.i no_port c.in-Some.ensures.value in
    subst (λ o. IsSomeAnd o (λ r. r.expiry ≤ c.args.moment)) (sym (ap (λ s. fin.get s.contents.reserved (get_or c.items-ports.result.now c.in-Some.i no_port).0) (sym c.self.view_is) ∙ at.0))
    (subst (λ t. (get_or c.items-ports.result.now c.in-Some.i no_port).1.expiry ≤ t) c.seconds-2.ensures.value (leb-true _ _ at.1))

pub returns-in-None : goal.returns-in-None
returns-in-None g c port r is =
    subst (λ t. t < r.expiry) c.seconds-2.ensures.value
    (leb-false r.expiry c.seconds-2.result
    (no_entry (λ p. nat_le p.1.expiry c.seconds-2.result) (map_in nat_cmp c.self.inside.reserved) c.items-ports.result.now c.items-ports.ensures c.in-None.ensures.value port r (ap (λ s. fin.get s.contents.reserved port) c.self.view_is ∙ is)))
