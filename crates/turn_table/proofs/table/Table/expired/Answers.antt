use Rattle.std.proofs.Common.{◌≤◌, ap, arith, subst, IsSomeAnd}
use Rattle.std.specs.FinMap as fin
use Rattle.turn_table.proofs.Ready.{holds_of}
use Rattle.turn_table.proofs.States.{held_of, matched, some_of}
use Rattle.turn_table.proofs.table.Table.expired.Goals as goal

pub returns-then-seconds-self : goal.returns-then-seconds-self
returns-then-seconds-self g c f e is =
    let quiet = (holds_of c.self.view_is c.self.invariant).quiet f e is in
    omega (arith, quiet.entry, c.if-seconds-self.true, c.seconds.ensures.value)

pub returns : goal.returns
returns g c =
    matched c.expired.result
    (λ ahead f e is.
    let at = held_of c.self.inside.allocations.held c.args.self.now.contents (ap (λ s. s.contents) c.self.view_is) f e is in
    let later = ahead f at.0 at.1 in
    omega (arith, later, ap (λ x. x.expiry) at.2, c.seconds-2.ensures.value))
    (λ f past. some_of c.self.inside.allocations.held c.args.self.now.contents (ap (λ s. s.contents) c.self.view_is) (λ e. e.expiry ≤ c.args.moment) f
    (subst (λ t. IsSomeAnd (fin.get c.self.inside.allocations.held f) (λ h. h.entry.expiry ≤ t)) c.seconds-2.ensures.value past))
    c.expired.ensures
