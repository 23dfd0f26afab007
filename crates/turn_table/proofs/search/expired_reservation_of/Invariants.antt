use Rattle.std.proofs.Common.{◌≡◌, drop, nat_le}
use Rattle.std.specs.List.{position_from}
use Rattle.turn_table.proofs.search.expired_reservation_of.Given as goal

-- what is left gives the place
abbrev pub invariant-loop-i : goal.invariant-loop-i
invariant-loop-i l = position_from (λ p. nat_le p.1.expiry l.seconds) l.i (drop l.i l.ports) ≡ position_from (λ p. nat_le p.1.expiry l.seconds) 0 l.ports
