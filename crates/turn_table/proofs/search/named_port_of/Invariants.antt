use Rattle.std.proofs.Common.{◌≡◌, drop, bytes_eq}
use Rattle.std.specs.List.{position_from}
use Rattle.turn_table.proofs.search.named_port_of.Given as goal

-- what is left gives the place
abbrev pub invariant-loop-i : goal.invariant-loop-i
invariant-loop-i l = position_from (λ p. bytes_eq p.1.token.0 l.token.0) l.i (drop l.i l.ports) ≡ position_from (λ p. bytes_eq p.1.token.0 l.token.0) 0 l.ports
