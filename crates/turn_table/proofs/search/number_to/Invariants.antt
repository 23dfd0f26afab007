use Rattle.std.proofs.Common.{◌≡◌, drop}
use Rattle.std.specs.List.{position_from}
use Rattle.turn_history.specs.Prelude.{is_peer}
use Rattle.turn_table.proofs.search.number_to.Given as goal

-- what is left gives the place
abbrev pub invariant-loop-i : goal.invariant-loop-i
invariant-loop-i l =
    position_from (λ s. is_peer l.peer s.1) l.i (drop l.i l.channels) ≡ position_from (λ s. is_peer l.peer s.1) 0 l.channels
