use Rattle.std.proofs.Common.{◌≡◌, drop, nat_le}
use Rattle.std.specs.List.{position_from}
use Rattle.turn_table.proofs.search.expired_entry_of.Given as goal

-- what is left gives the place
abbrev pub invariant-loop-i : goal.invariant-loop-i
invariant-loop-i g l =
    position_from (λ h. nat_le h.entry.expiry l.seconds) l.i (drop l.i l.entries) ≡ position_from (λ h. nat_le h.entry.expiry l.seconds) 0 l.entries
