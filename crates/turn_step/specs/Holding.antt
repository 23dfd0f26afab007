-- Which ports a generator holds for a table.
use Rattle.std.specs.Prelude.{◌≡◌, ℕ, ◌+◌, ◌<◌, ◌^◌, ◌||◌, Bool, false, Option, Some, None, IsSome}
use Rattle.turn_history.specs.Prelude.{is_taken, Contents}
use Rattle.turn_rules.specs.Prelude.{takes}
use Rattle.turn_rules.specs.declared.need.Need.{Need}
use Rattle.turn_rules.specs.declared.need.Need.TheVariants.{Pair}
use Rattle.turn_step.specs.Outcome.{Change}

-- whether a change takes the port
abbrev pub takes_in : Option Change → ℕ → Bool
takes_in None q = false
takes_in (Some c) q = takes c.act q

-- the ports of a table, those of its allocations and those that it reserves, and those that a change takes
abbrev pub ports_with : Contents → Option Change → ℕ → Bool
ports_with c change q = takes_in change q || is_taken c q

-- what was picked for a need, beside the ports that were held: none of these, and of a pair the next one is a port too
pub record ArePicked (held : ℕ → Bool) (need : Option Need) (port : ℕ) : Type 0 where
  pub needed : IsSome need
  pub first : held port ≡ false
  pub next : need ≡ Some Pair → (port + 1 < 2 ^ 16) × (held (port + 1) ≡ false)
