-- The relayed ports that an Allocate may need, and what may have been picked for each.
use Rattle.std.specs.Prelude.{◌≡◌, ℕ, Bool, true, false, Option, Some}
use Rattle.turn_history.specs.Prelude.{is_taken, Contents}
use Rattle.turn_ports.specs.Ports.{MayPick, MayPickPair}
use Rattle.turn_rules.specs.declared.need.Need.{Need}
use Rattle.turn_rules.specs.declared.need.Need.TheVariants.{Any, Even, Pair}

-- what may be picked for a need: a free port, a free even one, or a free pair (RFC 8656, section 7.2)
abbrev pub MayPickFor : ℕ × ℕ → Contents → Bool → Need → Option ℕ → Type 0
MayPickFor range c failed Any port = MayPick range (is_taken c) false failed port
MayPickFor range c failed Even port = MayPick range (is_taken c) true failed port
MayPickFor range c failed Pair port = MayPickPair range (is_taken c) failed port

-- what may have been picked where a port is needed: none only where there is none, or the generator failed
abbrev pub MayHavePicked : ℕ × ℕ → Bool → Contents → Option Need → Option ℕ → Type 0
MayHavePicked range failed c needed port = (need : Need) → needed ≡ Some need → MayPickFor range c failed need port
