-- Which ports are picked, and which an act takes.
use Rattle.std.specs.Prelude.{ℕ, ◌+◌, ◌==◌, ◌&&◌, ◌||◌, Bool, false, Option, Some, None, is_some}
use Rattle.turn_history.specs.Prelude.{PlainAct, Allocates, Renews, Permits, Binds}
use Rattle.turn_rules.specs.declared.need.Need.{Need}
use Rattle.turn_rules.specs.declared.need.Need.TheVariants.{Any, Even, Pair}

-- q is the port that was picked for a need, or the second one of a pair
abbrev pub picks : Need → ℕ → ℕ → Bool
picks Any port q = q == port
picks Even port q = q == port
picks Pair port q = (q == port) || (q == port + 1)

-- q is the port that was picked for what is needed, if something is, or the second one of a pair
abbrev pub picks_if_needed : Option Need → ℕ → ℕ → Bool
picks_if_needed None port q = false
picks_if_needed (Some need) port q = picks need port q

-- q is a port that was picked, if one was, or the second one of a pair
abbrev pub is_picked : Option Need → Option ℕ → ℕ → Bool
is_picked needed None q = false
is_picked needed (Some port) q = picks_if_needed needed port q

-- q is the port of an Alloc, or the next one where the Alloc reserves that
abbrev pub takes : PlainAct → ℕ → Bool
takes (Allocates user port granted tx token) q = (q == port) || (is_some token && (q == port + 1))
takes (Renews granted) q = false
takes (Permits addresses) q = false
takes (Binds number peer) q = false

-- q is a port that an act takes, if there is one
abbrev pub takes_if_any : Option PlainAct → ℕ → Bool
takes_if_any None q = false
takes_if_any (Some act) q = takes act q
