use Rattle.std.proofs.Common.{◌≡◌, ◌<◌, ◌≤◌, ◌⊎◌, ℕ, true}
use Rattle.std.specs.BTreeMap.{IsUnchanged}
use Rattle.turn_sockets.specs.Ports.{IsLeftOut, IsWanted, Keeps, WasRefused}
use Rattle.turn_sockets.proofs.binder.Binder.search.Given as goal

-- nothing has changed, nothing that is wanted was passed over unless it was noted, and what was passed over was left out
abbrev pub invariant-loop-port : goal.invariant-loop-port
invariant-loop-port g l =
    IsUnchanged l.initial.sockets l.sockets
    × Keeps l.initial.asked.latest l.asked.latest
    × (l.asked.earlier ≡ l.initial.asked.earlier)
    × ((l.has_failed ≡ true)
    ⊎ ((other : ℕ) → IsWanted (l.from, l.to) (g.S.PortSet.has l.taken) l.wanted other → l.port ≤ other))
    × ((other : ℕ) → other < l.port → IsWanted (l.from, l.to) (g.S.PortSet.has l.taken) l.wanted other → IsLeftOut (WasRefused l.asked.latest) l.initial.sockets l.wanted other)
