-- Relay ports with a socket each. A range is its first and its last port.
use Rattle.std.specs.Prelude.{ℕ, ◌≡◌, ◌+◌, ◌-◌, ◌%◌, ◌<◌, ◌≤◌, ◌⊎◌, ⊤, Bool, false, Contains, IsSome, is_some, List, Option, Some, None}
use Rattle.std.specs.Ordering.{nat_cmp}
use Rattle.std.specs.BTreeMap.{BTreeMap, get, insert_entry, IsUnchanged}
use Rattle.rand_chacha.specs.ChaCha.{ChaCha, next_word, of_seed}
use Rattle.turn_ports.specs.Ports.{IsFree, IsFreePair}
use Rattle.turn_types.specs.declared.address.Endpoint.{Endpoint}
use Rattle.turn_sockets.specs.declared.ports.Bound.{Bound}
use Rattle.turn_sockets.specs.declared.ports.Bound.TheVariants as bound
use Rattle.turn_sockets.specs.declared.ports.Bound.TheVariants.{Done, Unavailable}
use Rattle.turn_sockets.specs.declared.ports.Search.{Search}
use Rattle.turn_sockets.specs.declared.ports.Search.TheVariants.{Found, Nothing, Failed, Exhausted}
use Rattle.turn_sockets.specs.declared.ports.Wanted.{Wanted}
use Rattle.turn_sockets.specs.declared.ports.Wanted.TheVariants.{Port, Pair}

-- each port's socket is bound at it, on one IP address
abbrev pub AreAtPorts : ℕ → BTreeMap ℕ Endpoint → Type 0
AreAtPorts ip sockets = (port : ℕ) (s : Endpoint) → get nat_cmp sockets port ≡ Some s → s ≡ record { ip = ip; port = port }

-- a port has a socket, which is bound at it, on an IP address
abbrev pub HasItsSocket : ℕ → BTreeMap ℕ Endpoint → ℕ → Type 0
HasItsSocket ip sockets port = (s : Endpoint) × (get nat_cmp sockets port ≡ Some s) × (s ≡ record { ip = ip; port = port })

-- a port of which there was no socket has one, on an IP address, and each other port is as before
abbrev pub IsBound : ℕ → BTreeMap ℕ Endpoint → BTreeMap ℕ Endpoint → ℕ → Type 0
IsBound ip old new port = (get nat_cmp old port ≡ None) × HasItsSocket ip new port
    × ((other : ℕ) → ¬ (other ≡ port) → get nat_cmp new other ≡ get nat_cmp old other)

-- the entries are as before, with one of a port in its place
abbrev pub Inserts : {X : Type 0} → BTreeMap ℕ X → BTreeMap ℕ X → ℕ → Type 0
Inserts {X} old new port = (socket : X) × (new.entries ≡ insert_entry nat_cmp old.entries port socket)

-- of a port and the next one there was no socket, both have one, on an IP address, and each other port is as before
abbrev pub AreBound : ℕ → BTreeMap ℕ Endpoint → BTreeMap ℕ Endpoint → ℕ → Type 0
AreBound ip old new port = (get nat_cmp old port ≡ None) × (get nat_cmp old (port + 1) ≡ None)
    × HasItsSocket ip new port × HasItsSocket ip new (port + 1)
    × ((other : ℕ) → ¬ (other ≡ port) → ¬ (other ≡ port + 1) → get nat_cmp new other ≡ get nat_cmp old other)

-- what was found is bound on an IP address, a port or a port and the next one; where nothing was, the sockets are as before
abbrev pub Binds : ℕ → Wanted → BTreeMap ℕ Endpoint → BTreeMap ℕ Endpoint → Option ℕ → Type 0
Binds ip wanted old new None = IsUnchanged old new
Binds ip (Port even) old new (Some port) = IsBound ip old new port
Binds ip Pair old new (Some port) = AreBound ip old new port

-- these ports have a socket, and no other
abbrev pub HaveSockets : {X : Type 0} → BTreeMap ℕ X → (ℕ → Bool) → Type 0
HaveSockets sockets held = (port : ℕ) → is_some (get nat_cmp sockets port) ≡ held port

-- what is wanted begins at a port: a free port, or a free pair
abbrev pub IsWanted : ℕ × ℕ → (ℕ → Bool) → Wanted → ℕ → Type 0
IsWanted range taken (Port even) port = IsFree range taken even port
IsWanted range taken Pair port = IsFreePair range taken port

-- nothing that is wanted is free
abbrev pub NoneIsWanted : ℕ × ℕ → (ℕ → Bool) → Wanted → Type 0
NoneIsWanted range taken wanted = (port : ℕ) → ¬ IsWanted range taken wanted port

-- what came of a port: bound since it is free, none since it isn't, or refused
abbrev pub Tries : ℕ × ℕ → (ℕ → Bool) → Wanted → ℕ → Option Bound → Type 0
Tries range taken wanted port None = ¬ IsWanted range taken wanted port
Tries range taken wanted port (Some Done) = IsWanted range taken wanted port
Tries range taken wanted port (Some Unavailable) = ⊤
Tries range taken wanted port (Some bound.Exhausted) = ⊤

-- the ports that were asked for, in order, each with what came of it
abbrev pub Asked : Type 0
Asked = List (ℕ × Bound)

-- a port was asked for, and can't be bound now
abbrev pub WasRefused : Asked → ℕ → Type 0
WasRefused asked port = Contains asked (port, Unavailable)

-- a port was asked for, and the system has no socket for any
abbrev pub IsExhausted : Asked → Type 0
IsExhausted asked = (port : ℕ) × Contains asked (port, bound.Exhausted)

-- what was noted stays noted
abbrev pub Keeps : Asked → Asked → Type 0
Keeps old new = (one : ℕ × Bound) → Contains old one → Contains new one

-- why what is wanted at a port was left out: the port, or of a pair one of the two, has a socket or was refused
abbrev pub IsLeftOut : {X : Type 0} → (ℕ → Type 0) → BTreeMap ℕ X → Wanted → ℕ → Type 0
IsLeftOut refuses sockets (Port even) port = IsSome (get nat_cmp sockets port) ⊎ refuses port
IsLeftOut refuses sockets Pair port =
    (IsSome (get nat_cmp sockets port) ⊎ refuses port) ⊎ (IsSome (get nat_cmp sockets (port + 1)) ⊎ refuses (port + 1))

-- why nothing was bound at a port where something is wanted
abbrev pub LeavesOut : {X : Type 0} → (ℕ → Type 0) → Type 0 → BTreeMap ℕ X → Wanted → ℕ → Option Bound → Type 0
LeavesOut refuses exhausted sockets wanted port None = ⊤
LeavesOut refuses exhausted sockets wanted port (Some Done) = ⊤
LeavesOut refuses exhausted sockets wanted port (Some Unavailable) = IsLeftOut refuses sockets wanted port
LeavesOut refuses exhausted sockets wanted port (Some bound.Exhausted) = exhausted

-- a port, if it was bound
abbrev pub bound_port : ℕ → Option Bound → Option ℕ
bound_port port None = None
bound_port port (Some Done) = Some port
bound_port port (Some Unavailable) = None
bound_port port (Some bound.Exhausted) = None

-- what a search of a range came to: what is wanted, none where none is free, or a failure
abbrev pub Searches : ℕ × ℕ → (ℕ → Bool) → Wanted → Search → Type 0
Searches range taken wanted (Found port) = IsWanted range taken wanted port
Searches range taken wanted Nothing = NoneIsWanted range taken wanted
Searches range taken wanted Failed = ⊤
Searches range taken wanted Exhausted = ⊤

-- wherever what is wanted is free in a range it was left out
abbrev pub AreLeftOut : {X : Type 0} → (ℕ → Type 0) → BTreeMap ℕ X → ℕ × ℕ → (ℕ → Bool) → Wanted → Type 0
AreLeftOut refuses sockets range taken wanted = (port : ℕ) → IsWanted range taken wanted port → IsLeftOut refuses sockets wanted port

-- what a search of a range passed over: all that is wanted below what it found; a search that failed came to each port
abbrev pub LeavesOutEach : {X : Type 0} → (ℕ → Type 0) → Type 0 → BTreeMap ℕ X → ℕ × ℕ → (ℕ → Bool) → Wanted → Search → Type 0
LeavesOutEach refuses exhausted sockets range taken wanted (Found port) =
    (other : ℕ) → other < port → IsWanted range taken wanted other → IsLeftOut refuses sockets wanted other
LeavesOutEach refuses exhausted sockets range taken wanted Nothing = ⊤
LeavesOutEach refuses exhausted sockets range taken wanted Failed = AreLeftOut refuses sockets range taken wanted
LeavesOutEach refuses exhausted sockets range taken wanted Exhausted = exhausted

-- One port comes before another one in a search that begins at a place: those from it on come first, in order, and then those below it.
abbrev pub ComesBefore : ℕ → ℕ → ℕ → Type 0
ComesBefore from other port = ((from ≤ other) × (port < from)) ⊎ ((other < port) × ((from ≤ other) ⊎ (port < from)))

-- each place where what is wanted is free, and which comes before this port, was left out
abbrev pub IsFirstFrom : {X : Type 0} → (ℕ → Type 0) → BTreeMap ℕ X → ℕ × ℕ → ℕ → (ℕ → Bool) → Wanted → ℕ → Type 0
IsFirstFrom refuses sockets range from taken wanted port =
    (other : ℕ) → ComesBefore from other port → IsWanted range taken wanted other → IsLeftOut refuses sockets wanted other

-- the same of a search of a range that begins at a place
abbrev pub LeavesOutFrom : {X : Type 0} → (ℕ → Type 0) → Type 0 → BTreeMap ℕ X → ℕ × ℕ → ℕ → (ℕ → Bool) → Wanted → Search → Type 0
LeavesOutFrom refuses exhausted sockets range from taken wanted (Found port) = IsFirstFrom refuses sockets range from taken wanted port
LeavesOutFrom refuses exhausted sockets range from taken wanted Nothing = ⊤
LeavesOutFrom refuses exhausted sockets range from taken wanted Failed = AreLeftOut refuses sockets range taken wanted
LeavesOutFrom refuses exhausted sockets range from taken wanted Exhausted = exhausted

-- What is found of a range is the first from a place on, but for what has a socket or was refused, as is noted. None is found only
-- where all was left out for this, or the system has no socket for any port.
abbrev pub IsDrawn : {X : Type 0} → Asked → BTreeMap ℕ X → ℕ × ℕ → ℕ → (ℕ → Bool) → Wanted → Option ℕ → Type 0
IsDrawn asked sockets range from taken wanted (Some port) = IsFirstFrom (WasRefused asked) sockets range from taken wanted port
IsDrawn asked sockets range from taken wanted None = AreLeftOut (WasRefused asked) sockets range taken wanted ⊎ IsExhausted asked

-- the port that a search found, of a pair the first
abbrev pub found_port : Search → Option ℕ
found_port (Found port) = Some port
found_port Nothing = None
found_port Failed = None
found_port Exhausted = None

-- what may be found: what is wanted and free; none only where nothing is or the generator failed
abbrev pub MayFind : ℕ × ℕ → (ℕ → Bool) → Wanted → Bool → Option ℕ → Type 0
MayFind range taken wanted failed (Some port) = IsWanted range taken wanted port
MayFind range taken wanted failed None = failed ≡ false → NoneIsWanted range taken wanted

-- what ports are drawn by from the beginning on, by a seed of 32 bytes
abbrev pub draws_of : List ℕ → ChaCha
draws_of seed = of_seed seed

-- where a search of a range begins: the next word of a generator, modulo how many ports there are
abbrev pub drawn_place : ℕ × ℕ → ChaCha → ℕ
drawn_place range draws = range.0 + (next_word 10 draws).0 % (range.1 - range.0 + 1)
