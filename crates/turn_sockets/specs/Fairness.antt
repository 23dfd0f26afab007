-- How long a socket waits for its turn.
use Rattle.std.specs.Prelude.{◌≡◌, ℕ, ◌+◌, ◌*◌, ◌<◌, ◌≤◌, ◌⊎◌, Bool, false, true, if◌then◌else◌, Some, None, List, [], ◌∷◌, ◌++◌, Contains, length, map, slice_get, sum_by, take}
use Rattle.turn_sockets.specs.Schedule.{Agenda, begun, begun_for_each, next_of, with_all_ready, with_more}

-- How a visit ends: a read finds that no datagram waits, a read fails, or as many datagrams were read as a visit may read.
pub data Ending : Type 0 where
  Empty Failed Full : Ending

-- A visit of a socket: how many datagrams were read of it, and how it ended.
pub record Visit : Type 0 where
  pub token : ℕ
  pub reads : ℕ
  pub ended : Ending

-- whether a socket may have more after a visit
abbrev pub may_have_more : Ending → Bool
may_have_more Empty = false
may_have_more Failed = true
may_have_more Full = true

-- the same of a visit
abbrev pub more : Visit → Bool
more v = may_have_more v.ended

-- A visit may read so many datagrams.
pub record IsVisit (most : ℕ) (v : Visit) : Type 0 where
  pub reads : v.reads ≤ most
  pub full : v.ended ≡ Full → v.reads ≡ most

-- what is listed after a visit
abbrev pub after_visit : Agenda → Visit → Agenda
after_visit a v = if more v then with_more a v.token else a

-- Visits in a row, each of the socket that was next, of which at most so many datagrams were read. They led from one agenda to another.
abbrev pub AreVisits : ℕ → Agenda → List Visit → Agenda → Type 0
AreVisits most a [] end = a ≡ end
AreVisits most a (v ∷ vs) end = (rest : Agenda) × (next_of a ≡ Some (v.token, rest)) × IsVisit most v × AreVisits most (after_visit rest v) vs end

-- Visits led from one agenda to the end of a round.
pub record IsRound (most : ℕ) (old new : Agenda) : Type 0 where
  pub visits : List Visit
  pub are : AreVisits most old visits new
  pub is_over : next_of new ≡ None

-- A round: the sockets that became ready before it, and its visits.
pub record Round : Type 0 where
  pub ready : List ℕ
  pub visits : List Visit

-- Rounds in a row led from one agenda to another.
abbrev pub AreRounds : ℕ → Agenda → List Round → Agenda → Type 0
AreRounds most a [] end = a ≡ end
AreRounds most a (r ∷ rs) end =
    (middle : Agenda) × AreVisits most (begun (with_all_ready a r.ready)) r.visits middle × (next_of middle ≡ None) × AreRounds most middle rs end

-- a socket is visited
abbrev pub IsVisited : ℕ → List Visit → Type 0
IsVisited token visits = Contains (map (λ v. v.token) visits) token

-- A socket is visited, and at most so many datagrams of others are read before it.
pub record ComesWithin (token most : ℕ) (visits : List Visit) : Type 0 where
  -- how many visits come before it
  pub place : ℕ
  pub there : slice_get (map (λ v. v.token) visits) place ≡ Some token
  pub reads : sum_by (λ v. v.reads) (take place visits) ≤ most

-- Each socket that is fresh when a round begins is visited in it, and before it no more datagrams of others are read than six visits have,
-- and one more visit for each fresh socket before it.
abbrev pub FreshComeFirst : Type 0
FreshComeFirst = (most : ℕ) (a end : Agenda) (visits : List Visit) (place token : ℕ) → AreVisits most (begun a) visits end → next_of end ≡ None
    → slice_get a.fresh place ≡ Some token → ComesWithin token (most * (6 + place)) visits

-- A listening socket that has more, and a relay socket that has more, is visited in one of as many rounds as there are sockets of its kind
-- up to it, whatever the others do.
abbrev pub NoneStarves : Type 0
NoneStarves = (most : ℕ) (a end : Agenda) (rounds : List Round) (place token : ℕ) → AreRounds most a rounds end → place < length rounds
    → (slice_get a.clients place ≡ Some token) ⊎ (slice_get a.peers place ≡ Some token)
    → (r : Round) × Contains rounds r × IsVisited token r.visits

-- A round that is begun for each socket visits those that are listed, in their order, each as often as it is listed, whatever has more.
abbrev pub EachIsVisited : Type 0
EachIsVisited = (most : ℕ) (a end : Agenda) (visits : List Visit) → AreVisits most (begun_for_each a) visits end → next_of end ≡ None
    → map (λ v. v.token) visits ≡ (a.clients ++ a.fresh) ++ a.peers
