-- The order of the datagrams of each five-tuple, and the rounds in which sockets are read.
use Rattle.std.specs.Prelude.{◌≡◌, ◌≤◌, ◌∷◌, [], ℕ, List, filter, flat_map, length, map}
use Rattle.turn_sockets.specs.Backlog.{is_same_tuple}
use Rattle.turn_sockets.specs.Fairness as fairness
use Rattle.turn_sockets.specs.Fairness.{AreRounds}
use Rattle.turn_sockets.specs.Schedule.{Agenda}
use Rattle.turn_step.specs.Prelude.{Arrives, FromClient, FromPeer}
use Rattle.turn_types.specs.declared.address.FiveTuple.{FiveTuple}
use Rattle.turn_serving.specs.Events.{Advances, Commits, Event, Reads, Submits}
use Rattle.turn_serving.specs.Visits.{Answered, Fate, Kept, Lost, OfItself, Shed, Taken, Visited}

-- a client's datagram, with its five-tuple
abbrev pub datagram_of : Arrives → List (FiveTuple × List ℕ)
datagram_of (FromClient f bytes) = (f, bytes) ∷ []
datagram_of (FromPeer port from bytes id) = []

-- a client's datagram, if it was answered at once
abbrev pub if_answered : Fate → Arrives → List (FiveTuple × List ℕ)
if_answered OfItself a = []
if_answered Kept a = []
if_answered Shed a = []
if_answered (Answered answer out) a = datagram_of a
if_answered Lost a = []

-- a client's datagram, if it was answered at once or waits
abbrev pub if_taken : Fate → Arrives → List (FiveTuple × List ℕ)
if_taken OfItself a = []
if_taken Kept a = datagram_of a
if_taken Shed a = []
if_taken (Answered answer out) a = datagram_of a
if_taken Lost a = []

-- the datagrams of clients that were answered at once in a visit
abbrev pub answered_at : Visited → List (FiveTuple × List ℕ)
answered_at v = flat_map (λ (t : Taken). if_answered t.fate t.arrival) v.taken

-- the datagrams of clients that were received in a visit, and answered at once or kept
abbrev pub taken_at : Visited → List (FiveTuple × List ℕ)
taken_at v = flat_map (λ (t : Taken). if_taken t.fate t.arrival) v.taken

-- the datagrams of clients that were answered at once or submitted in an event
abbrev pub answered_by : {D H G : Type 0} → Event D H G → List (FiveTuple × List ℕ)
answered_by (Reads round) = flat_map answered_at round.visits
answered_by (Advances moment after) = []
answered_by (Submits moment f bytes result after) = (f, bytes) ∷ []
answered_by (Commits result after out) = []

-- the datagrams of clients that were received in an event, and answered at once or kept
abbrev pub taken_by : {D H G : Type 0} → Event D H G → List (FiveTuple × List ℕ)
taken_by (Reads round) = flat_map taken_at round.visits
taken_by (Advances moment after) = []
taken_by (Submits moment f bytes result after) = []
taken_by (Commits result after out) = []

-- the datagrams of clients that were answered at once or submitted, in order
abbrev pub answered_in : {D H G : Type 0} → List (Event D H G) → List (FiveTuple × List ℕ)
answered_in events = flat_map answered_by events

-- the datagrams of clients that were received, and answered at once or kept, in order
abbrev pub taken_in : {D H G : Type 0} → List (Event D H G) → List (FiveTuple × List ℕ)
taken_in events = flat_map taken_by events

-- those of one five-tuple
abbrev pub of_tuple : FiveTuple → List (FiveTuple × List ℕ) → List (List ℕ)
of_tuple f datagrams = map (λ d. d.1) (filter (λ d. is_same_tuple d.0 f) datagrams)

-- Sockets were read in at least so many rounds, at most so many datagrams a visit.
pub record TakesRounds (most count : ℕ) (old new : Agenda) : Type 0 where
  pub rounds : List fairness.Round
  pub are : AreRounds most old rounds new
  pub enough : count ≤ length rounds
