-- Datagrams of clients that wait for a commit.
use Rattle.std.specs.Prelude.{◌≡◌, ℕ, ◌+◌, ◌-◌, ◌<◌, ◌≤◌, ◌⊎◌, ◌&&◌, ◌==◌, not, Bool, false, true, nat_eq, nat_le, if◌then◌else◌, List, [], ◌∷◌, count_by, filter, length, map, slice_get, sum_by}
use Rattle.std.specs.Option.{option_map_or}
use Rattle.std.specs.List.{list_any}
use Rattle.turn_types.specs.declared.address.Endpoint.{Endpoint}
use Rattle.turn_types.specs.declared.address.FiveTuple.{FiveTuple}
use Rattle.turn_sockets.specs.declared.backlog.Room.{Room}

-- whether two endpoints are the same
abbrev pub is_same : Endpoint → Endpoint → Bool
is_same a b = nat_eq a.ip b.ip && nat_eq a.port b.port

-- What waits of the datagrams that were sent to one address of the server: who sent each, and its bytes, in the order of receiving.
pub record QueueState : Type 0 where
  pub server : Endpoint
  pub datagrams : List (Endpoint × List ℕ)

-- Queues, and the place of the one whose turn it is; each has this room.
pub record BacklogState : Type 0 where
  pub queues : List QueueState
  pub turn : ℕ
  pub room : Room

-- how many bytes datagrams have in all
abbrev pub size_of : List (Endpoint × List ℕ) → ℕ
size_of datagrams = sum_by (λ d. length d.1) datagrams

-- how many datagrams are a client's
abbrev pub count_of : Endpoint → List (Endpoint × List ℕ) → ℕ
count_of client datagrams = count_by (λ d. is_same d.0 client) datagrams

-- there is room for another datagram of a client with so many bytes
pub record HasRoom (room : Room) (datagrams : List (Endpoint × List ℕ)) (client : Endpoint) (size : ℕ) : Type 0 where
  pub places : length datagrams < room.datagrams
  pub of_one : count_of client datagrams < room.of_one
  pub bytes : size_of datagrams + size ≤ room.bytes

-- what waits of the datagrams that were sent to an address
abbrev pub datagrams_at : List QueueState → Endpoint → List (Endpoint × List ℕ)
datagrams_at [] server = []
datagrams_at (q ∷ qs) server = if is_same q.server server then q.datagrams else datagrams_at qs server

-- there is a queue for an address
abbrev pub has_queue : List QueueState → Endpoint → Bool
has_queue queues server = list_any (λ q. is_same q.server server) queues

-- the addresses of the queues, in order
abbrev pub addresses_of : List QueueState → List Endpoint
addresses_of queues = map (λ q. q.server) queues

-- the bytes of a client's datagrams, in order
abbrev pub bytes_of : Endpoint → List (Endpoint × List ℕ) → List (List ℕ)
bytes_of client datagrams = map (λ d. d.1) (filter (λ d. is_same d.0 client) datagrams)

-- what waits of a five-tuple, in the order of receiving
abbrev pub waiting_of : BacklogState → FiveTuple → List (List ℕ)
waiting_of b f = bytes_of f.client (datagrams_at b.queues f.server)

-- whether two five-tuples are the same
abbrev pub is_same_tuple : FiveTuple → FiveTuple → Bool
is_same_tuple f g = is_same f.client g.client && is_same f.server g.server

-- the datagram of one five-tuple, of another one none
abbrev pub if_same : FiveTuple → FiveTuple → List ℕ → List (List ℕ)
if_same f g bytes = if is_same_tuple f g then bytes ∷ [] else []

-- no two queues are for one address
abbrev pub AreApart : List QueueState → Type 0
AreApart [] = Unit {0}
AreApart (q ∷ qs) = (has_queue qs q.server ≡ false) × AreApart qs

-- whether the queue at a place has datagrams
abbrev pub has_some : List QueueState → ℕ → Bool
has_some queues place = option_map_or (λ q. not (length q.datagrams == 0)) (slice_get queues place) false

-- The queue at a place is the first that has datagrams, from the one whose turn it is on; after the last comes the first.
pub record IsNext (queues : List QueueState) (turn place : ℕ) : Type 0 where
  pub within : place < length queues
  pub some : has_some queues place ≡ true
  pub first : turn ≤ place → (k : ℕ) → turn ≤ k → k < place → has_some queues k ≡ false
  pub around : place < turn → (k : ℕ) → (turn ≤ k × (k < length queues)) ⊎ (k < place) → has_some queues k ≡ false

-- how many queues come before the one at a place, if this one is the next; after the last comes the first
abbrev pub steps_to : ℕ → ℕ → ℕ → ℕ
steps_to count turn place = if nat_le turn place then place - turn else (count + place) - turn

-- Each queue that has datagrams was the one whose datagram was taken, or fewer queues come before it afterwards.
abbrev pub TakesTurns : BacklogState → BacklogState → Type 0
TakesTurns old new = (place : ℕ) → place < length old.queues → has_some old.queues place ≡ true
    → (new.turn ≡ place + 1) ⊎ (steps_to (length old.queues) new.turn place < steps_to (length old.queues) old.turn place)
