-- Which socket is read next, by tokens.
use Rattle.std.specs.Prelude.{◌≡◌, ℕ, ◌+◌, ◌-◌, ◌==◌, ◌&&◌, min, Bool, false, not, nat_eq, nat_le, nat_lt, if◌then◌else◌, Option, Some, None, List, [], ◌∷◌, ◌++◌, count_by, fold, length, slice_index_or}
use Rattle.std.specs.List.{list_any}
use Rattle.turn_sockets.specs.declared.schedule.Source.{Source}
use Rattle.turn_sockets.specs.declared.schedule.Source.TheVariants.{Clients, Fresh, Nothing, Peers}

-- The sockets that may have a datagram, each by its token.
pub record Agenda : Type 0 where
  -- those that became ready and weren't visited since
  pub fresh : List ℕ
  -- the listening sockets that were visited and may have more
  pub clients : List ℕ
  -- the relay sockets that were visited and may have more
  pub peers : List ℕ
  -- how many relay sockets were visited since a listening one was, at most 4
  pub since : ℕ
  -- how many visits of `clients` and `peers` there may still be in this round
  pub left : ℕ

-- no socket
abbrev pub nothing_ready : Agenda
nothing_ready = record { fresh = []; clients = []; peers = []; since = 0; left = 0 }

-- a token below 2^16, which is that of a relay socket: its port; a greater one is that of a listening socket
abbrev pub is_relay : ℕ → Bool
is_relay token = nat_lt token 65536

-- a token of a socket: of one of the ports, or of one of 64 listening sockets
abbrev pub is_token : ℕ → Bool
is_token token = nat_lt token 65600

-- whether a socket is listed
abbrev pub is_listed : Agenda → ℕ → Bool
is_listed a token = list_any (nat_eq token) (a.fresh ++ (a.clients ++ a.peers))

-- whether a socket can be listed: there is one of this token, and it isn't listed
abbrev pub can_list : Agenda → ℕ → Bool
can_list a token = is_token token && not (is_listed a token)

-- a socket became ready: it comes after the other fresh ones; one that is listed stays where it is
abbrev pub with_ready : Agenda → ℕ → Agenda
with_ready a token = if can_list a token then record a { fresh = a.fresh ++ token ∷ [] } else a

-- sockets became ready, one after another
abbrev pub with_all_ready : Agenda → List ℕ → Agenda
with_all_ready a tokens = fold with_ready a tokens

-- a round begins: there may be 8 visits of sockets that were visited before
abbrev pub begun : Agenda → Agenda
begun a = record a { left = 8 }

-- a round begins in which each listed socket is visited once, first the listening ones that were visited before
abbrev pub begun_for_each : Agenda → Agenda
begun_for_each a = record { fresh = (a.clients ++ a.fresh) ++ a.peers; clients = []; peers = []; since = a.since; left = 0 }

-- a socket was visited, and may have more: it comes after the others of its kind
abbrev pub with_more : Agenda → ℕ → Agenda
with_more a token =
    if can_list a token then (if is_relay token then record a { peers = a.peers ++ token ∷ [] } else record a { clients = a.clients ++ token ∷ [] }) else a

-- how many of the visits that are left are kept for after the fresh sockets
abbrev pub kept_back : List ℕ → ℕ
kept_back [] = 0
kept_back (x ∷ xs) = 2

-- one of `clients` is visited where four relay sockets were since a listening one was
abbrev pub is_turn_of_clients : Agenda → Bool
is_turn_of_clients a = not (length a.clients == 0) && (nat_le 4 a.since && nat_lt (kept_back a.fresh) a.left)

-- of which sockets the next one is
abbrev pub source_of : Agenda → Source
source_of a =
    if is_turn_of_clients a then Clients
    else (if not (length a.fresh == 0) then Fresh
    else (if a.left == 0 then Nothing
    else (if not (length a.peers == 0) then Peers
    else (if not (length a.clients == 0) then Clients
    else Nothing))))

-- the first of a list, with what is made of it and the rest
abbrev pub first_of : {X : Type 0} → List ℕ → (ℕ → List ℕ → X) → Option (ℕ × X)
first_of [] f = None
first_of (x ∷ xs) f = Some (x, f x xs)

-- the count of relay sockets since a listening one was visited, after a relay socket
abbrev pub counted : ℕ → ℕ
counted since = min (since + 1) 4

-- that count after a visit of any socket
abbrev pub since_after : ℕ → ℕ → ℕ
since_after token since = if is_relay token then counted since else 0

-- the next socket of a source, and what is listed without it
abbrev pub next_from : Source → Agenda → Option (ℕ × Agenda)
next_from Fresh a = first_of a.fresh (λ token rest. record a { fresh = rest; since = since_after token a.since })
next_from Peers a = first_of a.peers (λ token rest. record a { peers = rest; since = counted a.since; left = a.left - 1 })
next_from Clients a = first_of a.clients (λ token rest. record a { clients = rest; since = 0; left = a.left - 1 })
next_from Nothing a = None

-- the socket that is visited next, and what is listed without it; none where the round is over
abbrev pub next_of : Agenda → Option (ℕ × Agenda)
next_of a = next_from (source_of a) a

-- 1 for true, 0 for false
abbrev pub number_of : Bool → ℕ
number_of b = if b then 1 else 0

-- A flag by token says of each socket whether it is listed, and each is listed once at most.
pub record AreFlags (flags : List Bool) (fresh clients peers : List ℕ) : Type 0 where
  pub size : length flags ≡ 65600
  pub each : (token : ℕ) → count_by (nat_eq token) fresh + (count_by (nat_eq token) clients + count_by (nat_eq token) peers)
      ≡ number_of (slice_index_or flags token false)
