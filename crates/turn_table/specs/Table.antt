-- What the calls of a table do.
use Rattle.std.specs.Prelude.{ℕ, ◌≡◌, ◌⊎◌, ◌<◌, ◌≤◌, ◌-◌, Option, Some, None, List, length, find, if◌then◌else◌, ◌==◌, option_map, slice_get, IfSome, IsSomeAnd, bytes_eq}
use Rattle.std.specs.declared.cmp.Ordering.TheVariants.{Less}
use Rattle.std.specs.FinMap as fin
use Rattle.turn_history.specs.Prelude.{IsUnreserved, PortIsFree, PlainAct, Allocates, Renews, Permits, Binds, History, addresses_of, numbers_of, reserved_by, PortsApart, ReservedApart, Entry, Contents, table, purged, with_reservation, Endpoint, FiveTuple}
use Rattle.turn_history.specs.declared.reservation.Reservation.{Reservation}
use Rattle.turn_types.specs.Prelude.{tuple_cmp}
use Rattle.turn_table.specs.State.{Room, State}

-- a table agrees with a history: it holds the table of the history at its moment
abbrev pub Agrees : State → History → Type 0
Agrees s h = s.contents ≡ table h s.moment

-- without what has expired at t, it holds the table of the history at t
abbrev pub AgreesOncePurged : ℕ → State → History → Type 0
AgreesOncePurged t s h = purged t s.contents ≡ table h t

-- a port becomes free: if no two five-tuples had one port, and none had a reserved one, no five-tuple has this one now, and
-- it isn't reserved
abbrev pub BecomesFree : Contents → Contents → ℕ → Type 0
BecomesFree old new port = PortsApart old → ReservedApart old → PortIsFree new port × IsUnreserved new port

-- an entry has a channel of a number and a peer
abbrev pub IsChannelTo : Entry → ℕ → Endpoint → Type 0
IsChannelTo e n p = IsSomeAnd (fin.get e.channels n) (λ c. c.peer ≡ p)

-- a five-tuple is above all that have an entry
abbrev pub IsAbove : Contents → FiveTuple → Type 0
IsAbove c f = (g : FiveTuple) (e : Entry) → fin.get c.entries g ≡ Some e → tuple_cmp g f ≡ Less

-- a five-tuple is above the last that has an entry, if there is one
abbrev pub IsAboveLast : Contents → FiveTuple → Type 0
IsAboveLast c f = IfSome (slice_get (fin.entries c.entries) (length (fin.entries c.entries) - 1)) (λ p. tuple_cmp p.0 f ≡ Less)

-- the table with this entry of a five-tuple, and no room for an act
abbrev pub with_entry : State → FiveTuple → Entry → State
with_entry s f e = record s { contents = record s.contents { entries = fin.insert s.contents.entries f e }; room = None }

-- the table without an entry of a five-tuple, and no room for an act
abbrev pub without_entry : State → FiveTuple → State
without_entry s f = record s { contents = record s.contents { entries = fin.remove s.contents.entries f }; room = None }

-- the table with another reserved port, and no room for an act
abbrev pub with_reserved : State → ℕ → Reservation → State
with_reserved s q r = record s { contents = record s.contents { reserved = fin.insert s.contents.reserved q r }; room = None }

-- the table with the entry of a new allocation, which ends the reservation of its port and makes one of the next if it has a token
abbrev pub with_allocation : State → FiveTuple → Entry → State
with_allocation s f e =
    record s {
      contents = record { entries = fin.insert s.contents.entries f e; reserved = with_reservation s.moment e.port e.token (fin.remove s.contents.reserved e.port) };
      room = None;
    }

-- the room that an act of a five-tuple needs
abbrev pub room_for : FiveTuple → PlainAct → Room
room_for f d = record { tuple = f; permissions = length (addresses_of d); channels = length (numbers_of d); ports = length (reserved_by d) }

-- the port that an act releases, of the entry that is there
abbrev pub freed_by : PlainAct → Option Entry → Option ℕ
freed_by (Allocates user port granted tx token) o = None
freed_by (Renews granted) o = if granted == 0 then option_map (λ e. e.port) o else None
freed_by (Permits addresses) o = None
freed_by (Binds number peer) o = None

-- one entry that has expired is gone, and this was its port
pub record RemovesEntry (t : ℕ) (old new : Contents) (port : ℕ) : Type 0 where
  pub tuple : FiveTuple
  pub entry : Entry
  pub was : fin.get old.entries tuple ≡ Some entry
  pub past : entry.expiry ≤ t
  pub port_is : entry.port ≡ port
  pub gone : new ≡ record old { entries = fin.remove old.entries tuple }

-- the reservation of a port has expired and is gone
pub record RemovesReservation (t : ℕ) (old new : Contents) (port : ℕ) : Type 0 where
  pub reservation : Reservation
  pub was : fin.get old.reserved port ≡ Some reservation
  pub past : reservation.expiry ≤ t
  pub gone : new ≡ record old { reserved = fin.remove old.reserved port }

-- an entry, or the reservation of a port, has expired and is gone
abbrev pub RemovesExpired : ℕ → Contents → Contents → ℕ → Type 0
RemovesExpired t old new port = RemovesEntry t old new port ⊎ RemovesReservation t old new port

-- the lowest reserved port with a token
abbrev pub port_of_token : Contents → List ℕ → Option ℕ
port_of_token c token = option_map (λ p. p.0) (find (λ p. bytes_eq p.1.token.0 token) (fin.entries c.reserved))

-- a port is above all that are reserved
abbrev pub IsAboveReserved : Contents → ℕ → Type 0
IsAboveReserved c port = (q : ℕ) (r : Reservation) → fin.get c.reserved q ≡ Some r → q < port

-- a port is above the last that is reserved, if there is one
abbrev pub IsAboveLastReserved : Contents → ℕ → Type 0
IsAboveLastReserved c port = IfSome (slice_get (fin.entries c.reserved) (length (fin.entries c.reserved) - 1)) (λ p. p.0 < port)
