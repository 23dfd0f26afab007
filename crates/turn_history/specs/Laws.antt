-- Words of the laws on tables. What "the last" means is said here by places in the history.
use Rattle.std.specs.Prelude.{◌≡◌, ℕ, ◌+◌, ◌≤◌, ◌<◌, Option, Some, None, List, ◌∷◌, [], ◌++◌, IsSome, IsSomeAnd, nat_eq, true}
use Rattle.std.specs.List.{list_any, filter, AllByRecursion}
use Rattle.std.specs.FinMap as fin
use Rattle.turn_types.specs.Prelude.{same_tuple, permission_lifetime, channel_lifetime, reservation_lifetime, end_of_moments}
use Rattle.turn_history.specs.Fitting.{PortIsFree, IsTuple, IsEntryInRange, AreEntriesInRange, AreReservationsInRange}
use Rattle.turn_history.specs.declared.reservation.Reservation.{Reservation}
use Rattle.turn_types.specs.declared.message.Token.{Token}
use Rattle.turn_history.specs.History.{PlainAct, Allocates, Renews, Permits, Binds, Event, History, Allocation, allocation_at, addresses_of, made, span, IsLive}
use Rattle.turn_types.specs.declared.limits.Bounds.{Bounds}
use Rattle.turn_history.specs.Table.{Entry, Contents}
use Rattle.turn_types.specs.declared.address.Endpoint.{Endpoint}
use Rattle.turn_types.specs.declared.address.FiveTuple.{FiveTuple}
use Rattle.turn_history.specs.declared.channel.Channel.{Channel}

-- no event is older than a moment
abbrev pub AllFrom : ℕ → List Event → Type 0
AllFrom s es = AllByRecursion (λ e. s ≤ e.moment) es

-- no event is older than one before it
abbrev pub NeverFall : List Event → Type 0
NeverFall [] = Unit {0}
NeverFall (e ∷ es) = AllFrom e.moment es × NeverFall es

-- the events of f, the oldest first
abbrev pub events_of : FiveTuple → History → History
events_of f h = filter (λ e. same_tuple f e.tuple) h

-- x is the answer of the last event of f that has one
pub record IsLast {X : Type 0} (g : Event → Option X) (h : History) (f : FiveTuple) (x : X) : Type 0 where
  pub before : History
  pub event : Event
  pub after : History
  pub place : h ≡ before ++ event ∷ after
  pub tuple : event.tuple ≡ f
  pub answer : g event ≡ Some x
  -- no later event of f has an answer
  pub last : AllByRecursion (λ e. e.tuple ≡ f → g e ≡ None) after

-- what the Allocate of an entry gave
abbrev pub allocation_of : Entry → Allocation
allocation_of e = record { user = e.user; port = e.port; granted = e.granted; tx = e.tx; token = e.token }

-- an event of f is after the last Alloc of f
pub record IsAfterAlloc (h : History) (f : FiveTuple) (e : Event) : Type 0 where
  pub before : History
  pub alloc : Event
  pub between : History
  pub after : History
  pub place : h ≡ before ++ alloc ∷ (between ++ e ∷ after)
  pub alloc_tuple : alloc.tuple ≡ f
  pub is_alloc : IsSome (allocation_at alloc)
  -- no later event of f is an Alloc
  pub last : AllByRecursion (λ x. x.tuple ≡ f → allocation_at x ≡ None) (between ++ e ∷ after)
  pub tuple : e.tuple ≡ f

-- some event of f after its last Alloc is of a kind, has the moment m, and is less than so many seconds old at t
pub record HoldsFrom (kind : Event → Type 0) (seconds : ℕ) (h : History) (t : ℕ) (f : FiveTuple) (m : ℕ) : Type 0 where
  pub event : Event
  pub is_after_alloc : IsAfterAlloc h f event
  pub is_kind : kind event
  pub moment : event.moment ≡ m
  pub ahead : t < m + seconds

-- a Permit that names the address, or a Bind whose peer has it
abbrev pub Installs : ℕ → Event → Type 0
Installs a e = list_any (nat_eq a) (addresses_of e.act) ≡ true

-- a Bind of number n to the peer p
abbrev pub IsBindOf : ℕ → Endpoint → Event → Type 0
IsBindOf n p e = e.act ≡ Binds n p

-- the permission of an address was installed at the moment m, and holds still
abbrev pub InstalledAt : History → ℕ → FiveTuple → ℕ → ℕ → Type 0
InstalledAt h t f a m = HoldsFrom (Installs a) permission_lifetime h t f m

-- number n was bound to the peer p at the moment m, and is still
abbrev pub BoundAt : History → ℕ → FiveTuple → ℕ → Endpoint → ℕ → Type 0
BoundAt h t f n p m = HoldsFrom (IsBindOf n p) channel_lifetime h t f m

-- f is live at t, and a permission of the address was installed after its last Alloc and holds still (RFC 8656, section 9)
abbrev pub IsPermitted : History → ℕ → FiveTuple → ℕ → Type 0
IsPermitted h t f a = IsLive h t f × ((m : ℕ) × InstalledAt h t f a m)

-- f is live at t, and number n was bound to the peer p after its last Alloc and is still (RFC 8656, section 12)
abbrev pub IsBound : History → ℕ → FiveTuple → ℕ → Endpoint → Type 0
IsBound h t f n p = IsLive h t f × ((m : ℕ) × BoundAt h t f n p m)

-- the fields of an entry are those of the last Alloc of f, and its expiry that of the last Alloc or Renew
pub record IsEntryOf (h : History) (f : FiveTuple) (e : Entry) : Type 0 where
  pub made : made h f ≡ Some (allocation_of e)
  pub span : span h f ≡ Some e.expiry

-- m is the latest moment of which P holds
abbrev pub IsLatest : (ℕ → Type 0) → ℕ → Type 0
IsLatest P m = P m × ((k : ℕ) → P k → k ≤ m)

-- x is so many seconds after the latest moment of which P holds
abbrev pub IsAfterLatest : ℕ → (ℕ → Type 0) → ℕ → Type 0
IsAfterLatest seconds P x = (m : ℕ) × (x ≡ m + seconds) × IsLatest P m

-- the table has a permission of the address
abbrev pub HasPermission : Contents → FiveTuple → ℕ → Type 0
HasPermission c f a = IsSomeAnd (fin.get c.entries f) (λ e. IsSome (fin.get e.permissions a))

-- the table has a permission of the address, which expires at the moment x
abbrev pub PermissionEnds : Contents → FiveTuple → ℕ → ℕ → Type 0
PermissionEnds c f a x = IsSomeAnd (fin.get c.entries f) (λ e. fin.get e.permissions a ≡ Some x)

-- the table has a channel of number n and peer p
abbrev pub HasChannel : Contents → FiveTuple → ℕ → Endpoint → Type 0
HasChannel c f n p = IsSomeAnd (fin.get c.entries f) (λ e. IsSomeAnd (fin.get e.channels n) (λ d. d.peer ≡ p))

-- the table has a channel of number n and peer p, which expires at the moment x
abbrev pub ChannelEnds : Contents → FiveTuple → ℕ → Endpoint → ℕ → Type 0
ChannelEnds c f n p x = IsSomeAnd (fin.get c.entries f) (λ e. fin.get e.channels n ≡ Some (record { peer = p; expiry = x }))

-- no two five-tuples of a table have one port
abbrev pub PortsApart : Contents → Type 0
PortsApart c = (f g : FiveTuple) (x y : Entry) → fin.get c.entries f ≡ Some x → fin.get c.entries g ≡ Some y → x.port ≡ y.port → f ≡ g

-- no entry of a table has a reserved port
abbrev pub ReservedApart : Contents → Type 0
ReservedApart c = (q : ℕ) (r : Reservation) → fin.get c.reserved q ≡ Some r → PortIsFree c q

-- in no entry of a table two channels have one peer
abbrev pub PeersApart : Contents → Type 0
PeersApart c =
    (f : FiveTuple) (e : Entry) → fin.get c.entries f ≡ Some e →
    (n k : ℕ) (x y : Channel) → fin.get e.channels n ≡ Some x → fin.get e.channels k ≡ Some y → x.peer ≡ y.peer → n ≡ k

-- a table has no more entries and reserved ports, and in each entry no more permissions and channels, than the limits allow
pub record IsWithin (b : Bounds) (c : Contents) : Type 0 where
  pub allocations : fin.len c.entries ≤ b.allocations
  pub reserved : fin.len c.reserved ≤ b.allocations
  pub permissions : (f : FiveTuple) (e : Entry) → fin.get c.entries f ≡ Some e → fin.len e.permissions ≤ b.permissions
  pub channels : (f : FiveTuple) (e : Entry) → fin.get c.entries f ≡ Some e → fin.len e.channels ≤ b.channels

-- what a table holds at a moment, whatever came before: all of it is ahead of the moment, in its ranges and within the
-- limits, no two five-tuples have one port, none has a reserved one, and in no entry two channels have one peer
pub record IsTableAt (b : Bounds) (t : ℕ) (c : Contents) : Type 0 where
  pub moment : t < end_of_moments
  pub values : AreEntriesInRange b t c
  pub reserved : AreReservationsInRange t c
  pub reserved_apart : ReservedApart c
  pub within : IsWithin b c
  pub ports : PortsApart c
  pub peers : PeersApart c

-- an entry of a five-tuple that a table may hold at a moment, as far as the entry alone can tell
pub record IsEntryAt (b : Bounds) (t : ℕ) (f : FiveTuple) (e : Entry) : Type 0 where
  pub tuple : IsTuple f
  pub values : IsEntryInRange b t e
  pub permissions : fin.len e.permissions ≤ b.permissions
  pub channels : fin.len e.channels ≤ b.channels
  pub peers : (n k : ℕ) (x y : Channel) → fin.get e.channels n ≡ Some x → fin.get e.channels k ≡ Some y → x.peer ≡ y.peer → n ≡ k

-- an Alloc of the port
abbrev pub IsAllocOf : ℕ → PlainAct → Type 0
IsAllocOf q (Allocates user port granted tx token) = port ≡ q
IsAllocOf q (Renews granted) = ⊥
IsAllocOf q (Permits addresses) = ⊥
IsAllocOf q (Binds number peer) = ⊥

-- an Alloc of the port before q that reserves q with this token
abbrev pub Reserves : ℕ → Token → PlainAct → Type 0
Reserves q token (Allocates user port granted tx its) = (port + 1 ≡ q) × (its ≡ Some token)
Reserves q token (Renews granted) = ⊥
Reserves q token (Permits addresses) = ⊥
Reserves q token (Binds number peer) = ⊥

-- some event at the moment m reserves the port with this token, no Alloc of the port is after it, and it is less than 30 seconds old at t
pub record ReservedAt (h : History) (t q : ℕ) (token : Token) (m : ℕ) : Type 0 where
  pub before : History
  pub event : Event
  pub after : History
  pub place : h ≡ before ++ event ∷ after
  pub reserves : Reserves q token event.act
  pub moment : event.moment ≡ m
  -- no later event is an Alloc of the port
  pub untaken : AllByRecursion (λ e. IsAllocOf q e.act → ⊥) after
  pub ahead : t < m + reservation_lifetime

-- an act that reserves no port
abbrev pub ReservesNone : PlainAct → Type 0
ReservesNone (Allocates user port granted tx token) = token ≡ None
ReservesNone (Renews granted) = Unit {0}
ReservesNone (Permits addresses) = Unit {0}
ReservesNone (Binds number peer) = Unit {0}

-- no port of a table is reserved, and no entry has a token
pub record HasNoTokens (c : Contents) : Type 0 where
  pub reserved : (q : ℕ) → fin.get c.reserved q ≡ None
  pub entries : (f : FiveTuple) (e : Entry) → fin.get c.entries f ≡ Some e → e.token ≡ None
