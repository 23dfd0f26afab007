-- Histories of accepted acts, and what is read off one (RFC 8656, sections 6 to 12). Nothing in a history is ever
-- changed or removed: what holds is given by the last event of its kind.
use Rattle.std.specs.Prelude.{ℕ, ◌+◌, ◌<◌, Bool, if◌then◌else◌, nat_lt, nat_eq, ◌==◌, Option, Some, None, List, [], ◌∷◌, reverse, IsSome, IsSomeAnd, is_some}
use Rattle.std.specs.Option.{option_or, option_map}
use Rattle.std.specs.List.{list_any, filter}
use Rattle.turn_types.specs.Prelude.{same_tuple, permission_lifetime, channel_lifetime, reservation_lifetime}
use Rattle.turn_types.specs.declared.address.Endpoint.{Endpoint}
use Rattle.turn_types.specs.declared.address.FiveTuple.{FiveTuple}
use Rattle.turn_history.specs.declared.channel.Channel.{Channel}
use Rattle.turn_types.specs.declared.message.TxId.{TxId}
use Rattle.turn_types.specs.declared.message.Token.{Token}
use Rattle.turn_history.specs.declared.reservation.Reservation.{Reservation}

-- ---- Acts and histories

-- What an accepted request does to the allocation of its five-tuple, with lists where the code has vectors: an
-- Allocate makes it, and with a token reserves the next port too (section 7), a Refresh sets its time to expiry and with 0 deletes it (section 8), a
-- CreatePermission installs permissions (section 10), and a ChannelBind binds a channel and installs the permission
-- of the peer's address (section 12).
pub data PlainAct : Type 0 where
  -- the user's name, the relayed port, the seconds granted, the request's transaction id, and the token of the next port if
  -- that is reserved
  Allocates : (user : List ℕ) (port granted : ℕ) (tx : TxId) (token : Option Token) → PlainAct
  -- seconds from now on; 0 deletes the allocation
  Renews : (granted : ℕ) → PlainAct
  -- IPv4 addresses of peers
  Permits : (addresses : List ℕ) → PlainAct
  -- a channel number and a peer
  Binds : (number : ℕ) (peer : Endpoint) → PlainAct

-- an event of a history: an act on the allocation of a five-tuple, and its moment in seconds
pub record Event : Type 0 where
  -- in seconds
  pub moment : ℕ
  pub tuple : FiveTuple
  pub act : PlainAct

-- the events that a server has accepted, the oldest first; what holds at a moment is read off them
abbrev pub History : Type 0
History = List Event

-- the latest moment of a history, in seconds, or 0
abbrev pub clock : History → ℕ
clock [] = 0
clock (e ∷ es) = if nat_lt e.moment (clock es) then clock es else e.moment

-- ---- The last event of its kind

-- the events of f, the newest first
unfoldable pub own : History → FiveTuple → List Event
own h f = filter (λ e. same_tuple f e.tuple) (reverse h)

-- the first answer of g, from the front
abbrev pub first_some : {A B : Type 0} → (A → Option B) → List A → Option B
first_some g [] = None
first_some g (x ∷ xs) = option_or (g x) (first_some g xs)

-- what comes before the first element that passes
abbrev pub until_first : {A : Type 0} → (A → Bool) → List A → List A
until_first p [] = []
until_first p (x ∷ xs) = if p x then [] else x ∷ until_first p xs

-- ---- Allocations (sections 6 to 8)

-- what an Allocate gave: to whom, the relayed port, the seconds granted, by which request, and the token of the next port if
-- it reserved that
pub record Allocation : Type 0 where
  pub user : List ℕ
  pub port : ℕ
  -- in seconds
  pub granted : ℕ
  pub tx : TxId
  pub token : Option Token

-- what an act makes, if it is an Alloc
abbrev pub allocation_by : PlainAct → Option Allocation
allocation_by (Allocates user port granted tx token) = Some (record { user = user; port = port; granted = granted; tx = tx; token = token })
allocation_by (Renews granted) = None
allocation_by (Permits addresses) = None
allocation_by (Binds number peer) = None

-- for how many seconds an act lets the allocation last from its moment on, if it is an Alloc or a Renew
abbrev pub granted_by : PlainAct → Option ℕ
granted_by (Allocates user port granted tx token) = Some granted
granted_by (Renews granted) = Some granted
granted_by (Permits addresses) = None
granted_by (Binds number peer) = None

-- what an event makes, if it is an Alloc
abbrev pub allocation_at : Event → Option Allocation
allocation_at e = allocation_by e.act

-- the moment when an event lets the allocation expire, if it is an Alloc or a Renew
abbrev pub span_at : Event → Option ℕ
span_at e = option_map (λ g. e.moment + g) (granted_by e.act)

-- what the last Alloc of f gave (RFC 8656, section 7.2)
abbrev pub made : History → FiveTuple → Option Allocation
made h f = first_some allocation_at (own h f)

-- when the allocation of f expires: the moment plus the seconds of its last Alloc or Renew (RFC 8656, sections 7.2 and 8.2)
abbrev pub span : History → FiveTuple → Option ℕ
span h f = first_some span_at (own h f)

-- f has an allocation at the moment t
pub record IsLive (h : History) (t : ℕ) (f : FiveTuple) : Type 0 where
  -- there was an Alloc of f
  pub made : IsSome (made h f)
  -- what it or a later Renew granted has not expired
  pub ahead : IsSomeAnd (span h f) (λ x. t < x)

-- the events of f after its last Alloc, the newest first
abbrev pub since_alloc : History → FiveTuple → List Event
since_alloc h f = until_first (λ e. is_some (allocation_at e)) (own h f)

-- ---- Permissions (section 9: they last 300 seconds) and channels (section 12: they last 600 seconds)

-- the addresses whose permission an act installs
abbrev pub addresses_of : PlainAct → List ℕ
addresses_of (Allocates user port granted tx token) = []
addresses_of (Renews granted) = []
addresses_of (Permits addresses) = addresses
addresses_of (Binds number peer) = peer.ip ∷ []

-- the channel number that an act binds
abbrev pub numbers_of : PlainAct → List ℕ
numbers_of (Allocates user port granted tx token) = []
numbers_of (Renews granted) = []
numbers_of (Permits addresses) = []
numbers_of (Binds number peer) = number ∷ []

-- when the permission of the address a expires that an event installs, if it installs one: 300 seconds later
abbrev pub permission_at : ℕ → Event → Option ℕ
permission_at a e = if list_any (nat_eq a) (addresses_of e.act) then Some (e.moment + permission_lifetime) else None

-- the channel of number n that an act at the moment m binds, if it binds one: it expires 600 seconds later
abbrev pub channel_by : ℕ → ℕ → PlainAct → Option Channel
channel_by n m (Allocates user port granted tx token) = None
channel_by n m (Renews granted) = None
channel_by n m (Permits addresses) = None
channel_by n m (Binds number peer) = if n == number then Some (record { peer = peer; expiry = m + channel_lifetime }) else None

-- the channel of number n that an event binds, if it binds one
abbrev pub channel_at : ℕ → Event → Option Channel
channel_at n e = channel_by n e.moment e.act

-- when the permission of an address expires: 300 s after it was last installed, if that was after the last Alloc
abbrev pub permission : History → FiveTuple → ℕ → Option ℕ
permission h f a = first_some (permission_at a) (since_alloc h f)

-- the peer of a channel, and when it expires: 600 s after it was last bound, if that was after the last Alloc
abbrev pub channel : History → FiveTuple → ℕ → Option Channel
channel h f n = first_some (channel_at n) (since_alloc h f)

-- ---- Reservations (section 7.2: an Allocate may reserve the port after its own; a reservation lasts 30 seconds, and
-- the next Alloc of the port ends it)

-- the ports that an act reserves
abbrev pub reserved_by : PlainAct → List ℕ
reserved_by (Allocates user port granted tx None) = []
reserved_by (Allocates user port granted tx (Some token)) = (port + 1) ∷ []
reserved_by (Renews granted) = []
reserved_by (Permits addresses) = []
reserved_by (Binds number peer) = []

-- the reservation of the port q by an Alloc of another port at the moment m, if it makes one
abbrev pub reservation_with : ℕ → ℕ → ℕ → Option Token → Option (Option Reservation)
reservation_with q m port None = None
reservation_with q m port (Some token) = if q == port + 1 then Some (Some (record { token = token; expiry = m + reservation_lifetime })) else None

-- what an act at the moment m says of the reservation of the port q: an Alloc of q ends it, an Alloc of the port before it
-- may make one, and the others say nothing
abbrev pub reservation_by : ℕ → ℕ → PlainAct → Option (Option Reservation)
reservation_by q m (Allocates user port granted tx token) = if q == port then Some None else reservation_with q m port token
reservation_by q m (Renews granted) = None
reservation_by q m (Permits addresses) = None
reservation_by q m (Binds number peer) = None

-- what an event says of the reservation of the port q, if it says something
abbrev pub reservation_at : ℕ → Event → Option (Option Reservation)
reservation_at q e = reservation_by q e.moment e.act

-- an answer inside an answer as one: none if either is none
abbrev pub flat : {X : Type 0} → Option (Option X) → Option X
flat None = None
flat (Some o) = o

-- the reservation of a port: by the last event that says something of it (RFC 8656, section 7.2)
unfoldable pub reservation : History → ℕ → Option Reservation
reservation h q = flat (first_some (reservation_at q) (reverse h))
