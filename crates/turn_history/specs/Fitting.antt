-- Which acts may follow a history.
use Rattle.std.specs.Prelude.{◌≡◌, ◌≢◌, ◌⊎◌, ℕ, ◌+◌, ◌-◌, ◌^◌, ◌≤◌, ◌<◌, ◌==◌, ◌&&◌, ◌||◌, nat_eq, nat_lt, not, Bool, if◌then◌else◌, None, Some, List, [], ◌∷◌, ◌++◌, length, take, is_some, ◌%◌, IsSome, IsSomeAnd, IfSome, Option, All}
use Rattle.std.specs.List.{IsDistinct, list_all, list_any}
use Rattle.std.specs.FinMap as fin
use Rattle.std.specs.Int.{to_be_bytes, w16}
use Rattle.turn_history.specs.History.{PlainAct, Allocates, Renews, Permits, Binds, Event, History, clock}
use Rattle.turn_types.specs.declared.limits.Bounds.{Bounds}
use Rattle.turn_history.specs.Table.{Entry, Contents, install, table}
pub use Rattle.turn_history.specs.ChannelNumber.{IsChannelNumber, is_channel_number}
pub use Rattle.turn_types.specs.FiveTuple.{IsEndpoint, IsTuple}
use Rattle.turn_types.specs.declared.address.Endpoint.{Endpoint}
use Rattle.turn_types.specs.declared.address.FiveTuple.{FiveTuple}
use Rattle.turn_history.specs.declared.channel.Channel.{Channel}
use Rattle.turn_history.specs.declared.reservation.Reservation.{Reservation}
use Rattle.turn_types.specs.Prelude.{permission_lifetime, channel_lifetime, default_lifetime, max_lifetime, reservation_lifetime, end_of_moments}
use Rattle.turn_types.specs.declared.message.Token.{Token}

-- ---- The ranges of an event's values

-- seconds that an Alloc may grant (RFC 8656, section 7.2: at least the default of 600, and at most 3600)
abbrev pub IsLifetime : ℕ → Type 0
IsLifetime granted = (default_lifetime ≤ granted) × (granted ≤ max_lifetime)

-- a token has eight bytes, and begins with the two of its port
pub record IsTokenOf (port : ℕ) (token : Token) : Type 0 where
  pub size : length token.0 ≡ 8
  pub bytes : All (λ x. x < 256) token.0
  pub begins : take 2 token.0 ≡ to_be_bytes w16 port

-- a token for the port after an even one
abbrev pub IsTokenAfter : ℕ → Token → Type 0
IsTokenAfter port token = (port % 2 ≡ 0) × IsTokenOf (port + 1) token

-- The values of an act are in their ranges under the limits. A name has 1 to `name_bytes` bytes, a Renew grants 0 seconds or
-- a lifetime, a transaction id has 12 bytes, a token comes with an even port, and a Permit names 1 to `permissions`
-- addresses, each once.
abbrev pub IsActInRange : Bounds → PlainAct → Type 0
IsActInRange b (Allocates user port granted tx token) =
    ((1 ≤ length user) × (length user ≤ b.name_bytes) × All (λ x. x < 256) user)
    × (port < 2 ^ 16)
    × IsLifetime granted
    × ((length tx.0 ≡ 12) × All (λ x. x < 256) tx.0)
    × IfSome token (IsTokenAfter port)
IsActInRange b (Renews granted) = (granted ≡ 0) ⊎ IsLifetime granted
IsActInRange b (Permits addresses) =
    ((1 ≤ length addresses) × (length addresses ≤ b.permissions) × All (λ x. x < 2 ^ 32) addresses)
    × IsDistinct nat_eq addresses
IsActInRange b (Binds number peer) = IsChannelNumber number × IsEndpoint peer

-- the values of an event are in their ranges under the limits; a moment is below 2^40 - 3600 seconds
pub record IsInRange (b : Bounds) (e : Event) : Type 0 where
  pub moment : e.moment < end_of_moments
  pub tuple : IsTuple e.tuple
  pub act : IsActInRange b e.act

-- The values of an entry of a table at the moment t are in their ranges under the limits. It expires after t and within 3600
-- seconds, each permission within 300, and each channel within 600.
pub record IsEntryInRange (b : Bounds) (t : ℕ) (e : Entry) : Type 0 where
  pub made : IsActInRange b (Allocates e.user e.port e.granted e.tx e.token)
  pub expiry : (t < e.expiry) × (e.expiry ≤ t + max_lifetime)
  pub permissions : (a x : ℕ) → fin.get e.permissions a ≡ Some x → (a < 2 ^ 32) × (t < x) × (x ≤ t + permission_lifetime)
  pub channels : (n : ℕ) (c : Channel) → fin.get e.channels n ≡ Some c → IsChannelNumber n × IsEndpoint c.peer × (t < c.expiry) × (c.expiry ≤ t + channel_lifetime)

-- each entry of a table at the moment t is in its ranges, and so is its five-tuple
abbrev pub AreEntriesInRange : Bounds → ℕ → Contents → Type 0
AreEntriesInRange b t c = (f : FiveTuple) (e : Entry) → fin.get c.entries f ≡ Some e → IsTuple f × IsEntryInRange b t e

-- a reservation in a table at the moment t: its port is odd, and it expires after t and within 30 seconds
pub record IsReservationInRange (t q : ℕ) (r : Reservation) : Type 0 where
  pub port : (q < 2 ^ 16) × (q % 2 ≡ 1)
  pub token : IsTokenOf q r.token
  pub expiry : (t < r.expiry) × (r.expiry ≤ t + reservation_lifetime)

-- each reservation of a table at the moment t is in its ranges
abbrev pub AreReservationsInRange : ℕ → Contents → Type 0
AreReservationsInRange t c = (q : ℕ) (r : Reservation) → fin.get c.reserved q ≡ Some r → IsReservationInRange t q r

-- ---- Fitting

-- no entry has the port (RFC 8656, section 7.2)
abbrev pub PortIsFree : Contents → ℕ → Type 0
PortIsFree c port = (f : FiveTuple) (e : Entry) → fin.get c.entries f ≡ Some e → e.port ≢ port

-- whether an entry has the port: the test of which `PortIsFree` is the fact
abbrev pub has_port : Contents → ℕ → Bool
has_port c port = list_any (λ p. p.1.port == port) (fin.entries c.entries)

-- the port is not reserved
abbrev pub IsUnreserved : Contents → ℕ → Type 0
IsUnreserved c port = fin.get c.reserved port ≡ None

-- whether an entry has the port, or it is reserved: ports that a new allocation doesn't get unless it names a token
abbrev pub is_taken : Contents → ℕ → Bool
is_taken c port = has_port c port || is_some (fin.get c.reserved port)

-- the port after this one may be reserved, if there is a token: it is a port, it is neither allocated nor reserved, and the limits hold afterwards
abbrev pub FitsReservation : Bounds → Contents → ℕ → Option Token → Type 0
FitsReservation b c port None = Unit {0}
FitsReservation b c port (Some token) = (port + 1 < 2 ^ 16) × PortIsFree c (port + 1) × IsUnreserved c (port + 1) × (fin.len c.reserved < b.allocations)

-- number n may be bound to the peer p (RFC 8656, section 12.2): the limits hold afterwards, n is bound to no other peer, and p to no other number
abbrev pub FitsChannel : Bounds → ℕ → Endpoint → Entry → Type 0
FitsChannel b n p e =
    (fin.len (fin.insert e.permissions p.ip 0) ≤ b.permissions)
    × (fin.len (fin.insert e.channels n (record { peer = p; expiry = 0 })) ≤ b.channels)
    × ((k : ℕ) (c : Channel) → fin.get e.channels k ≡ Some c → (k ≡ n → c.peer ≡ p) × (c.peer ≡ p → k ≡ n))

-- whether a channel is to the peer p
abbrev pub is_peer : Endpoint → Channel → Bool
is_peer p c = nat_eq c.peer.ip p.ip && nat_eq c.peer.port p.port

-- whether a channel has the number n exactly where it has the peer p
abbrev pub goes_with : ℕ → Endpoint → ℕ × Channel → Bool
goes_with n p s = if nat_eq s.0 n then is_peer p s.1 else not (is_peer p s.1)

-- number n or the peer p is bound, but not to each other (400); where neither this nor `exceeds` holds, the channel fits
-- (`FitsChannel`)
abbrev pub is_bound_elsewhere : ℕ → Endpoint → Entry → Bool
is_bound_elsewhere n p e = not (list_all (goes_with n p) (fin.entries e.channels))

-- with a channel of number n to the peer p, the permissions or the channels would be more than the limits allow (508)
abbrev pub exceeds : Bounds → ℕ → Endpoint → Entry → Bool
exceeds b n p e =
    nat_lt b.permissions (fin.len (fin.insert e.permissions p.ip 0))
    || nat_lt b.channels (fin.len (fin.insert e.channels n (record { peer = p; expiry = 0 })))

-- an act of f fits a table (RFC 8656, sections 7.2, 8.2, 10.2 and 12.2): an Alloc, where f is not live, the port is nobody's, also a reserved one, the table is not full, and
-- with a token the next port may be reserved; the others,
-- where f is live and the limits hold afterwards
abbrev pub Fits : Bounds → Contents → FiveTuple → PlainAct → Type 0
Fits b c f (Allocates user port granted tx token) =
    (fin.get c.entries f ≡ None) × PortIsFree c port × (fin.len c.entries < b.allocations) × FitsReservation b c port token
Fits b c f (Renews granted) = IsSome (fin.get c.entries f)
Fits b c f (Permits addresses) = IsSomeAnd (fin.get c.entries f) (λ e. fin.len (install 0 addresses e.permissions) ≤ b.permissions)
Fits b c f (Binds number peer) = IsSomeAnd (fin.get c.entries f) (λ e. FitsChannel b number peer e × IsChannelNumber number)

-- an event may be the next of a history
pub record Follows (b : Bounds) (h : History) (e : Event) : Type 0 where
  pub later : clock h ≤ e.moment
  pub in_range : IsInRange b e
  pub fits : Fits b (table h e.moment) e.tuple e.act

-- the events of a list may follow a history, one after another
abbrev pub FitsAfter : Bounds → History → List Event → Type 0
FitsAfter b h [] = Unit {0}
FitsAfter b h (e ∷ es) = Follows b h e × FitsAfter b (h ++ e ∷ []) es

-- each event of a history may follow those before it: moments never fall, and each act fits the table before it at its moment
abbrev pub IsFitting : Bounds → History → Type 0
IsFitting b h = FitsAfter b [] h
