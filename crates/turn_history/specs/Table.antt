-- The table of a history at a moment, and what the time that passes and one more act do to it.
use Rattle.std.specs.Prelude.{ℕ, ◌+◌, if◌then◌else◌, nat_lt, ◌==◌, Option, Some, None, List, [], ◌∷◌, map, is_some, option_and_then, option_map, flat_map}
use Rattle.std.specs.declared.cmp.Ordering.{Ordering}
use Rattle.std.specs.Ordering.{nat_cmp}
use Rattle.std.specs.FinMap as fin
use Rattle.std.specs.FinMap.{FinMap}
use Rattle.turn_types.specs.Prelude.{tuple_cmp, permission_lifetime, channel_lifetime, reservation_lifetime}
use Rattle.turn_history.specs.History.{PlainAct, Allocates, Renews, Permits, Binds, Event, History, own, first_some, until_first, Allocation, allocation_at, span_at, addresses_of, numbers_of, permission_at, channel_at, reserved_by, reservation}
use Rattle.turn_types.specs.declared.address.Endpoint.{Endpoint}
use Rattle.turn_types.specs.declared.address.FiveTuple.{FiveTuple}
use Rattle.turn_history.specs.declared.channel.Channel.{Channel}
use Rattle.turn_types.specs.declared.message.TxId.{TxId}
use Rattle.turn_types.specs.declared.message.Token.{Token}
use Rattle.turn_history.specs.declared.reservation.Reservation.{Reservation}

-- ---- What a table holds

-- what a table holds of a live five-tuple (RFC 8656, section 6): the fields of its last Alloc, when the allocation expires, when the
-- permission of each address does, and of each channel number the peer and when the channel expires
pub record Entry : Type 0 where
  pub user : List ℕ
  pub port : ℕ
  -- in seconds, by the Alloc
  pub granted : ℕ
  pub tx : TxId
  pub token : Option Token
  -- the moment when the allocation expires, in seconds (exclusive)
  pub expiry : ℕ
  -- by address, the moment when the permission expires
  pub permissions : FinMap nat_cmp ℕ
  -- by channel number, the peer and the moment when the channel expires
  pub channels : FinMap nat_cmp Channel

-- the entries of a table by their five-tuples, in the order of the twelve bytes of these
abbrev pub Entries : Type 0
Entries = FinMap tuple_cmp Entry

-- the reserved ports, each with its token and when the reservation expires (RFC 8656, section 7.2)
abbrev pub Reservations : Type 0
Reservations = FinMap nat_cmp Reservation

-- what a table holds: the entries of the live five-tuples, and the reserved ports
pub record Contents : Type 0 where
  -- by five-tuple
  pub entries : Entries
  -- by port
  pub reserved : Reservations

-- what an empty table holds
unfoldable pub no_contents : Contents
no_contents = record { entries = fin.empty; reserved = fin.empty }

-- ---- What has not expired

-- a moment, where it is still to come
abbrev pub ahead : ℕ → Option ℕ → Option ℕ
ahead t None = None
ahead t (Some x) = if nat_lt t x then Some x else None

-- a channel, where it expires after the moment t
abbrev pub channel_ahead : ℕ → Option Channel → Option Channel
channel_ahead t None = None
channel_ahead t (Some c) = if nat_lt t c.expiry then Some c else None

-- a reservation, where it expires after the moment t
abbrev pub reservation_ahead : ℕ → Option Reservation → Option Reservation
reservation_ahead t None = None
reservation_ahead t (Some r) = if nat_lt t r.expiry then Some r else None

-- ---- The table of a history

-- the map with the value x at the key k, if there is one
abbrev pub insert_some : {K X : Type 0} {R : K → K → Ordering} → FinMap R X → K → Option X → FinMap R X
insert_some m k None = m
insert_some m k (Some x) = fin.insert m k x

-- the map that has g k at each key k of the list where g has an answer
unfoldable pub map_of : {K X : Type 0} (R : K → K → Ordering) → List K → (K → Option X) → FinMap R X
map_of R [] g = fin.empty
map_of R (k ∷ ks) g = insert_some (map_of R ks g) k (g k)

-- the permissions at the moment t (RFC 8656, section 9), read off the events after the last Alloc
unfoldable pub permissions_in : ℕ → List Event → FinMap nat_cmp ℕ
permissions_in t es = map_of nat_cmp (flat_map (λ e. addresses_of e.act) es) (λ a. ahead t (first_some (permission_at a) es))

-- the channels at the moment t (RFC 8656, section 12), read off the events after the last Alloc
unfoldable pub channels_in : ℕ → List Event → FinMap nat_cmp Channel
channels_in t es = map_of nat_cmp (flat_map (λ e. numbers_of e.act) es) (λ n. channel_ahead t (first_some (channel_at n) es))

-- an entry, where there are an Alloc and a moment still to come when the allocation expires
abbrev pub entry_with : FinMap nat_cmp ℕ → FinMap nat_cmp Channel → Option Allocation → Option ℕ → Option Entry
entry_with ps cs None x = None
entry_with ps cs (Some a) None = None
entry_with ps cs (Some a) (Some x) =
    Some (record { user = a.user; port = a.port; granted = a.granted; tx = a.tx; token = a.token; expiry = x; permissions = ps; channels = cs })

-- the entry of a five-tuple at a moment, read off its own events, the newest first
unfoldable pub entry_in : ℕ → List Event → Option Entry
entry_in t es =
    let since = until_first (λ e. is_some (allocation_at e)) es in
    entry_with (permissions_in t since) (channels_in t since) (first_some allocation_at es) (ahead t (first_some span_at es))

-- the entry of the five-tuple f at the moment t, if it is live
abbrev pub entry_of : History → ℕ → FiveTuple → Option Entry
entry_of h t f = entry_in t (own h f)

-- the reserved ports of a history at a moment
unfoldable pub reservations : History → ℕ → Reservations
reservations h t = map_of nat_cmp (flat_map (λ e. reserved_by e.act) h) (λ q. reservation_ahead t (reservation h q))

-- the table of a history at a moment: the map from each live five-tuple to its entry (RFC 8656, section 6), and the reserved
-- ports
unfoldable pub table : History → ℕ → Contents
table h t = record { entries = map_of tuple_cmp (map (λ e. e.tuple) h) (entry_of h t); reserved = reservations h t }

-- ---- What the time that passes does to a table

-- the permissions that expire after the moment t
unfoldable pub still_permitted : ℕ → FinMap nat_cmp ℕ → FinMap nat_cmp ℕ
still_permitted t m = map_of nat_cmp (fin.keys m) (λ a. ahead t (fin.get m a))

-- the channels that expire after the moment t
unfoldable pub still_bound : ℕ → FinMap nat_cmp Channel → FinMap nat_cmp Channel
still_bound t m = map_of nat_cmp (fin.keys m) (λ n. channel_ahead t (fin.get m n))

-- what of an entry expires after the moment t, if the allocation does
abbrev pub kept : ℕ → Entry → Option Entry
kept t e =
    if nat_lt t e.expiry
    then Some (record e { permissions = still_permitted t e.permissions; channels = still_bound t e.channels })
    else None

-- the reserved ports whose reservations expire after the moment t
unfoldable pub still_reserved : ℕ → Reservations → Reservations
still_reserved t m = map_of nat_cmp (fin.keys m) (λ q. reservation_ahead t (fin.get m q))

-- what of a table has an expiry above t: of its entries, in them of their permissions and channels, and of its reserved ports
unfoldable pub purged : ℕ → Contents → Contents
purged t c =
    record c {
      entries = map_of tuple_cmp (fin.keys c.entries) (λ f. option_and_then (kept t) (fin.get c.entries f));
      reserved = still_reserved t c.reserved;
    }

-- ---- What one more act does to a table

-- these addresses, each at this expiry, over what there was
abbrev pub install : ℕ → List ℕ → FinMap nat_cmp ℕ → FinMap nat_cmp ℕ
install x [] m = m
install x (a ∷ more) m = fin.insert (install x more m) a x

-- a new allocation (RFC 8656, section 7.2)
abbrev pub allocated : ℕ → List ℕ → ℕ → ℕ → TxId → Option Token → Entry
allocated t user port granted tx token =
    record { user = user; port = port; granted = granted; tx = tx; token = token; expiry = t + granted; permissions = fin.empty; channels = fin.empty }

-- an allocation that expires at another moment (RFC 8656, section 8.2)
abbrev pub renewed : ℕ → Entry → Entry
renewed x e = record e { expiry = x }

-- an allocation with the permissions of a CreatePermission (RFC 8656, section 10.2)
abbrev pub permitting : ℕ → List ℕ → Entry → Entry
permitting x addresses e = record e { permissions = install x addresses e.permissions }

-- an allocation with the channel and the permission of a ChannelBind (RFC 8656, section 12.2)
abbrev pub binding : ℕ → ℕ → Endpoint → Entry → Entry
binding t number peer e =
    record e {
      permissions = fin.insert e.permissions peer.ip (t + permission_lifetime);
      channels = fin.insert e.channels number (record { peer = peer; expiry = t + channel_lifetime });
    }

-- an act done at the moment t to the entry of its five-tuple
abbrev pub applied_to : ℕ → PlainAct → Option Entry → Option Entry
applied_to t (Allocates user port granted tx token) o = Some (allocated t user port granted tx token)
applied_to t (Renews granted) o = if granted == 0 then None else option_map (renewed (t + granted)) o
applied_to t (Permits addresses) o = option_map (permitting (t + permission_lifetime) addresses) o
applied_to t (Binds number peer) o = option_map (binding t number peer) o

-- the map with this at f, or nothing, and all else as it was
abbrev pub with_entry : Entries → FiveTuple → Option Entry → Entries
with_entry m f None = fin.remove m f
with_entry m f (Some e) = fin.insert m f e

-- the reserved ports with the one after a port, if there is a token (RFC 8656, section 7.2)
abbrev pub with_reservation : ℕ → ℕ → Option Token → Reservations → Reservations
with_reservation t port None m = m
with_reservation t port (Some token) m = fin.insert m (port + 1) (record { token = token; expiry = t + reservation_lifetime })

-- an act done at the moment t to the reserved ports: an Alloc ends the reservation of its port
abbrev pub reserving : ℕ → PlainAct → Reservations → Reservations
reserving t (Allocates user port granted tx token) m = with_reservation t port token (fin.remove m port)
reserving t (Renews granted) m = m
reserving t (Permits addresses) m = m
reserving t (Binds number peer) m = m

-- What a table holds after an act of the five-tuple f at the moment t. An Alloc makes a fresh entry; a Renew sets the expiry,
-- or with 0 removes the entry; a Permit installs permissions until t + 300; a Bind installs one permission until t + 300, and
-- one channel until t + 600.
unfoldable pub applied : ℕ → FiveTuple → PlainAct → Contents → Contents
applied t f d c =
    record c { entries = with_entry c.entries f (applied_to t d (fin.get c.entries f)); reserved = reserving t d c.reserved }
