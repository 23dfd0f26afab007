-- Reading a snapshot from the left, with the first fault that is met.
use Rattle.std.specs.Prelude.{ℕ, ◌+◌, not, ◌&&◌, ◌||◌, List, [], Option, Some, None, Result, Ok, nat_lt, nat_le, nat_eq, ◌==◌, Bool, if◌then◌else◌}
use Rattle.std.specs.List.{list_any}
use Rattle.std.specs.Int.{w16, w32, w64}
use Rattle.std.specs.Ordering.{nat_cmp, is_lt}
use Rattle.std.specs.FinMap as fin
use Rattle.std.specs.FinMap.{FinMap}
use Rattle.turn_history.specs.Prelude.{is_peer, Allocation, Entry, Contents, Endpoint, FiveTuple, Bounds, Token}
use Rattle.turn_history.specs.declared.channel.Channel.{Channel}
use Rattle.turn_history.specs.declared.reservation.Reservation.{Reservation}
use Rattle.turn_record.specs.declared.error.DecodeError.{DecodeError}
use Rattle.turn_record.specs.declared.error.DecodeError.TheVariants.{BadValue, OutOfOrder}
use Rattle.turn_record.specs.Reading.{◌>>=◌, Field, last_passes, checked, byte_at, number_at, many, moment_at, endpoint_at, tuple_at, allocation_at, is_even, token_at, channel_number_at, count_at, whole}
use Rattle.turn_record.specs.declared.version.Version.{Version}
use Rattle.turn_record.specs.declared.version.Version.TheVariants.{V1, V2}
use Rattle.turn_types.specs.Prelude.{tuple_cmp, permission_lifetime, channel_lifetime, max_lifetime, reservation_lifetime}

-- when something expires, in eight bytes: after the moment t, and by at most so many seconds
unfoldable pub expiry_at : ℕ → ℕ → List ℕ → Field ℕ
expiry_at t most bytes = do
  x ← number_at w64 bytes
  checked (nat_lt t x.0 && nat_le x.0 (t + most)) BadValue x

-- a count up to a limit, and as many items
abbrev pub list_at : {A : Type 0} → (List A → List ℕ → Field A) → ℕ → List ℕ → Field (List A)
list_at item limit bytes = do
  n ← count_at 0 limit bytes
  many item n.0 [] n.1

-- ---- Permissions

-- an address above the one before
unfoldable pub address_after : List (ℕ × ℕ) → List ℕ → Field ℕ
address_after before bytes = do
  a ← number_at w32 bytes
  checked (last_passes (λ last. nat_lt last.0 a.0) before) OutOfOrder a

-- an address, and when its permission expires: within 300 seconds
unfoldable pub permission_at : ℕ → List (ℕ × ℕ) → List ℕ → Field (ℕ × ℕ)
permission_at t before bytes = do
  a ← address_after before bytes
  x ← expiry_at t permission_lifetime a.1
  Ok ((a.0, x.0), x.1)

-- a count, and as many permissions
unfoldable pub permission_list_at : Bounds → ℕ → List ℕ → Field (List (ℕ × ℕ))
permission_list_at b t bytes = list_at (permission_at t) b.permissions bytes

-- the permissions of an entry, as a map
abbrev pub permissions_at : Bounds → ℕ → List ℕ → Field (FinMap nat_cmp ℕ)
permissions_at b t bytes = do
  ps ← permission_list_at b t bytes
  Ok (fin.from_sorted ps.0, ps.1)

-- ---- Channels

-- a channel number above the one before
unfoldable pub number_after : List (ℕ × Channel) → List ℕ → Field ℕ
number_after before bytes = do
  n ← channel_number_at bytes
  checked (last_passes (λ last. nat_lt last.0 n.0) before) OutOfOrder n

-- a peer of none of the channels before
unfoldable pub other_peer_at : List (ℕ × Channel) → List ℕ → Field Endpoint
other_peer_at before bytes = do
  p ← endpoint_at bytes
  checked (not (list_any (λ c. is_peer p.0 c.1) before)) BadValue p

-- a channel: its number, its peer, and when it expires: within 600 seconds
unfoldable pub channel_at : ℕ → List (ℕ × Channel) → List ℕ → Field (ℕ × Channel)
channel_at t before bytes = do
  n ← number_after before bytes
  p ← other_peer_at before n.1
  x ← expiry_at t channel_lifetime p.1
  Ok ((n.0, record { peer = p.0; expiry = x.0 }), x.1)

-- a count, and as many channels
unfoldable pub channel_list_at : Bounds → ℕ → List ℕ → Field (List (ℕ × Channel))
channel_list_at b t bytes = list_at (channel_at t) b.channels bytes

-- the channels of an entry, as a map
abbrev pub channels_at : Bounds → ℕ → List ℕ → Field (FinMap nat_cmp Channel)
channels_at b t bytes = do
  cs ← channel_list_at b t bytes
  Ok (fin.from_sorted cs.0, cs.1)

-- ---- Entries

-- a five-tuple above the one before
unfoldable pub tuple_after : List (FiveTuple × Entry) → List ℕ → Field FiveTuple
tuple_after before bytes = do
  f ← tuple_at bytes
  checked (last_passes (λ last. is_lt (tuple_cmp last.0 f.0)) before) OutOfOrder f

-- no entry before has the port
abbrev pub is_free_after : List (FiveTuple × Entry) → ℕ → Bool
is_free_after before port = not (list_any (λ e. e.1.port == port) before)

-- a mark: 1 where a token follows, which is beside an even port alone, and else 0
unfoldable pub mark_byte_at : ℕ → List ℕ → Field ℕ
mark_byte_at port bytes = do
  m ← byte_at bytes
  checked (nat_eq m.0 0 || (nat_eq m.0 1 && is_even port)) BadValue m

-- the token of a port
abbrev pub some_token_at : ℕ → List ℕ → Field (Option Token)
some_token_at port bytes = do
  k ← token_at port bytes
  Ok (Some k.0, k.1)

-- after a mark, the token of the port after this one, if there is one
unfoldable pub token_if_at : ℕ → ℕ → List ℕ → Field (Option Token)
token_if_at port mark bytes = if mark == 0 then Ok (None, bytes) else some_token_at (port + 1) bytes

-- the token of an entry with this port, if it has one: in version 2 alone
unfoldable pub mark_at : Version → ℕ → List ℕ → Field (Option Token)
mark_at V1 port bytes = Ok (None, bytes)
mark_at V2 port bytes = do
  m ← mark_byte_at port bytes
  token_if_at port m.0 m.1

-- an entry of what its Allocate gave, its token, when it expires, its permissions and its channels
abbrev pub entry_with : Allocation → Option Token → ℕ → FinMap nat_cmp ℕ → FinMap nat_cmp Channel → Entry
entry_with a k x ps cs = record { user = a.user; port = a.port; granted = a.granted; tx = a.tx; token = k; expiry = x; permissions = ps; channels = cs }

-- an entry of a snapshot, after those before it
unfoldable pub entry_at : Version → Bounds → ℕ → List (FiveTuple × Entry) → List ℕ → Field (FiveTuple × Entry)
entry_at v b t before bytes = do
  f ← tuple_after before bytes
  a ← allocation_at b (is_free_after before) f.1
  k ← mark_at v a.0.port a.1
  x ← expiry_at t max_lifetime k.1
  ps ← permissions_at b t x.1
  cs ← channels_at b t ps.1
  Ok ((f.0, entry_with a.0 k.0 x.0 ps.0 cs.0), cs.1)

-- ---- Counts

-- how many entries there are, or reserved ports, in four bytes: at most `allocations`
unfoldable pub total_at : Bounds → List ℕ → Field ℕ
total_at b bytes = do
  n ← number_at w32 bytes
  checked (nat_le n.0 b.allocations) BadValue n

-- ---- Reserved ports

-- an odd port that no entry has
unfoldable pub odd_port_at : List (FiveTuple × Entry) → List ℕ → Field ℕ
odd_port_at entries bytes = do
  q ← number_at w16 bytes
  checked (not (is_even q.0) && is_free_after entries q.0) BadValue q

-- a reserved port above the one before, if it is odd and no entry has it
unfoldable pub reserved_port_after : List (FiveTuple × Entry) → List (ℕ × Reservation) → List ℕ → Field ℕ
reserved_port_after entries before bytes = do
  q ← odd_port_at entries bytes
  checked (last_passes (λ last. nat_lt last.0 q.0) before) OutOfOrder q

-- a reserved port, its token, and when the reservation expires: within 30 seconds
unfoldable pub reservation_at : ℕ → List (FiveTuple × Entry) → List (ℕ × Reservation) → List ℕ → Field (ℕ × Reservation)
reservation_at t entries before bytes = do
  q ← reserved_port_after entries before bytes
  k ← token_at q.0 q.1
  x ← expiry_at t reservation_lifetime k.1
  Ok ((q.0, record { token = k.0; expiry = x.0 }), x.1)

-- n reserved ports more, and the table that they make with those before them and the entries, at the moment t
unfoldable pub reserving_at : ℕ → ℕ → List (FiveTuple × Entry) → List (ℕ × Reservation) → List ℕ → Field (ℕ × Contents)
reserving_at t n entries before bytes = do
  rs ← many (reservation_at t entries) n before bytes
  Ok ((t, record { entries = fin.from_sorted entries; reserved = fin.from_sorted rs.0 }), rs.1)

-- a count and as many reserved ports, in version 2, and the table that they make with the entries
unfoldable pub reserved_at : Version → Bounds → ℕ → List (FiveTuple × Entry) → List ℕ → Field (ℕ × Contents)
reserved_at V1 b t entries bytes = Ok ((t, record { entries = fin.from_sorted entries; reserved = fin.from_sorted [] }), bytes)
reserved_at V2 b t entries bytes = do
  n ← total_at b bytes
  reserving_at t n.0 entries [] n.1

-- ---- Snapshots

-- the first twelve bytes of a snapshot: its moment, and how many entries it has
pub record Head : Type 0 where
  pub moment : ℕ
  pub count : ℕ

-- the first twelve bytes of a snapshot
unfoldable pub head_at : Bounds → List ℕ → Field Head
head_at b bytes = do
  t ← moment_at bytes
  n ← total_at b t.1
  Ok (record { moment = t.0; count = n.0 }, n.1)

-- n entries more, and what follows them
unfoldable pub table_at : Version → Bounds → ℕ → ℕ → List (FiveTuple × Entry) → List ℕ → Field (ℕ × Contents)
table_at v b t n before bytes = do
  es ← many (entry_at v b t) n before bytes
  reserved_at v b t es.0 es.1

-- a snapshot: its moment, and the table
unfoldable pub snapshot_at : Version → Bounds → List ℕ → Field (ℕ × Contents)
snapshot_at v b bytes = do
  h ← head_at b bytes
  table_at v b h.0.moment h.0.count [] h.1

-- the moment and the table that a byte list encodes, all of it, or the first fault
unfoldable pub snapshot_in : Version → Bounds → List ℕ → Result (ℕ × Contents) DecodeError
snapshot_in v b bytes = whole (snapshot_at v b bytes)
