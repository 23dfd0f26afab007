-- Reading from the left, with the first fault that is met: the fields as they stand, at one field the first condition that fails, a condition over several
-- fields at the last one that it needs, and bytes after the last field at the end.
use Rattle.std.specs.Prelude.{◌≡◌, ℕ, zero, suc, ◌-◌, Bool, true, not, ◌&&◌, ◌||◌, List, [], ◌∷◌, ◌++◌, length, take, drop, Option, Some, None, Result, Ok, Err, slice_get, nat_lt, nat_le, nat_eq, ◌==◌, ◌+◌, ◌%◌, if◌then◌else◌}
use Rattle.std.specs.List.{list_any}
use Rattle.std.specs.Int.{Width, w16, w32, w64, byte_len, from_be_bytes}
use Rattle.turn_history.specs.Fitting.{is_channel_number}
use Rattle.turn_history.specs.Prelude.{PlainAct, Allocates, Renews, Permits, Binds, Allocation, Event, Endpoint, FiveTuple, Bounds, Token, TxId}
use Rattle.turn_record.specs.declared.error.DecodeError.{DecodeError}
use Rattle.turn_record.specs.declared.error.DecodeError.TheVariants.{Short, BadTag, BadValue, OutOfOrder, TrailingBytes}
use Rattle.turn_record.specs.declared.error.ReadError.{ReadError}
use Rattle.turn_record.specs.declared.error.ReadError.TheVariants as errors
use Rattle.turn_record.specs.declared.version.Version.{Version}
use Rattle.turn_record.specs.declared.version.Version.TheVariants.{V1, V2}
use Rattle.turn_types.specs.Prelude.{default_lifetime, max_lifetime, end_of_moments}

infixl 10 ◌>>=◌
-- a reading, and then another one by what it gave; the first fault counts
abbrev pub ◌>>=◌ : {A B : Type 0} → Result A DecodeError → (A → Result B DecodeError) → Result B DecodeError
(Ok x) >>= f = f x
(Err e) >>= f = Err e

-- a refusal is the fault that reading gives, or it is out of memory
abbrev pub Fails : {Y : Type 0} → ReadError → Result Y DecodeError → Type 0
Fails errors.Memory read = Unit {0}
Fails (errors.Malformed f) read = read ≡ Err f

-- what a function returned, seen by view, is what reading gives, unless it is out of memory
abbrev pub Gives : {X Y : Type 0} → (X → Y) → Result X ReadError → Result Y DecodeError → Type 0
Gives view (Ok x) read = read ≡ Ok (view x)
Gives view (Err e) read = Fails e read

-- what reading a field gives: a value and the bytes after it, or a fault
abbrev pub Field : Type 0 → Type 0
Field A = Result (A × List ℕ) DecodeError

-- the element passes, where there is one
abbrev pub passes : {A : Type 0} → (A → Bool) → Option A → Bool
passes test None = true
passes test (Some x) = test x

-- the last element passes, where there is one
abbrev pub last_passes : {A : Type 0} → (A → Bool) → List A → Bool
last_passes test xs = passes test (slice_get xs (length xs - 1))

-- the field, where it is good, else this fault
abbrev pub checked : {A : Type 0} → Bool → DecodeError → A → Result A DecodeError
checked good fault x = if good then Ok x else Err fault

-- one byte
abbrev pub byte_at : List ℕ → Field ℕ
byte_at [] = Err Short
byte_at (b ∷ rest) = Ok (b, rest)

-- a number of this width, its highest byte first
abbrev pub number_at : Width → List ℕ → Field ℕ
number_at w bytes = if nat_lt (length bytes) (byte_len w) then Err Short else Ok (from_be_bytes w (take (byte_len w) bytes), drop (byte_len w) bytes)

-- n bytes
abbrev pub bytes_at : ℕ → List ℕ → Field (List ℕ)
bytes_at n bytes = if nat_lt (length bytes) n then Err Short else Ok (take n bytes, drop n bytes)

-- n elements more, each read after those before it
unfoldable pub many : {A : Type 0} → (List A → List ℕ → Field A) → ℕ → List A → List ℕ → Field (List A)
many item zero before bytes = Ok (before, bytes)
many item (suc n) before bytes = do
  x ← item before bytes
  many item n (before ++ x.0 ∷ []) x.1

-- ---- Fields

-- a moment: eight bytes, below 2^40 - 3600 seconds
unfoldable pub moment_at : List ℕ → Field ℕ
moment_at bytes = do
  m ← number_at w64 bytes
  checked (nat_lt m.0 end_of_moments) BadValue m

-- an address and a port
unfoldable pub endpoint_at : List ℕ → Field Endpoint
endpoint_at bytes = do
  ip ← number_at w32 bytes
  port ← number_at w16 ip.1
  Ok (record { ip = ip.0; port = port.0 }, port.1)

-- a five-tuple: the client's endpoint, then the server's
unfoldable pub tuple_at : List ℕ → Field FiveTuple
tuple_at bytes = do
  client ← endpoint_at bytes
  server ← endpoint_at client.1
  Ok (record { client = client.0; server = server.0 }, server.1)

-- the length of a name: 1 to `name_bytes`
unfoldable pub name_len_at : Bounds → List ℕ → Field ℕ
name_len_at b bytes = do
  n ← number_at w16 bytes
  checked (nat_lt 0 n.0 && nat_le n.0 b.name_bytes) BadValue n

-- a name, after its length
unfoldable pub name_at : Bounds → List ℕ → Field (List ℕ)
name_at b bytes = do
  n ← name_len_at b bytes
  bytes_at n.0 n.1

-- the seconds of an Alloc: 600 to 3600
unfoldable pub granted_at : List ℕ → Field ℕ
granted_at bytes = do
  g ← number_at w32 bytes
  checked (nat_le default_lifetime g.0 && nat_le g.0 max_lifetime) BadValue g

-- the seconds of a Renew: 0, or 600 to 3600
unfoldable pub renewed_at : List ℕ → Field ℕ
renewed_at bytes = do
  g ← number_at w32 bytes
  checked (nat_eq g.0 0 || (nat_le default_lifetime g.0 && nat_le g.0 max_lifetime)) BadValue g

-- a transaction id: twelve bytes
unfoldable pub tx_at : List ℕ → Field TxId
tx_at bytes = do
  t ← bytes_at 12 bytes
  Ok (record { 0 = t.0 }, t.1)

-- a token: eight bytes
unfoldable pub token_bytes_at : List ℕ → Field Token
token_bytes_at bytes = do
  k ← bytes_at 8 bytes
  Ok (record { 0 = k.0 }, k.1)

-- a token begins with the two bytes of its port
abbrev pub begins_with : ℕ → Token → Bool
begins_with port token = from_be_bytes w16 (take 2 token.0) == port

-- the token of a port, with whose two bytes it begins
unfoldable pub token_at : ℕ → List ℕ → Field Token
token_at port bytes = do
  k ← token_bytes_at bytes
  checked (begins_with port k.0) BadValue k

-- a channel number: 0x4000 to 0x4FFF
unfoldable pub channel_number_at : List ℕ → Field ℕ
channel_number_at bytes = do
  n ← number_at w16 bytes
  checked (is_channel_number n.0) BadValue n

-- a count in one byte, from low up to high
unfoldable pub count_at : ℕ → ℕ → List ℕ → Field ℕ
count_at low high bytes = do
  n ← byte_at bytes
  checked (nat_le low n.0 && nat_le n.0 high) BadValue n

-- ---- Acts

-- a port that passes a test
unfoldable pub port_at : (ℕ → Bool) → List ℕ → Field ℕ
port_at free bytes = do
  port ← number_at w16 bytes
  checked (free port.0) BadValue port

-- what an Alloc gave, without its token, with a port that passes a test
unfoldable pub allocation_at : Bounds → (ℕ → Bool) → List ℕ → Field Allocation
allocation_at b free bytes = do
  user ← name_at b bytes
  port ← port_at free user.1
  granted ← granted_at port.1
  tx ← tx_at granted.1
  Ok (record { user = user.0; port = port.0; granted = granted.0; tx = tx.0; token = None }, tx.1)

-- the body of tag 1: an Alloc
abbrev pub allocated_at : Bounds → List ℕ → Field PlainAct
allocated_at b bytes = do
  a ← allocation_at b (λ port. true) bytes
  Ok (Allocates a.0.user a.0.port a.0.granted a.0.tx None, a.1)

-- a port is even
abbrev pub is_even : ℕ → Bool
is_even port = port % 2 == 0

-- what an Alloc gave, with an even port and the token of the next one
unfoldable pub pair_at : Bounds → List ℕ → Field Allocation
pair_at b bytes = do
  a ← allocation_at b is_even bytes
  k ← token_at (a.0.port + 1) a.1
  Ok (record { user = a.0.user; port = a.0.port; granted = a.0.granted; tx = a.0.tx; token = Some k.0 }, k.1)

-- the body of tag 5: an Alloc with a token
abbrev pub allocated_even_at : Bounds → List ℕ → Field PlainAct
allocated_even_at b bytes = do
  a ← pair_at b bytes
  Ok (Allocates a.0.user a.0.port a.0.granted a.0.tx a.0.token, a.1)

-- an address that was not named before
unfoldable pub address_at : List ℕ → List ℕ → Field ℕ
address_at before bytes = do
  a ← number_at w32 bytes
  checked (not (list_any (λ y. nat_eq y a.0) before)) BadValue a

-- 1 to `permissions` addresses, each once
unfoldable pub addresses_at : Bounds → List ℕ → Field (List ℕ)
addresses_at b bytes = do
  k ← count_at 1 b.permissions bytes
  many address_at k.0 [] k.1

-- a channel number, and its peer
pub record Binding : Type 0 where
  pub number : ℕ
  pub peer : Endpoint

-- a channel number and a peer
unfoldable pub binding_at : List ℕ → Field Binding
binding_at bytes = do
  number ← channel_number_at bytes
  peer ← endpoint_at number.1
  Ok (record { number = number.0; peer = peer.0 }, peer.1)

-- the body of tag 4: a Bind
abbrev pub bound_at : List ℕ → Field PlainAct
bound_at bytes = do
  a ← binding_at bytes
  Ok (Binds a.0.number a.0.peer, a.1)

-- the body of tag 2: a Renew
abbrev pub renews_at : List ℕ → Field PlainAct
renews_at bytes = do
  g ← renewed_at bytes
  Ok (Renews g.0, g.1)

-- the body of tag 3: a Permit
abbrev pub permits_at : Bounds → List ℕ → Field PlainAct
permits_at b bytes = do
  a ← addresses_at b bytes
  Ok (Permits a.0, a.1)

-- the body of an act entry with this tag
unfoldable pub body_at : Bounds → ℕ → List ℕ → Field PlainAct
body_at b tag bytes =
    if tag == 1 then allocated_at b bytes
    else if tag == 2 then renews_at bytes
    else if tag == 3 then permits_at b bytes
    else if tag == 4 then bound_at bytes
    else allocated_even_at b bytes

-- the last tag of a version: tag 5 is of version 2 alone
abbrev pub max_tag : Version → ℕ
max_tag V1 = 4
max_tag V2 = 5

-- a tag: 1 to the last one of the version, else `BadTag`
unfoldable pub tag_at : Version → List ℕ → Field ℕ
tag_at v bytes = do
  t ← byte_at bytes
  checked (nat_le 1 t.0 && nat_le t.0 (max_tag v)) BadTag t

-- a moment that is not below those before
unfoldable pub moment_after : List Event → List ℕ → Field ℕ
moment_after before bytes = do
  m ← moment_at bytes
  checked (last_passes (λ last. nat_le last.moment m.0) before) OutOfOrder m

-- an act entry, after events none of which is later
unfoldable pub event_at : Version → Bounds → List Event → List ℕ → Field Event
event_at v b before bytes = do
  t ← tag_at v bytes
  m ← moment_after before t.1
  f ← tuple_at m.1
  d ← body_at b t.0 f.1
  Ok (record { moment = m.0; tuple = f.0; act = d.0 }, d.1)

-- a payload: 1 to `acts` act entries
unfoldable pub events_at : Version → Bounds → List ℕ → Field (List Event)
events_at v b bytes = do
  n ← count_at 1 b.acts bytes
  many (event_at v b) n.0 [] n.1

-- all of the bytes: after the last field there is none
abbrev pub whole : {A : Type 0} → Field A → Result A DecodeError
whole read = read >>= λ x. if length x.1 == 0 then Ok x.0 else Err TrailingBytes

-- the event that a byte list encodes, all of it, or the first fault
unfoldable pub act_in : Version → Bounds → List ℕ → Result Event DecodeError
act_in v b bytes = whole (event_at v b [] bytes)

-- the events that a byte list encodes, all of it, or the first fault
unfoldable pub payload_in : Version → Bounds → List ℕ → Result (List Event) DecodeError
payload_in v b bytes = whole (events_at v b bytes)
