-- The bytes of act entries, payloads and snapshots. Numbers have their highest byte first.
use Rattle.std.specs.Prelude.{ℕ, List, [], ◌∷◌, ◌++◌, length, Option, None, Some}
use Rattle.std.specs.Int.{to_be_bytes, w16, w32, w64}
use Rattle.std.specs.Ordering.{nat_cmp}
use Rattle.std.specs.FinMap as fin
use Rattle.std.specs.FinMap.{FinMap}
use Rattle.turn_history.specs.Prelude.{PlainAct, Allocates, Renews, Permits, Binds, Allocation, Event, allocation_of, Entry, Contents, Endpoint, FiveTuple, Token}
use Rattle.turn_history.specs.declared.channel.Channel.{Channel}
use Rattle.turn_history.specs.declared.reservation.Reservation.{Reservation}
use Rattle.turn_record.specs.declared.version.Version.{Version}
use Rattle.turn_record.specs.declared.version.Version.TheVariants.{V1, V2}

-- the fields, one after the other
abbrev pub joined : List (List ℕ) → List ℕ
joined [] = []
joined (field ∷ fields) = field ++ joined fields

-- the encodings of the elements, one after the other
abbrev pub each : {A : Type 0} → (A → List ℕ) → List A → List ℕ
each encode [] = []
each encode (x ∷ xs) = encode x ++ each encode xs

-- six bytes: the address, then the port
abbrev pub endpoint : Endpoint → List ℕ
endpoint e = joined (to_be_bytes w32 e.ip ∷ to_be_bytes w16 e.port ∷ [])

-- twelve bytes: the client's endpoint, then the server's
abbrev pub five_tuple : FiveTuple → List ℕ
five_tuple f = joined (endpoint f.client ∷ endpoint f.server ∷ [])

-- its length in two bytes, and the name
abbrev pub name : List ℕ → List ℕ
name user = to_be_bytes w16 (length user) ++ user

-- ---- Act entries, of which version 1 has those without a token alone

-- the first byte of an act entry
abbrev pub tag : PlainAct → ℕ
tag (Allocates user port granted tx None) = 1
tag (Allocates user port granted tx (Some token)) = 5
tag (Renews granted) = 2
tag (Permits addresses) = 3
tag (Binds number peer) = 4

-- what an Alloc gave, without its token: the name, the port in two bytes, the seconds in four, and the transaction id
abbrev pub allocation : Allocation → List ℕ
allocation a = joined (name a.user ∷ to_be_bytes w16 a.port ∷ to_be_bytes w32 a.granted ∷ a.tx.0 ∷ [])

-- a count in one byte, and as many addresses in four bytes each
abbrev pub addresses : List ℕ → List ℕ
addresses xs = (length xs ∷ []) ++ each (to_be_bytes w32) xs

-- what follows the five-tuple in an act entry
abbrev pub body : PlainAct → List ℕ
body (Allocates user port granted tx None) = allocation (record { user = user; port = port; granted = granted; tx = tx; token = None })
body (Allocates user port granted tx (Some token)) = allocation (record { user = user; port = port; granted = granted; tx = tx; token = Some token }) ++ token.0
body (Renews granted) = to_be_bytes w32 granted
body (Permits xs) = addresses xs
body (Binds number peer) = joined (to_be_bytes w16 number ∷ endpoint peer ∷ [])

-- an event: the tag, the moment in eight bytes, the five-tuple, and the body of the act
abbrev pub act_entry : Event → List ℕ
act_entry e = joined ((tag e.act ∷ []) ∷ to_be_bytes w64 e.moment ∷ five_tuple e.tuple ∷ body e.act ∷ [])

-- ---- Payloads

-- what one frame holds: a count in one byte, and as many act entries
abbrev pub payload : List Event → List ℕ
payload es = (length es ∷ []) ++ each act_entry es

-- ---- Snapshots

-- an address in four bytes, and in eight when its permission expires
abbrev pub permission : ℕ × ℕ → List ℕ
permission p = joined (to_be_bytes w32 p.0 ∷ to_be_bytes w64 p.1 ∷ [])

-- a count in one byte, and as many permissions, ascending by address
unfoldable pub permissions : FinMap nat_cmp ℕ → List ℕ
permissions m = (fin.len m ∷ []) ++ each permission (fin.entries m)

-- a channel: its number in two bytes, its peer, and in eight bytes when it expires
abbrev pub channel : ℕ × Channel → List ℕ
channel c = joined (to_be_bytes w16 c.0 ∷ endpoint c.1.peer ∷ to_be_bytes w64 c.1.expiry ∷ [])

-- a count in one byte, and as many channels, ascending by number
unfoldable pub channels : FinMap nat_cmp Channel → List ℕ
channels m = (fin.len m ∷ []) ++ each channel (fin.entries m)

-- in version 2 alone: 0, or beside an even port 1 and the token of the next port
abbrev pub mark : Version → Option Token → List ℕ
mark V1 token = []
mark V2 None = 0 ∷ []
mark V2 (Some token) = 1 ∷ token.0

-- an entry of a snapshot: the five-tuple, what its Alloc gave, the mark, when it expires in eight bytes, the permissions and
-- the channels
unfoldable pub entry : Version → FiveTuple × Entry → List ℕ
entry v p =
    joined (five_tuple p.0 ∷ allocation (allocation_of p.1) ∷ mark v p.1.token ∷ to_be_bytes w64 p.1.expiry ∷ permissions p.1.permissions ∷ channels p.1.channels ∷ [])

-- the twelve bytes before the entries: a moment in eight, and the number of entries in four
abbrev pub head : ℕ → ℕ → List ℕ
head t count = joined (to_be_bytes w64 t ∷ to_be_bytes w32 count ∷ [])

-- a reserved port in two bytes, its token, and in eight bytes when the reservation expires
abbrev pub reservation : ℕ × Reservation → List ℕ
reservation r = joined (to_be_bytes w16 r.0 ∷ r.1.token.0 ∷ to_be_bytes w64 r.1.expiry ∷ [])

-- in version 2 alone: how many ports are reserved in four bytes, and their reservations, ascending by port
unfoldable pub reserved : Version → FinMap nat_cmp Reservation → List ℕ
reserved V1 m = []
reserved V2 m = to_be_bytes w32 (fin.len m) ++ each reservation (fin.entries m)

-- a table at a moment: the head, the entries, ascending by the twelve bytes of the five-tuple, and the reserved ports
unfoldable pub snapshot : Version → ℕ → Contents → List ℕ
snapshot v t c = head t (fin.len c.entries) ++ (each (entry v) (fin.entries c.entries) ++ reserved v c.reserved)
