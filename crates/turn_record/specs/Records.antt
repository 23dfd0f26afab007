-- What bytes encode. The ranges of values are those of fitting histories, so what such a history holds has an encoding.
use Rattle.std.specs.Prelude.{◌≡◌, ℕ, ◌+◌, ◌*◌, ◌^◌, ◌<◌, ◌≤◌, List, length, max}
use Rattle.std.specs.List.{AllByRecursion}
use Rattle.turn_history.specs.Prelude.{IsInRange, IsTableAt, PlainAct, Allocates, Renews, Permits, Binds, Event, HasNoTokens, NeverFall, ReservesNone, Contents, Bounds}
use Rattle.turn_record.specs.Bytes.{act_entry, payload, snapshot}
use Rattle.turn_record.specs.declared.version.Version.{Version}
use Rattle.turn_record.specs.declared.version.Version.TheVariants.{V1, V2}

-- the acts that a version can hold: version 1 those that reserve no port
abbrev pub Writes : Version → PlainAct → Type 0
Writes V1 d = ReservesNone d
Writes V2 d = Unit {0}

-- the tables that a version can hold: version 1 those without tokens and reserved ports
abbrev pub Holds : Version → Contents → Type 0
Holds V1 c = HasNoTokens c
Holds V2 c = Unit {0}

-- bytes encode an act entry, all of them
pub record EncodesAct (v : Version) (b : Bounds) (e : Event) (bytes : List ℕ) : Type 0 where
  pub writes : Writes v e.act
  pub in_range : IsInRange b e
  pub is : bytes ≡ act_entry e

-- the lengths of an act fit the bytes that they are written in
abbrev pub HasShortParts : PlainAct → Type 0
HasShortParts (Allocates user port granted tx token) = (length user < 2 ^ 16) × (length tx.0 ≡ 12)
HasShortParts (Renews granted) = Unit {0}
HasShortParts (Permits xs) = length xs < 256
HasShortParts (Binds number peer) = Unit {0}

-- the events of one frame: 1 to the limit of acts, in range, of which the version can hold each, and whose moments never fall
pub record IsBatch (v : Version) (b : Bounds) (es : List Event) : Type 0 where
  pub some : 1 ≤ length es
  pub few : length es ≤ b.acts
  pub in_range : AllByRecursion (IsInRange b) es
  pub later : NeverFall es
  pub writes : AllByRecursion (λ e. Writes v e.act) es

-- bytes encode a payload, all of them
pub record EncodesPayload (v : Version) (b : Bounds) (es : List Event) (bytes : List ℕ) : Type 0 where
  pub batch : IsBatch v b es
  pub is : bytes ≡ payload es

-- a table at a moment that a snapshot can hold: each that the version can hold
pub record IsSnapshot (v : Version) (b : Bounds) (t : ℕ) (c : Contents) : Type 0 where
  pub at : IsTableAt b t c
  pub holds : Holds v c

-- bytes encode a snapshot, all of them
pub record EncodesSnapshot (v : Version) (b : Bounds) (t : ℕ) (c : Contents) (bytes : List ℕ) : Type 0 where
  pub fits : IsSnapshot v b t c
  pub is : bytes ≡ snapshot v t c

-- ---- Sizes

-- the size of an act entry of an Alloc without its user's name, in bytes, at most
abbrev pub alloc_size : Version → ℕ
alloc_size V1 = 41
alloc_size V2 = 49

-- the size of an entry of a snapshot without its user's name, permissions and channels, in bytes, at most
abbrev pub entry_size : Version → ℕ
entry_size V1 = 42
entry_size V2 = 51

-- the max size of an act entry under the limits, in bytes
abbrev pub max_act : Version → Bounds → ℕ
max_act v b = max (max (alloc_size v + b.name_bytes) (22 + 4 * b.permissions)) 29

-- the max size of a payload under the limits, in bytes
abbrev pub max_payload : Version → Bounds → ℕ
max_payload v b = 1 + b.acts * max_act v b

-- the max size of an entry of a snapshot under the limits, in bytes
abbrev pub max_entry : Version → Bounds → ℕ
max_entry v b = entry_size v + b.name_bytes + 12 * b.permissions + 16 * b.channels

-- the max size of the reserved ports under the limits, in bytes
abbrev pub max_reserved : Version → Bounds → ℕ
max_reserved V1 b = 0
max_reserved V2 b = 4 + 18 * b.allocations

-- the max size of a snapshot under the limits, in bytes
abbrev pub max_snapshot : Version → Bounds → ℕ
max_snapshot v b = 12 + b.allocations * max_entry v b + max_reserved v b

-- the max size of an act entry under the max limits, in bytes
abbrev pub max_act_bytes : ℕ
max_act_bytes = 557

-- the max size of an entry of a snapshot under the max limits, in bytes
abbrev pub max_entry_bytes : ℕ
max_entry_bytes = 1455

-- the max size of the reserved ports under the max limits, in bytes
abbrev pub max_reserved_bytes : ℕ
max_reserved_bytes = 18436

-- the max size of a snapshot under the max limits, in bytes
abbrev pub max_snapshot_bytes : ℕ
max_snapshot_bytes = 1508368
