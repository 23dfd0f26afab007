-- What contracts see of a table.
use Rattle.std.specs.Prelude.{ℕ, Option, List, map, refl}
use Rattle.std.specs.Coded.{Coded, code_by, coded×, coded_ℕ, coded_option}
use Rattle.turn_history.specs.Prelude.{tuple_code, bounds_code, entry_code, contents_code, Bounds, Entry, Contents, FiveTuple}

-- an entry, and for how many more permissions and channels it has room
pub record Held : Type 0 where
  pub entry : Entry
  -- for how many more permissions
  pub permission_room : ℕ
  -- for how many more channels
  pub channel_room : ℕ

-- room for an act of a five-tuple: for an entry of it, or for so many more permissions and channels in the one that is there, and for so many more reserved ports
pub record Room : Type 0 where
  pub tuple : FiveTuple
  -- for how many more permissions, if the five-tuple has an entry
  pub permissions : ℕ
  -- for how many more channels, if it has one
  pub channels : ℕ
  -- for how many more reserved ports
  pub ports : ℕ

-- a table: its limits, its moment, what it holds, and for which act there is room. A table is "as it was" where the
-- first three are: the room is not spoken of then.
pub record State : Type 0 where
  pub bounds : Bounds
  -- at which its entries are those that live, in seconds
  pub moment : ℕ
  pub contents : Contents
  pub room : Option Room

-- a five-tuple with its entry
abbrev pub pair_of : FiveTuple × Held → FiveTuple × Entry
pair_of p = (p.0, p.1.entry)

-- five-tuples with their entries
abbrev pub pairs : List (FiveTuple × Held) → List (FiveTuple × Entry)
pairs xs = map pair_of xs

-- ---- Codes

-- an entry with its rooms is stored as these three
abbrev pub held_code : Coded Held
held_code =
    code_by (Entry × (ℕ × ℕ)) (coded× entry_code (coded× coded_ℕ coded_ℕ))
    (λ h. (h.entry, (h.permission_room, h.channel_room)))
    (λ p. record { entry = p.0; permission_room = p.1.0; channel_room = p.1.1 })
    (λ _. refl)

-- room is stored as its four fields, one after the other
abbrev pub room_code : Coded Room
room_code =
    code_by (FiveTuple × (ℕ × (ℕ × ℕ))) (coded× tuple_code (coded× coded_ℕ (coded× coded_ℕ coded_ℕ)))
    (λ r. (r.tuple, (r.permissions, (r.channels, r.ports))))
    (λ p. record { tuple = p.0; permissions = p.1.0; channels = p.1.1.0; ports = p.1.1.1 })
    (λ _. refl)

-- a table is stored as its four fields, one after the other
abbrev pub state_code : Coded State
state_code =
    code_by (Bounds × (ℕ × (Contents × Option Room))) (coded× bounds_code (coded× coded_ℕ (coded× contents_code (coded_option room_code))))
    (λ s. (s.bounds, (s.moment, (s.contents, s.room))))
    (λ p. record { bounds = p.0; moment = p.1.0; contents = p.1.1.0; room = p.1.1.1 })
    (λ _. refl)
