-- What is held of the live five-tuples.
use Rattle.std.specs.Prelude.{ℕ, ◌≡◌, ◌≢◌, ◌≤◌, ◌<◌, Some, List, map, refl, MatchOption, IsSomeAnd, flat_map, option_map, option_to_list}
use Rattle.std.specs.Coded.{Coded, code_by, coded×, coded_ℕ}
use Rattle.std.specs.FinMap as fin
use Rattle.turn_history.specs.Prelude.{tuple_code, Entry, Entries, map_of, FiveTuple}
use Rattle.turn_history.specs.declared.channel.Channel.{Channel}
use Rattle.turn_types.specs.Prelude.{tuple_cmp}
use Rattle.turn_table.specs.State.{Held, Room, held_code}

-- five-tuples with what is held of each
abbrev pub Holdings : Type 0
Holdings = fin.FinMap tuple_cmp Held

-- what is held, and for how many more five-tuples there is room
pub record Live : Type 0 where
  pub held : Holdings
  -- for how many more five-tuples
  pub room : ℕ

-- the code of what is held, with the room
abbrev pub live_code : Coded Live
live_code =
    code_by (Holdings × ℕ) (coded× (fin.code tuple_code held_code) coded_ℕ)
    (λ l. (l.held, l.room))
    (λ p. record { held = p.0; room = p.1 })
    (λ _. refl)

-- the entries, without their rooms
unfoldable pub entries_of : Holdings → Entries
entries_of m = map_of tuple_cmp (fin.keys m) (λ f. option_map (λ h. h.entry) (fin.get m f))

-- the five-tuples, ascending, each with its port
abbrev pub placed : Holdings → List (FiveTuple × ℕ)
placed m = map (λ p. (p.0, p.1.entry.port)) (fin.entries m)

-- five-tuples with their entries
abbrev pub listed : Holdings → List (FiveTuple × ℕ) → List (FiveTuple × Entry)
listed m places = flat_map (λ p. option_to_list (option_map (λ h. (p.0, h.entry)) (fin.get m p.0))) places

-- the entry of f became what a change makes of it, and all else stayed
abbrev pub Changes : FiveTuple → (Entry → Entry) → Holdings → Holdings → Type 0
Changes f change old new = IsSomeAnd (fin.get old f) (λ h. (k : Held) × (k.entry ≡ change h.entry) × (new ≡ fin.insert old f k))

-- no entry has the port
abbrev pub PortIsUnused : Holdings → ℕ → Type 0
PortIsUnused m port = (f : FiveTuple) (h : Held) → fin.get m f ≡ Some h → h.entry.port ≢ port

-- there is room for an entry, or if the five-tuple has one, the room inside it
abbrev pub HasRoom : Room → Live → Type 0
HasRoom r l =
    MatchOption (fin.get l.held r.tuple) (0 < l.room) (λ h. (r.permissions ≤ h.permission_room) × (r.channels ≤ h.channel_room))

-- nothing of an entry expires before t
pub record IsQuiet (t : ℕ) (e : Entry) : Type 0 where
  pub entry : t ≤ e.expiry
  pub permissions : (a x : ℕ) → fin.get e.permissions a ≡ Some x → t ≤ x
  pub channels : (n : ℕ) (c : Channel) → fin.get e.channels n ≡ Some c → t ≤ c.expiry

-- nothing of what is held expires before t
abbrev pub AreQuiet : ℕ → Holdings → Type 0
AreQuiet t m = (f : FiveTuple) (h : Held) → fin.get m f ≡ Some h → IsQuiet t h.entry
