-- What the laws over the definition of the answer take as given.
use Rattle.std.specs.Prelude.{◌≡◌, ℕ, ◌+◌, ◌%◌, ◌^◌, ◌<◌, ◌≤◌, ◌==◌, nat_le, not, ◌&&◌, ◌||◌, Bool, false, if◌then◌else◌, List, [], ◌∷◌, length, All, Option, None, Some, IfSome, IsSome, is_none, is_some, option_map, unwrap_or}
use Rattle.std.specs.FinMap as fin
use Rattle.std.specs.Option.{option_map_or, option_or}
use Rattle.turn_history.specs.Prelude.{Bounds, IsUnreserved, PortIsFree, is_taken, Contents, Entry, FiveTuple, BadRequest, AllocationMismatch, AddressFamilyNotSupported, UnsupportedTransportProtocol, AllocationQuotaReached, InsufficientCapacity}
use Rattle.turn_codec.specs.Prelude.{Content, even_port, requested_address_family, requested_transport, reservation_token, has_unknown, is_seen}
use Rattle.turn_cred.specs.Prelude.{Verdict, Passed}
use Rattle.turn_cred.specs.declared.key.Key.{Key}
use Rattle.turn_types.specs.Prelude.{Config, first_row}
use Rattle.turn_rules.specs.Allocate.{allocate_outcome, asks_for_next_port, before_port, count_of_user, is_malformed_allocate, is_repeat, needed_for, refused, repeated}
use Rattle.turn_rules.specs.Fields.{first_byte, granted, is_other_family, lifetime_of}
use Rattle.turn_rules.specs.declared.need.Need.{Need}
use Rattle.turn_rules.specs.declared.need.Need.TheVariants.{Any, Even, Pair}
use Rattle.turn_rules.specs.declared.outcome.Outcome.{Outcome}
use Rattle.turn_rules.specs.declared.outcome.Outcome.TheVariants.{Allocate, Refuse, RefuseUnknown}

-- the transaction id has 12 bytes, and all values are bytes, as of each message that a datagram encodes
pub record IsMadeOfBytes (m : Content) : Type 0 where
  pub tx_size : length m.tx ≡ 12
  pub tx : All (λ x. x < 256) m.tx
  pub values : All (λ a. All (λ x. x < 256) a.value) m.attributes

-- a user whose credentials hold has a name of 1 to `name_bytes` bytes
abbrev pub NamesInRange : Bounds → Option Verdict → Type 0
NamesInRange b v = (user : List ℕ) (key : Key) → v ≡ Some (Passed user key) → (1 ≤ length user) × (length user ≤ b.name_bytes) × All (λ x. x < 256) user

-- two tables have as many allocations of a user, as many of all, the same taken ports of a range, and the same reserved ports
pub record SameForOthers (range : ℕ × ℕ) (user : List ℕ) (c k : Contents) : Type 0 where
  pub of_user : count_of_user c user ≡ count_of_user k user
  pub all : fin.len c.entries ≡ fin.len k.entries
  pub reserved : c.reserved ≡ k.reserved
  pub ports : (port : ℕ) → range.0 ≤ port → port ≤ range.1 → is_taken c port ≡ is_taken k port

-- ---- What was picked

-- the port after an even one is a port that is neither allocated nor reserved
pub record IsNextFree (c : Contents) (port : ℕ) : Type 0 where
  pub even : port % 2 ≡ 0
  pub is_port : port + 1 < 2 ^ 16
  pub free : PortIsFree c (port + 1)
  pub unreserved : IsUnreserved c (port + 1)

-- a port is free for a need: no allocation has it, and where a pair is needed the next one is free too
pub record IsFreeFor (c : Contents) (need : Need) (port : ℕ) : Type 0 where
  pub is_port : port < 2 ^ 16
  pub free : PortIsFree c port
  pub next : need ≡ Pair → IsNextFree c port

-- what was picked, if anything was, is free for what is needed
abbrev pub IsPicked : Contents → Option Need → Option ℕ → Type 0
IsPicked c needed port = (need : Need) → needed ≡ Some need → IfSome port (IsFreeFor c need)

-- reserved ports are ports
abbrev pub AreReservedPorts : Contents → Type 0
AreReservedPorts c = (port : ℕ) → IsSome (fin.get c.reserved port) → port < 2 ^ 16

-- ---- Servers that reserve no ports

-- the rows of an Allocate's own request on a server that reserves no ports: a token or the R bit is 508
abbrev pub plain_rows : Option Entry → List ℕ → Content → List (Bool × Option Outcome)
plain_rows entry user m =
    (has_unknown m, Some RefuseUnknown) ∷
    (option_map_or (is_repeat user m) entry false, option_map repeated entry) ∷
    (is_some entry, refused AllocationMismatch) ∷
    (is_malformed_allocate m, refused BadRequest) ∷
    (not (first_byte m requested_transport == 17), refused UnsupportedTransportProtocol) ∷
    (is_seen m reservation_token && (is_seen m even_port || is_seen m requested_address_family), refused BadRequest) ∷
    (is_seen m reservation_token, refused InsufficientCapacity) ∷
    (is_other_family m, refused AddressFamilyNotSupported) ∷
    (asks_for_next_port m, refused InsufficientCapacity) ∷ []

-- the rows of the user's quota and the limit of all allocations
abbrev pub plain_capacity_rows : Config → Contents → List ℕ → List (Bool × Option Outcome)
plain_capacity_rows s c user =
    (nat_le s.quota (count_of_user c user), refused AllocationQuotaReached) ∷
    (nat_le s.limits.allocations (fin.len c.entries), refused InsufficientCapacity) ∷ []

-- the outcome before a port is asked for, by these rows, if one applies
abbrev pub plain_before_port : Config → Contents → FiveTuple → List ℕ → Content → Option Outcome
plain_before_port s c f user m = option_or (first_row (plain_rows (fin.get c.entries f) user m) None) (first_row (plain_capacity_rows s c user) None)

-- the outcome of an Allocate by the port that was picked, if one was: no token is given
abbrev pub plain_with_port : Content → Option ℕ → Outcome
plain_with_port m None = Refuse InsufficientCapacity
plain_with_port m (Some port) = Allocate port (granted (lifetime_of m)) None

-- an Allocate is answered by these rows, whatever is reserved, and no pair is needed for it
pub record IsPlain (s : Config) (c : Contents) (f : FiveTuple) (t : ℕ) (user : List ℕ) (m : Content) : Type 0 where
  pub outcome : (picked : Option ℕ) → allocate_outcome false s c f t user m picked ≡ unwrap_or (plain_before_port s c f user m) (plain_with_port m picked)
  pub needed : (if is_none (before_port false s c f user m) then needed_for c m else None)
      ≡ (if is_none (plain_before_port s c f user m) then Some (if is_seen m even_port then Even else Any) else None)
