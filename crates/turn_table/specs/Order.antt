-- What holds of a table.
use Rattle.std.specs.Prelude.{ℕ, ◌≡◌, ◌≤◌, Some, Option}
use Rattle.std.specs.FinMap as fin
use Rattle.turn_history.specs.declared.reservation.Reservation.{Reservation}
use Rattle.turn_history.specs.Prelude.{Bounds, IsTableAt, Reservations}
use Rattle.turn_types.specs.Prelude.{AreInRange}
use Rattle.turn_table.specs.declared.edit.Reserved.{Reserved}
use Rattle.turn_table.specs.Live.{AreQuiet, HasRoom, Holdings, Live, entries_of}
use Rattle.turn_table.specs.State.{Room, State}

-- the room that was made, as the definitions have it
abbrev pub room_of : Reserved → Room
room_of r = record { tuple = r.tuple; permissions = r.permissions; channels = r.channels; ports = r.ports }

-- a table of these limits at this moment, with what is held of the five-tuples, the reserved ports, and the room
abbrev pub state_of : Bounds → ℕ → Holdings → Reservations → Option Room → State
state_of b t m q r = record { bounds = b; moment = t; contents = record { entries = entries_of m; reserved = q }; room = r }

-- no reservation expires before t
abbrev pub AreReservationsQuiet : ℕ → Reservations → Type 0
AreReservationsQuiet t m = (q : ℕ) (r : Reservation) → fin.get m q ≡ Some r → t ≤ r.expiry

-- the limits are in their ranges, what is held at a moment is that of a table, nothing of it expires before another moment, and
-- where room was made there is some, for so many more reserved ports too
pub record IsReady (b : Bounds) (moment quiet_until : ℕ) (l : Live) (reserved : Reservations) (places : ℕ) (room : Option Room) : Type 0 where
  pub range : AreInRange b
  pub at : IsTableAt b moment (record { entries = entries_of l.held; reserved = reserved })
  pub quiet : AreQuiet quiet_until l.held
  pub reserved_quiet : AreReservationsQuiet quiet_until reserved
  pub spare : (r : Room) → room ≡ Some r → HasRoom r l × (r.ports ≤ places)
