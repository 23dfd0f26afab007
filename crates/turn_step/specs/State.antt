-- What contracts see of a machine.
use Rattle.std.specs.Prelude.{◌≡◌, ◌⊎◌, ◌≤◌, ◌<◌, ℕ, Bool, false, Option, Some, None, IfSome, ◌++◌}
use Rattle.turn_types.specs.Prelude.{Config}
use Rattle.turn_history.specs.Prelude.{Fits, IsFitting, IsInRange, History, clock, ReservesNone, applied, purged}
use Rattle.turn_cred.specs.Prelude.{Keys}
use Rattle.turn_ports.specs.Ports.{Failed}
use Rattle.turn_table.specs.Prelude.{State, Agrees, room_for}
use Rattle.turn_step.specs.Answer.{AnswersArrival, Setting}
use Rattle.turn_step.specs.Holding.{ports_with}
use Rattle.turn_step.specs.Outcome.{Arrives, Change, StepOutcome, Sent, added, event_at}

-- what contracts see of a machine: the configuration, the handler of users' keys, the generator of ports, the table, and
-- whether ports may be reserved
pub record MachineState (H G : Type 0) : Type 0 where
  pub config : Config
  -- what knows the keys of users
  pub handler : H
  -- the generator of relayed addresses
  pub ports : G
  pub table : State
  -- whether ports may be reserved
  pub pairs : Bool

-- what stays the same of a machine, as a setting
abbrev pub setting_of : {H G : Type 0} → (H → Keys) → (G → ℕ × ℕ) → MachineState H G → Setting
setting_of keys range m = record { config = m.config; keys = keys m.handler; range = range m.ports; pairs = m.pairs }

-- a machine is after a history: the history fits, has no later moment, and the table agrees with it
pub record IsAfter {H G : Type 0} (m : MachineState H G) (h : History) : Type 0 where
  pub fitting : IsFitting m.config.limits h
  pub late : clock h ≤ m.table.moment
  pub agrees : Agrees m.table h

-- the generator holds something for each port that the table has or a change takes, and for no other
abbrev pub HoldsPorts : {H G : Type 0} → (G → (ℕ → Bool) → Type 0) → MachineState H G → Option Change → Type 0
HoldsPorts holds m change = holds m.ports (ports_with m.table.contents change)

-- ---- What stays

-- the configuration, the handler, the range of ports and whether ports may be reserved are the same
pub record KeepsSetting {H G : Type 0} (range : G → ℕ × ℕ) (old new : MachineState H G) : Type 0 where
  pub config : new.config ≡ old.config
  pub handler : new.handler ≡ old.handler
  pub range_is : range new.ports ≡ range old.ports
  pub pairs : new.pairs ≡ old.pairs

-- the generator's count of failures is the same, or one pick failed
abbrev pub CountsOne : ℕ → ℕ → Type 0
CountsOne old new = (new ≡ old) ⊎ Failed old new

-- ---- Moments

-- a table at a moment: without what has expired by then
abbrev pub at_moment : ℕ → State → State
at_moment t s = record s { moment = t; contents = purged t s.contents; room = None }

-- a table was brought to a moment: it is as before where it was at that moment, and without what has expired by then
-- where the moment is later. The room isn't spoken of.
pub record IsPurged (t : ℕ) (old new : State) : Type 0 where
  pub moment : new.moment ≡ t
  pub bounds : new.bounds ≡ old.bounds
  pub same : old.moment ≡ t → new.contents ≡ old.contents
  pub later : old.moment < t → new.contents ≡ purged t old.contents

-- two tables are the same but for the room
abbrev pub IsSameTable : State → State → Type 0
IsSameTable old new = new ≡ record old { room = new.room }

-- ---- Changes

-- a change may be the next: the table has room for it, it fits, and its values are in their ranges
pub record MayBeNext (s : State) (c : Change) : Type 0 where
  pub room : s.room ≡ Some (room_for c.tuple c.act)
  pub fits : Fits s.bounds s.contents c.tuple c.act
  pub in_range : IsInRange s.bounds (event_at s.moment c)

-- a machine is ready for a step: its change may be the next, and reserves no port where none may be reserved
pub record IsReady {H G : Type 0} (m : MachineState H G) (o : StepOutcome) : Type 0 where
  pub next : IfSome o.change (MayBeNext m.table)
  pub no_pairs : m.pairs ≡ false → IfSome o.change (λ c. ReservesNone c.act)

-- a table after a change at its moment, if there is one
abbrev pub changed : State → Option Change → State
changed s None = s
changed s (Some c) = record s { contents = applied s.moment c.tuple c.act s.contents; room = None }

-- ---- Whole steps

-- an arrival at the moment t was answered: an outcome whose datagram was sent is an answer after the history, and the
-- machine is after the history with its change
pub record Answered {H G : Type 0} (s : Setting) (new : MachineState H G) (h : History) (t : ℕ) (failed : Bool) (a : Arrives) (sent : Option Sent) : Type 0 where
  pub outcome : StepOutcome
  pub answers : AnswersArrival s h t failed a outcome
  pub sent_is : outcome.sent ≡ sent
  pub after : IsAfter new (h ++ added t outcome.change)
