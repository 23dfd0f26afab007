-- Arrivals that are answered beside what is staged: data, and requests whose answer no table changes.
use Rattle.std.specs.Prelude.{◌≡◌, ◌≢◌, ◌⊎◌, ℕ, List, [], None, Option, drop, false, take}
use Rattle.std.specs.List.{AllByRecursion}
use Rattle.turn_cred.specs.Prelude.{Keys}
use Rattle.turn_history.specs.Prelude.{History, Contents, FiveTuple}
use Rattle.turn_step.specs.Prelude.{AnswersArrival, IsOwner, NeedsTable, Arrives, Sent, IsAfter, MachineState, setting_of}
use Rattle.turn_engine.specs.Recovering.{tuples_of}
use Rattle.turn_engine.specs.State.{ServerState}

-- What answers arrivals while a commit waits for its disk: the machine, and of what is staged the five-tuples of the acts, how many
-- arrivals there are, and the moment of the first.
pub record BesideState (H G : Type 0) : Type 0 where
  pub machine : MachineState H G
  pub tuples : List FiveTuple
  pub arrivals : ℕ
  pub since : ℕ

-- the same of a server
abbrev pub beside : {D H G : Type 0} → ServerState D H G → BesideState H G
beside s = record { machine = s.machine; tuples = s.tuples; arrivals = s.arrivals; since = s.since }

-- no arrival that is staged is of an earlier moment than the clock's
abbrev pub IsAtClock : {H G : Type 0} → BesideState H G → Type 0
IsAtClock b = (b.arrivals ≡ 0) ⊎ (b.since ≡ b.machine.table.moment)

-- no act is staged, or the arrival is of a five-tuple of which no act is staged
pub data IsApart (c : Contents) (tuples : List FiveTuple) (a : Arrives) : Type 0 where
  none_is_staged : tuples ≡ [] → IsApart c tuples a
  is_of_another : (owner : FiveTuple) → IsOwner c a owner → AllByRecursion (λ g. g ≢ owner) tuples → IsApart c tuples a

-- an act is staged, and the arrival is of no allocation, or the act is of its five-tuple
pub data IsBehind (c : Contents) (tuples : List FiveTuple) (a : Arrives) : Type 0 where
  has_no_owner : tuples ≢ [] → ((f : FiveTuple) → ¬ IsOwner c a f) → IsBehind c tuples a
  is_staged : (owner : FiveTuple) → IsOwner c a owner → ¬ AllByRecursion (λ g. g ≢ owner) tuples → IsBehind c tuples a

-- why an arrival has to be submitted
pub data HasToWait {H G : Type 0} (keys : H → Keys) (range : G → ℕ × ℕ) (b : BesideState H G) (a : Arrives) : Type 0 where
  -- it is a request whose answer may depend on the table
  needs_table : NeedsTable (setting_of keys range b.machine) b.machine.table.moment a → HasToWait keys range b a
  -- something that is staged is of an earlier moment
  is_later : ¬ IsAtClock b → HasToWait keys range b a
  is_behind : IsBehind b.machine.table.contents b.tuples a → HasToWait keys range b a

-- An arrival was answered beside what is staged: it is data, or a request whose answer no table changes, no act of its five-tuple is staged,
-- and all that is staged is of the clock's moment. After every history with which the machine agrees, it was answered after the part of it
-- that is stored.
pub record Relays {H G : Type 0} (keys : H → Keys) (range : G → ℕ × ℕ) (b : BesideState H G) (a : Arrives) (sent : Option Sent) : Type 0 where
  pub needs_no_table : ¬ NeedsTable (setting_of keys range b.machine) b.machine.table.moment a
  pub at_clock : IsAtClock b
  pub apart : IsApart b.machine.table.contents b.tuples a
  pub answers : (h : History) (k : ℕ) → IsAfter b.machine h → b.tuples ≡ tuples_of (drop k h)
      → AnswersArrival (setting_of keys range b.machine) (take k h) b.machine.table.moment false a (record { change = None; sent = sent })
