-- Which histories a snapshot and payloads encode.
use Rattle.std.specs.Prelude.{◌≡◌, ◌<◌, ◌≤◌, ℕ, List, [], ◌∷◌, ◌++◌, length, map, max}
use Rattle.std.specs.List.{AllByRecursion}
use Rattle.turn_history.specs.Prelude.{IsFitting, Event, History, clock, AllFrom, table, Bounds}
use Rattle.turn_record.specs.Prelude.{payload, snapshot, Holds, Writes}
use Rattle.turn_record.specs.declared.version.Version.{Version}
use Rattle.turn_types.specs.Prelude.{end_of_moments}

-- the events of all batches, in order
abbrev pub all_of : List (List Event) → History
all_of [] = []
all_of (es ∷ more) = es ++ all_of more

-- a frame has at least one event, no more than the limit, and none that the version can't hold
pub record HasSize (v : Version) (b : Bounds) (es : List Event) : Type 0 where
  pub some : 1 ≤ length es
  pub few : length es ≤ b.acts
  pub writes : AllByRecursion (λ e. Writes v e.act) es

-- A history is some events, whose table the version can hold and the snapshot encodes, and then batches, each of which a payload
-- encodes. No event before the batches is later than the snapshot's moment, and none in them earlier. c is the latest moment
-- that is written.
pub record Encodes (v : Version) (b : Bounds) (h : History) (c : ℕ) (bytes : List ℕ) (payloads : List (List ℕ)) : Type 0 where
  pub fitting : IsFitting b h
  -- the events that are in the snapshot alone
  pub before : History
  -- the events of each payload
  pub batches : List (List Event)
  pub whole : h ≡ before ++ all_of batches
  -- that of the snapshot
  pub moment : ℕ
  pub in_range : moment < end_of_moments
  pub late : clock before ≤ moment
  pub holds : Holds v (table before moment)
  pub from : AllFrom moment (all_of batches)
  pub sizes : AllByRecursion (HasSize v b) batches
  pub is_snapshot : bytes ≡ snapshot v moment (table before moment)
  pub are_payloads : payloads ≡ map payload batches
  pub clock_is : c ≡ max moment (clock (all_of batches))
