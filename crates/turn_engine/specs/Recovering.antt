-- What a server recovers to.
use Rattle.std.specs.Prelude.{◌≡◌, ◌≤◌, ◌++◌, ℕ, Bool, List, length, map, take, drop, option_to_list}
use Rattle.std.specs.List.{AllByRecursion}
use Rattle.turn_disk.specs.Prelude.{State}
use Rattle.turn_history.specs.Prelude.{Event, History, AllFrom, FiveTuple}
use Rattle.turn_record.specs.Bytes as bytes
use Rattle.turn_record.specs.Prelude.{Writes}
use Rattle.turn_step.specs.Prelude.{AnswersArrival, Setting, Arrives, StepOutcome, added, IsAfter}
use Rattle.turn_store.specs.Prelude.{Form, RepresentsAt, RecoversToAt, form_of}
use Rattle.turn_engine.specs.State.{ServerState, now_of}

-- the five-tuples of events, in their order
abbrev pub tuples_of : History → List FiveTuple
tuples_of h = map (λ (e : Event). e.tuple) h

-- A server that isn't stopped, over a disk in this state, recovers to a history of which the first k events are stored: its
-- machine is after the history, its store recovers to the first k events at a clock, the others are staged, and none of these
-- is before that clock, or one that the store's version can't hold.
pub record RecoversTo {D H G : Type 0} (state : State) (server : ServerState D H G) (h : History) (k : ℕ) : Type 0 where
  pub after : IsAfter server.machine h
  pub within : k ≤ length h
  -- the clock of what is stored
  pub at : ℕ
  pub at_late : at ≤ now_of server
  pub stored : RecoversToAt server.store state at (take k h)
  pub staged : server.payload ≡ bytes.payload (drop k h)
  pub counted : server.acts ≡ length (drop k h)
  pub tuples : server.tuples ≡ tuples_of (drop k h)
  pub since : server.since ≤ now_of server
  pub from : AllFrom at (drop k h)
  -- the store's version can hold each act that is staged
  pub writes : AllByRecursion (λ e. Writes server.store.version e.act) (drop k h)

-- An arrival was taken: an answer after the history was staged, and the server recovers to the history with its change.
pub record Takes {D H G : Type 0} (setting : Setting) (state : State) (old new : ServerState D H G) (h : History) (k moment : ℕ) (failed : Bool) (a : Arrives) : Type 0 where
  pub outcome : StepOutcome
  pub answers : AnswersArrival setting h moment failed a outcome
  -- the datagram of the outcome is staged, if there is one
  pub outs : new.outs ≡ old.outs ++ option_to_list outcome.sent
  -- and so is its act
  pub recovers : RecoversTo state new (h ++ added moment outcome.change) k

-- A server was opened from a content that represents the first events of a history, at least k of them: it recovers to these,
-- all of them stored, at the moment of the content, which is not later than a moment.
pub record Opens {D H G : Type 0} (form : Form) (h : History) (k moment : ℕ) (content : List ℕ) (state : State) (server : ServerState D H G) : Type 0 where
  -- how many events the content represents
  pub count : ℕ
  pub no_less : k ≤ count
  pub no_more : count ≤ length h
  pub same_form : form_of server.store ≡ form
  pub recovers : RecoversTo state server (take count h) count
  pub stands : RepresentsAt form (take count h) (now_of server) content
  pub bounded : now_of server ≤ moment
