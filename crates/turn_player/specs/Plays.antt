-- What a player does: its steps, one after another.
use Rattle.std.specs.Prelude.{◌≡◌, ◌++◌, ℕ, Bool, List, [], ◌∷◌, Option, Some, None, option_map, false, true, option_to_list}
use Rattle.turn_cred.specs.Prelude.{Sources}
use Rattle.turn_cred.specs.declared.handler.AuthHandler as handlers
use Rattle.turn_disk.specs.Prelude.{left_by, IsImage, InMemory}
use Rattle.turn_disk.specs.declared.disk.Disk as disks
use Rattle.turn_disk.specs.declared.outcome.CrashOutcome.{CrashOutcome}
use Rattle.turn_ports.specs.declared.generator.RelayAddressGenerator as generators
use Rattle.turn_step.specs.Prelude.{Setting, arrival_of, sent_of}
use Rattle.turn_store.specs.Prelude.{Form, Carries}
use Rattle.turn_store.specs.declared.error.StoreError.TheVariants as faults
use Rattle.turn_types.specs.Prelude.{Config}
use Rattle.turn_player.specs.Lives.{Closed, Committed, Failed, Input, NotOpened, Opened, Point, Refused, Said, Sends}
use Rattle.turn_player.specs.Lives as lives
use Rattle.turn_player.specs.Worlds.{Call, Down, Lives, Serving, Stands, World, disk_of, handler_of, ports_of}
use Rattle.turn_player.specs.declared.step.Effect.{Effect}
use Rattle.turn_player.specs.declared.step.Effect.TheVariants as events
use Rattle.turn_player.specs.declared.step.Action.{Action}
use Rattle.turn_player.specs.declared.step.Action.TheVariants.{Arrive, Commit, Crash, Reopen, Fail, Stop}

-- what an event of a player says
abbrev pub said_of : {A : Type 0} → Effect A → Said
said_of (events.Refused why) = Refused why
said_of (events.Sent out) = Sends (sent_of out)
said_of (events.Committed count) = Committed count
said_of (events.Failed why) = Failed why
said_of (events.Opened clock) = Opened clock
said_of (events.NotOpened fault) = NotOpened fault
said_of events.Closed = Closed

-- what an event of a player says, if there is one
abbrev pub said_if : {A : Type 0} → Option (Effect A) → List Said
said_if event = option_to_list (option_map said_of event)

-- the inputs of a step: a crash is a stop at rest and an opening
abbrev pub inputs_of : Action → List Input
inputs_of (Arrive moment arrival) = lives.Arrive moment (arrival_of arrival) ∷ []
inputs_of Commit = lives.Commit ∷ []
inputs_of (Crash outcome) = lives.Stop ∷ lives.Open ∷ []
inputs_of (Reopen carry) = lives.Open ∷ []
inputs_of (Fail call) = []
inputs_of (Stop call) = []

-- the inputs of steps, in order
abbrev pub inputs_of_all : List Action → List Input
inputs_of_all [] = []
inputs_of_all (step ∷ steps) = inputs_of step ++ inputs_of_all steps

-- the disk is what the outcome leaves of the one before
pub record Crashes {D H G : Type 0} (disk : disks.Ghosts D) (outcome : CrashOutcome) (old : World D H G) (d : D) : Type 0 where
  pub crash_model : disk.follows_crash_model d → disk.follows_crash_model (disk_of old)
  pub left : (disk.trace d).now ≡ record { bytes = left_by outcome (disk.trace (disk_of old)); pending = [] }
  pub image : IsImage (disk.trace (disk_of old)).now (left_by outcome (disk.trace (disk_of old)))

-- a disk was opened: exactly where it is asked for and can be done, the store that was opened was carried over to version 2
abbrev pub IsCarriedOver : {D H G : Type 0} → disks.Ghosts D → Bool → D → World D H G → Type 0
IsCarriedOver disk carry d (Serving server) = disk.follows_crash_model server.store.disk → Carries carry (disk.trace d).now.bytes server.store
IsCarriedOver disk carry d (Down e h g) = Unit {0}

-- one step of a player leads from a world to a world, and something is said
pub data Plays {D H G : Type 0} (disk : disks.Ghosts D) (handler : handlers.Ghosts H) (ports : generators.Ghosts G) (s : Setting) : World D H G → Action → List Said → World D H G → Type 0 where
  arrives : {w v : World D H G} {moment : _} {arrival : _} {said : List Said} → Call disk handler ports s w (lives.Arrive moment (arrival_of arrival)) said v
      → Plays disk handler ports s w (Arrive moment arrival) said v
  commits : {w v : World D H G} {said : List Said} → Call disk handler ports s w lives.Commit said v → Plays disk handler ports s w Commit said v
  crashes : {w v : World D H G} {outcome : CrashOutcome} {said : List Said} (d : D) → Crashes disk outcome w d
      → Call disk handler ports s (Down d (handler_of w) (ports_of w)) lives.Open said v → IsCarriedOver disk true d v
      → Plays disk handler ports s w (Crash outcome) said v
  reopens : {w v : World D H G} {carry : Bool} {said : List Said} → Call disk handler ports s w lives.Open said v → IsCarriedOver disk carry (disk_of w) v
      → Plays disk handler ports s w (Reopen carry) said v
  fails : {w : World D H G} {call : _} → Plays disk handler ports s w (Fail call) [] w
  stops : {w : World D H G} {call : _} → Plays disk handler ports s w (Stop call) [] w

-- steps of a player, one after another, lead from a world to a world
pub data PlaysAll {D H G : Type 0} (disk : disks.Ghosts D) (handler : handlers.Ghosts H) (ports : generators.Ghosts G) (s : Setting) : World D H G → List Action → List Said → World D H G → Type 0 where
  done : {w : World D H G} → PlaysAll disk handler ports s w [] [] w
  then : {w v : World D H G} {step : Action} {steps : List Action} {said later : List Said} (next : World D H G)
      → Plays disk handler ports s w step said next → PlaysAll disk handler ports s next steps later v → PlaysAll disk handler ports s w (step ∷ steps) (said ++ later) v

-- what contracts see of a player: nothing of the world where a step met no memory
pub record PlayerState : Type 0 where
  pub config : Config
  -- none, where a step met no memory
  pub world : Option (World InMemory Sources (ℕ × ℕ))

-- a player made just these steps, and said this
pub record Ran {D H G : Type 0} (disk : disks.Ghosts D) (handler : handlers.Ghosts H) (ports : generators.Ghosts G) (s : Setting) (old : Option (World D H G)) (steps : List Action) (said : List Said) (new : Option (World D H G)) : Type 0 where
  pub before : World D H G
  pub after : World D H G
  pub old_is : old ≡ Some before
  pub new_is : new ≡ Some after
  pub plays : PlaysAll disk handler ports s before steps said after

-- the life at whose end the player stood went on by these inputs
abbrev pub GoesOn : {D H G : Type 0} → disks.Ghosts D → handlers.Ghosts H → generators.Ghosts G → Form → Setting → Point → Option (World D H G) → List Input → List Said → Option (World D H G) → Type 0
GoesOn {D = D} {H = H} {G = G} disk handler ports form s p old inputs said new =
    (before : World D H G) → old ≡ Some before → Stands disk handler ports form s before p
    → (after : World D H G) × (new ≡ Some after) × Lives disk handler ports form s false p inputs said after

-- why a world has no server that runs
abbrev pub why_none : {D H G : Type 0} → Option (World D H G) → Said
why_none None = Closed
why_none (Some (Down d h g)) = Closed
why_none (Some (Serving server)) = Failed faults.Stopped
