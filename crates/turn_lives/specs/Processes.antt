-- Processes one after another over one disk: each is started, takes turns, and is stopped.
use Rattle.std.specs.Prelude.{◌≡◌, ◌++◌, ℕ, Bool, true, List, [], ◌∷◌, Result, map}
use Rattle.std.specs.List.{AllByRecursion}
use Rattle.turn_cred.specs.declared.handler.AuthHandler as handlers
use Rattle.turn_disk.specs.Prelude.{IsImage}
use Rattle.turn_disk.specs.declared.disk.Disk as disks
use Rattle.turn_engine.specs.Prelude.{Advance, Commits, Commit, Relay, ServerCall, Submit, Taken, ServerState, now_of, IsLeft}
use Rattle.turn_player.specs.Laws.{AreOneRun, IsRunBy, Keeps}
use Rattle.turn_player.specs.Lives as lives
use Rattle.turn_player.specs.Lives.{Input, Lasting, Life, Opened, Point, Said, Shut, sent_by_all, sent_in}
use Rattle.turn_player.specs.Worlds.{Leaves, said_by_commit, said_by_submit}
use Rattle.turn_ports.specs.declared.generator.RelayAddressGenerator as generators
use Rattle.turn_serving.specs.Starts.{KeepsImages, Started}
use Rattle.turn_serving.specs.Turns.{Served}
use Rattle.turn_sockets.specs.Moments.{IsMoment}
use Rattle.turn_sockets.specs.declared.moment.Time as times
use Rattle.turn_step.specs.Prelude.{Setting, Sent}
use Rattle.turn_store.specs.Prelude.{Form, EachImage}
use Rattle.turn_store.specs.declared.error.StoreError.{StoreError}

-- the inputs of calls; an arrival that was answered beside what is staged is of the clock's moment
abbrev pub inputs_of : {D H G : Type 0} → List (ServerCall D H G) → List Input
inputs_of [] = []
inputs_of (Submit moment arrival result after ∷ steps) = lives.Arrive moment arrival ∷ inputs_of steps
inputs_of (Commit result after ∷ steps) = lives.Commit ∷ inputs_of steps
inputs_of (Relay arrival sent after ∷ steps) = lives.Relay (now_of after) arrival ∷ inputs_of steps
inputs_of (Advance moment after ∷ steps) = lives.Advance moment ∷ inputs_of steps

-- what calls say
abbrev pub said_of : {D H G : Type 0} → List (ServerCall D H G) → List Said
said_of [] = []
said_of (Submit moment arrival result after ∷ steps) = said_by_submit result ++ said_of steps
said_of (Commit result after ∷ steps) = said_by_commit result ++ said_of steps
said_of (Relay arrival sent after ∷ steps) = lives.handing_beside sent ++ said_of steps
said_of (Advance moment after ∷ steps) = said_of steps

-- where a process is stopped: at rest, or inside a commit that would have ended so
pub data Stopping (D H G : Type 0) : Type 0 where
  AtRest : Stopping D H G
  InCommit : (result : Result (List Sent) StoreError) (new : ServerState D H G) → Stopping D H G

-- the commit is one of this server
abbrev pub IsStopping : {D H G : Type 0} → disks.Ghosts D → ServerState D H G → Stopping D H G → Type 0
IsStopping disk server AtRest = Unit {0}
IsStopping disk server (InCommit result new) = Commits disk server new result

-- the disk whose calls were made until then, or would have been at the end of the commit
abbrev pub last_disk : {D H G : Type 0} → ServerState D H G → Stopping D H G → D
last_disk server AtRest = server.store.disk
last_disk server (InCommit result new) = new.store.disk

-- a content that the stop may leave
abbrev pub MayLeave : {D H G : Type 0} → disks.Ghosts D → ServerState D H G → Stopping D H G → List ℕ → Type 0
MayLeave disk server AtRest image = IsImage (disk.trace server.store.disk).now image
MayLeave disk server (InCommit result new) image = IsLeft (disk.trace server.store.disk) (disk.trace new.store.disk) image

-- What the next process finds: each image of its disk is one that the stop may leave. So what was written and not synced may be found
-- written, and be lost later, or be lost already. Its disk follows the crash model only if the one before it did. It may be a disk of
-- another type.
pub record Follows {D N : Type 0} (disk : disks.Ghosts D) (following : disks.Ghosts N) (last : D) (IsFound : List ℕ → Type 0) (next : N) : Type 0 where
  pub images : EachImage (following.trace next).now IsFound
  pub crash_model : following.follows_crash_model next → disk.follows_crash_model last

-- One process leads from a disk to a disk. It was started, with users who have the keys of its setting, took turns, and was stopped; or
-- its start was refused, or stopped at any moment.
pub data Process {D N H G T : Type 0} (disk : disks.Ghosts D) (following : disks.Ghosts N) (handler : handlers.Ghosts H) (ports : generators.Ghosts G) (time : times.Ghosts T) (s : Setting) : D → List Input → List Said → N → Type 0 where
  -- the start opened the store and had its sockets
  serves : {old : D} {new : N} {server after : ServerState D H G} (users : H) (system : T) (stop : Stopping D H G) → handler.key_of users ≡ s.keys
      → Started disk handler ports old s.config users s.range server → (turns : Served disk handler ports (IsMoment (time.told system)) server after)
      → IsStopping disk after stop → Follows disk following (last_disk after stop) (MayLeave disk after stop) new
      → Process disk following handler ports time s old (lives.Open ∷ (inputs_of turns.steps ++ lives.Stop ∷ [])) (Opened (now_of server) ∷ said_of turns.steps) new
  -- the start was refused, or stopped
  starts_no_server : {old last : D} {new : N} → KeepsImages disk old last → Follows disk following last (IsLeft (disk.trace old) (disk.trace last)) new
      → Process disk following handler ports time s old (lives.Stop ∷ []) [] new

-- of a process: its setting, what it was asked, and what it said
pub record Part : Type 0 where
  -- configuration, keys and range of relay ports
  pub setting : Setting
  pub inputs : List Input
  pub said : List Said

-- the settings of processes, one after another
abbrev pub settings_of : List Part → List Setting
settings_of parts = map (λ (part : Part). part.setting) parts

-- what processes were asked, one after another
abbrev pub inputs_of_all : List Part → List Input
inputs_of_all [] = []
inputs_of_all (part ∷ parts) = part.inputs ++ inputs_of_all parts

-- what processes said, one after another
abbrev pub said_of_all : List Part → List Said
said_of_all [] = []
said_of_all (part ∷ parts) = part.said ++ said_of_all parts

-- each process has the limits that the store was formatted with
abbrev pub HaveLimits : Form → List Part → Type 0
HaveLimits form parts = AllByRecursion (λ (part : Part). form.bounds ≡ part.setting.config.limits) parts

-- Any number of processes, each with a setting of its own. What a process finds is a disk of a family: of files, by the state in which each
-- was found when it was opened.
pub data Processes {I D H G T : Type 0} (disk_of : I → disks.Ghosts D) (handler : handlers.Ghosts H) (ports : generators.Ghosts G) (time : times.Ghosts T) : I → D → List Part → I → D → Type 0 where
  none : {i : I} {d : D} → Processes disk_of handler ports time i d [] i d
  then : {i k : I} {old new : D} {parts : List Part} (part : Part) (j : I) (next : D)
      → Process (disk_of i) (disk_of j) handler ports time part.setting old part.inputs part.said next
      → Processes disk_of handler ports time j next parts k new → Processes disk_of handler ports time i old (part ∷ parts) k new

-- a process started a server, and that reserves ports
abbrev pub IsReserving : {D N H G T : Type 0} {disk : disks.Ghosts D} {following : disks.Ghosts N} {handler : handlers.Ghosts H} {ports : generators.Ghosts G} {time : times.Ghosts T} {s : Setting} {old : D} {inputs : List Input} {said : List Said} {new : N}
    → Process disk following handler ports time s old inputs said new → Type 0
IsReserving (serves {server = server} users system stop keys begun turns stopping next) = server.machine.pairs ≡ true
IsReserving (starts_no_server kept next) = ⊥

-- the server of a process reserves ports, if it started one
abbrev pub ReservesIfServing : {D N H G T : Type 0} {disk : disks.Ghosts D} {following : disks.Ghosts N} {handler : handlers.Ghosts H} {ports : generators.Ghosts G} {time : times.Ghosts T} {s : Setting} {old : D} {inputs : List Input} {said : List Said} {new : N}
    → Process disk following handler ports time s old inputs said new → Type 0
ReservesIfServing (serves {server = server} users system stop keys begun turns stopping next) = server.machine.pairs ≡ true
ReservesIfServing (starts_no_server kept next) = Unit {0}

-- so do all of these
abbrev pub AllReserve : {I D H G T : Type 0} {disk_of : I → disks.Ghosts D} {handler : handlers.Ghosts H} {ports : generators.Ghosts G} {time : times.Ghosts T} {i k : I} {old new : D} {parts : List Part}
    → Processes disk_of handler ports time i old parts k new → Type 0
AllReserve none = Unit {0}
AllReserve (then part j next one rest) = ReservesIfServing one × AllReserve rest

-- lives one after another, each by the setting of its process, and at the end of each all is shut
pub data AreLives (may_fail : Bool) : Point → List Part → Point → Type 0 where
  none : {p : Point} → AreLives may_fail p [] p
  then : {p q : Point} {parts : List Part} (part : Part) (sure : List Lasting) (recent : List Taken) (bound : ℕ)
      → Life part.setting may_fail p part.inputs part.said (Shut sure recent bound) → AreLives may_fail (Shut sure recent bound) parts q → AreLives may_fail p (part ∷ parts) q

-- Processes led from a point of a life at which all is shut to another. What lasted still lasts, with all that they handed out, in order,
-- and each image of the disk has what lasts.
pub record LiveOn {D : Type 0} (disk : disks.Ghosts D) (form : Form) (may_fail : Bool) (sure : List Lasting) (recent : List Taken) (m : ℕ) (parts : List Part) (new : D) : Type 0 where
  -- the arrivals that last at the point
  pub lasting : List Lasting
  -- those that may get lost
  pub unsettled : List Taken
  -- a moment that none that was handed in is after
  pub bound : ℕ
  pub lives : AreLives may_fail (Shut sure recent m) parts (Shut lasting unsettled bound)
  pub keeps : Keeps (Shut sure recent m) (Shut lasting unsettled bound)
  pub handed_out : sent_by_all lasting ≡ sent_by_all sure ++ sent_in (said_of_all parts)
  pub leaves : Leaves disk form new lasting unsettled bound

-- Processes lived on from a formatted disk, and all arrivals that aren't lost are one run, each answered by the setting of a process, in
-- their order.
pub record AreOneRunOn {D : Type 0} (disk : disks.Ghosts D) (form : Form) (may_fail : Bool) (parts : List Part) (new : D) : Type 0 where
  pub on : LiveOn disk form may_fail [] [] 0 parts new
  pub one : AreOneRun (IsRunBy (settings_of parts) [] 0) may_fail (sent_in (said_of_all parts)) (Shut on.lasting on.unsettled on.bound)
