-- Calls of a server over a disk, one after another, with stops and openings between and inside them, and where they stand in a
-- life.
use Rattle.std.specs.Prelude.{◌≡◌, ◌≤◌, ◌++◌, ℕ, Bool, List, [], ◌∷◌, Option, Result, Ok, Err, false, true, length, map, max}
use Rattle.std.specs.List.{AllByRecursion}
use Rattle.turn_cred.specs.declared.handler.AuthHandler as handlers
use Rattle.turn_disk.specs.Prelude.{IsImage, IsSettled}
use Rattle.turn_disk.specs.declared.disk.Disk as disks
use Rattle.turn_engine.specs.Prelude.{Advances, Commits, Opening, Submits, AtLeast, RecoversTo, Relays, beside, Taken, accepted, sent_about, ServerState, now_of, IsLeft}
use Rattle.turn_engine.specs.declared.error.ServerOpenError.{ServerOpenError}
use Rattle.turn_engine.specs.declared.error.SubmitError.{SubmitError}
use Rattle.turn_ports.specs.declared.generator.RelayAddressGenerator as generators
use Rattle.turn_step.specs.Prelude.{Setting, Arrives, Sent, setting_of}
use Rattle.turn_store.specs.Prelude.{Form, EachImage, form_of}
use Rattle.turn_store.specs.declared.error.StoreError.{StoreError}
use Rattle.turn_player.specs.Lives.{Advance, Arrive, Closed, Commit, Failed, Halted, Input, Lasting, Life, NotOpened, Open, Opened, Point, Refused, Relay, Running, Said, Shut, Stop, arrivals, handing_beside, handing_out, taken_of}

-- ---- Worlds

-- a server with an open store, or a disk alone, with the handler and the generator for the next opening
pub data World (D H G : Type 0) : Type 0 where
  Serving : ServerState D H G → World D H G
  Down : (disk : D) (handler : H) (ports : G) → World D H G

-- the disk of a world
abbrev pub disk_of : {D H G : Type 0} → World D H G → D
disk_of (Serving server) = server.store.disk
disk_of (Down disk handler ports) = disk

-- the handler of the server, or for the next opening
abbrev pub handler_of : {D H G : Type 0} → World D H G → H
handler_of (Serving server) = server.machine.handler
handler_of (Down disk handler ports) = handler

-- the generator of the server, or for the next opening
abbrev pub ports_of : {D H G : Type 0} → World D H G → G
ports_of (Serving server) = server.machine.ports
ports_of (Down disk handler ports) = ports

-- what is said of a submit: nothing if the arrival was taken
abbrev pub said_by_submit : Result Unit SubmitError → List Said
said_by_submit (Ok done) = []
said_by_submit (Err why) = Refused why ∷ []

-- what is said of a commit
abbrev pub said_by_commit : Result (List Sent) StoreError → List Said
said_by_commit (Ok outs) = handing_out outs
said_by_commit (Err why) = Failed why ∷ []

-- what is said of an opening
abbrev pub said_by_open : {D H G : Type 0} → Result (ServerState D H G) (ServerOpenError D H G) → List Said
said_by_open (Ok server) = Opened (now_of server) ∷ []
said_by_open (Err refused) = NotOpened refused.fault ∷ []

-- the world after an opening: a server, or what the refusal returned
abbrev pub world_after : {D H G : Type 0} → Result (ServerState D H G) (ServerOpenError D H G) → World D H G
world_after (Ok server) = Serving server
world_after (Err refused) = Down refused.disk refused.handler refused.ports

-- ---- Calls

-- What the next opening finds after a stop: the disk has this content and nothing is pending, and it follows the crash model only if the
-- disk of the call that was stopped is, once that has ended. The handler has the same keys, and the generator the same range.
pub record Restarts {D H G : Type 0} (disk : disks.Ghosts D) (handler : handlers.Ghosts H) (ports : generators.Ghosts G) (old : World D H G) (last : D) (image : List ℕ) (d : D) (h : H) (g : G) : Type 0 where
  pub bytes : (disk.trace d).now.bytes ≡ image
  pub settled : IsSettled (disk.trace d).now
  pub crash_model : disk.follows_crash_model d → disk.follows_crash_model last
  pub keys : handler.key_of h ≡ handler.key_of (handler_of old)
  pub range : ports.range g ≡ ports.range (ports_of old)

-- One call that does what its contract says, or a stop: at rest, inside a commit or inside an opening, at any image.
pub data Call {D H G : Type 0} (disk : disks.Ghosts D) (handler : handlers.Ghosts H) (ports : generators.Ghosts G) (s : Setting) : World D H G → Input → List Said → World D H G → Type 0 where
  submits : {old new : ServerState D H G} {t : ℕ} {a : Arrives} (result : Result Unit SubmitError) → Submits disk handler ports old new (max t (now_of old)) a result
      → Call disk handler ports s (Serving old) (Arrive t a) (said_by_submit result) (Serving new)
  no_submit : {d : D} {h : H} {g : G} {t : ℕ} {a : Arrives} → Call disk handler ports s (Down d h g) (Arrive t a) (Closed ∷ []) (Down d h g)
  commits : {old new : ServerState D H G} (result : Result (List Sent) StoreError) → Commits disk old new result
      → Call disk handler ports s (Serving old) Commit (said_by_commit result) (Serving new)
  advances : {old new : ServerState D H G} {t : ℕ} → Advances disk ports old new (max t (now_of old)) → Call disk handler ports s (Serving old) (Advance t) [] (Serving new)
  -- of an arrival whose moment isn't after the clock
  relays : {old new : ServerState D H G} {t : ℕ} {a : Arrives} (sent : Option Sent) → t ≤ now_of old → old.store.stopped ≡ false
      → Relays handler.key_of ports.range (beside old) a sent → new ≡ old
      → Call disk handler ports s (Serving old) (Relay t a) (handing_beside sent) (Serving new)
  no_commit : {d : D} {h : H} {g : G} → Call disk handler ports s (Down d h g) Commit (Closed ∷ []) (Down d h g)
  opens : {w : World D H G} (result : Result (ServerState D H G) (ServerOpenError D H G)) → Opening disk (disk_of w) s.config (handler_of w) (ports_of w) result
      → Call disk handler ports s w Open (said_by_open result) (world_after result)
  -- at rest
  stops : {w : World D H G} {d : D} {h : H} {g : G} (image : List ℕ) → IsImage (disk.trace (disk_of w)).now image → Restarts disk handler ports w (disk_of w) image d h g
      → Call disk handler ports s w Stop [] (Down d h g)
  -- inside a commit
  commit_stops : {old new : ServerState D H G} {d : D} {h : H} {g : G} (result : Result (List Sent) StoreError) → Commits disk old new result
      → (image : List ℕ) → IsLeft (disk.trace old.store.disk) (disk.trace new.store.disk) image → Restarts disk handler ports (Serving old) new.store.disk image d h g
      → Call disk handler ports s (Serving old) Stop [] (Down d h g)
  -- inside an opening
  open_stops : {w : World D H G} {d : D} {h : H} {g : G} (result : Result (ServerState D H G) (ServerOpenError D H G)) → Opening disk (disk_of w) s.config (handler_of w) (ports_of w) result
      → (image : List ℕ) → IsLeft (disk.trace (disk_of w)) (disk.trace (disk_of (world_after result))) image → Restarts disk handler ports w (disk_of (world_after result)) image d h g
      → Call disk handler ports s w Stop [] (Down d h g)

-- calls and stops, one after another
pub data Calls {D H G : Type 0} (disk : disks.Ghosts D) (handler : handlers.Ghosts H) (ports : generators.Ghosts G) (s : Setting) : World D H G → List Input → List Said → World D H G → Type 0 where
  done : {w : World D H G} → Calls disk handler ports s w [] [] w
  then : {w v : World D H G} {input : Input} {inputs : List Input} {said later : List Said} (next : World D H G)
      → Call disk handler ports s w input said next → Calls disk handler ports s next inputs later v → Calls disk handler ports s w (input ∷ inputs) (said ++ later) v

-- ---- Where a world stands in a life

-- each image of the disk has at least what lasts
pub record Leaves {D : Type 0} (disk : disks.Ghosts D) (form : Form) (d : D) (sure : List Lasting) (recent : List Taken) (m : ℕ) : Type 0 where
  pub crash_model : disk.follows_crash_model d
  pub images : EachImage (disk.trace d).now (AtLeast form (accepted (arrivals sure recent)) (length (accepted (map taken_of sure))) m)

-- a server that runs recovers to all that was taken, of which what lasts is stored
pub record Runs {D H G : Type 0} (disk : disks.Ghosts D) (handler : handlers.Ghosts H) (ports : generators.Ghosts G) (form : Form) (s : Setting) (server : ServerState D H G) (sure : List Lasting) (recent : List Taken) (pairs : Bool) (c m : ℕ) : Type 0 where
  pub crash_model : disk.follows_crash_model server.store.disk
  pub same_setting : setting_of handler.key_of ports.range server.machine ≡ record s { pairs = pairs }
  pub same_form : form_of server.store ≡ form
  pub recovers : RecoversTo (disk.trace server.store.disk).now server (accepted (arrivals sure recent)) (length (accepted (map taken_of sure)))
  pub outs : server.outs ≡ sent_about recent
  pub counted : server.arrivals ≡ length recent
  pub since : AllByRecursion (λ (x : Taken). server.since ≤ x.moment) recent
  pub late : AllByRecursion (λ (x : Taken). x.moment ≤ c) recent
  pub clock : now_of server ≡ c
  pub bounded : c ≤ m

-- a server whose store is stopped: each image of its disk has at least what lasts
pub record IsHalted {D H G : Type 0} (disk : disks.Ghosts D) (handler : handlers.Ghosts H) (ports : generators.Ghosts G) (form : Form) (s : Setting) (server : ServerState D H G) (sure : List Lasting) (recent : List Taken) (m : ℕ) : Type 0 where
  pub stopped : server.store.stopped ≡ true
  pub same_setting : setting_of handler.key_of ports.range server.machine ≡ record s { pairs = server.machine.pairs }
  pub leaves : Leaves disk form server.store.disk sure recent m

-- no server: keys and range are those of the setting, and each image of the disk has at least what lasts
pub record IsDown {D H G : Type 0} (disk : disks.Ghosts D) (handler : handlers.Ghosts H) (ports : generators.Ghosts G) (form : Form) (s : Setting) (d : D) (h : H) (g : G) (sure : List Lasting) (recent : List Taken) (m : ℕ) : Type 0 where
  pub keys : handler.key_of h ≡ s.keys
  pub range : ports.range g ≡ s.range
  pub leaves : Leaves disk form d sure recent m

-- a world stands at a point: a server that runs recovers to all that was taken, of which what lasts is stored; else each image
-- of the disk has at least what lasts
abbrev pub Stands : {D H G : Type 0} → disks.Ghosts D → handlers.Ghosts H → generators.Ghosts G → Form → Setting → World D H G → Point → Type 0
Stands disk handler ports form s (Serving server) (Running sure recent pairs c m) = Runs disk handler ports form s server sure recent pairs c m
Stands disk handler ports form s (Serving server) (Halted sure recent m) = IsHalted disk handler ports form s server sure recent m
Stands disk handler ports form s (Serving server) (Shut sure recent m) = ⊥
Stands disk handler ports form s (Down d h g) (Running sure recent pairs c m) = ⊥
Stands disk handler ports form s (Down d h g) (Halted sure recent m) = ⊥
Stands disk handler ports form s (Down d h g) (Shut sure recent m) = IsDown disk handler ports form s d h g sure recent m

-- calls made a life, at whose end the world stands
pub record Lives {D H G : Type 0} (disk : disks.Ghosts D) (handler : handlers.Ghosts H) (ports : generators.Ghosts G) (form : Form) (s : Setting) (may_fail : Bool) (p : Point) (inputs : List Input) (said : List Said) (w : World D H G) : Type 0 where
  pub end : Point
  pub life : Life s may_fail p inputs said end
  pub stands : Stands disk handler ports form s w end
