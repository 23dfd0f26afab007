-- What a start makes of a disk.
use Rattle.std.specs.Prelude.{◌≡◌, ◌≤◌, ◌&&◌, ◌||◌, ℕ, Bool, List, Ok, false, true, is_some, length, take}
use Rattle.std.specs.BTreeMap.{BTreeMap, get}
use Rattle.std.specs.FinMap as fin
use Rattle.std.specs.List.{list_all}
use Rattle.std.specs.Ordering.{nat_cmp}
use Rattle.turn_cred.specs.declared.handler.AuthHandler as handlers
use Rattle.turn_disk.specs.Prelude.{EachImageSince}
use Rattle.turn_disk.specs.declared.disk.Disk as disks
use Rattle.turn_engine.specs.Prelude.{Opening, AtLeast, Opens, IsAtPlace, start, ServerState, emptied, has_pairs, now_of}
use Rattle.turn_history.specs.Prelude.{History, Contents, Endpoint, Bounds}
use Rattle.turn_ports.specs.declared.generator.RelayAddressGenerator as generators
use Rattle.turn_store.specs.Prelude.{Version, V2, Form, Carries, IsActiveAs, EachImage, IsInVersion, IsPlain, WhyRefused}
use Rattle.turn_step.specs.Prelude.{Setting, setting_of}
use Rattle.turn_store.specs.declared.error.OpenError.{OpenError}
use Rattle.turn_types.specs.Prelude.{Config}
use Rattle.turn_serving.specs.declared.error.BindError.{BindError}
use Rattle.turn_serving.specs.declared.error.BindError.TheVariants as binds
use Rattle.turn_serving.specs.declared.error.StartError.{StartError}
use Rattle.turn_serving.specs.declared.error.StartError.TheVariants as faults

-- Calls led from one state of a disk to another: where each image at first represented the first events of a history, at least k of
-- them, each image at each moment since does.
pub record KeepsImages {D : Type 0} (disk : disks.Ghosts D) (old new : D) : Type 0 where
  pub crash_model : disk.follows_crash_model new → disk.follows_crash_model old
  pub stop : disk.follows_crash_model new → (form : Form) (h : History) (k m : ℕ) → EachImage (disk.trace old).now (AtLeast form h k m)
      → EachImageSince (disk.trace old) (disk.trace new) (AtLeast form h k m)
  -- and where each was of version 2, each is
  pub stop_version : disk.follows_crash_model new → (form : Form) → EachImage (disk.trace old).now (IsInVersion V2 form)
      → EachImageSince (disk.trace old) (disk.trace new) (IsInVersion V2 form)

-- such calls led from one state of a disk to another, and the content is the same
pub record IsKept {D : Type 0} (disk : disks.Ghosts D) (old new : D) : Type 0 where
  pub images : KeepsImages disk old new
  pub content : disk.follows_crash_model new → (disk.trace new).now.bytes ≡ (disk.trace old).now.bytes

-- what counts in a content is of this version
pub record IsOfVersion (v : Version) (content : List ℕ) : Type 0 where
  pub size : ℕ
  pub bounds : Bounds
  pub generation : ℕ
  pub frames : ℕ
  pub counts : IsActiveAs size bounds v generation frames content

-- a start with this fault didn't come to where it carries its store over
abbrev pub IsBeforeCarrying : StartError → Type 0
IsBeforeCarrying (faults.Store fault) = Unit {0}
IsBeforeCarrying (faults.Socket missing) = Unit {0}
IsBeforeCarrying faults.Memory = Unit {0}
IsBeforeCarrying (faults.Carry fault) = ⊥

-- what a start tells where it has not its sockets
abbrev pub of_bind : BindError → StartError
of_bind (binds.Socket missing) = faults.Socket missing
of_bind binds.Memory = faults.Memory

-- a start was refused by its store, for a fault that has P
abbrev pub IfOfStore : StartError → (OpenError → Type 0) → Type 0
IfOfStore (faults.Store fault) P = P fault
IfOfStore (faults.Carry fault) P = P fault
IfOfStore (faults.Socket missing) P = Unit {0}
IfOfStore faults.Memory P = Unit {0}

-- An opening was refused for this fault. It is the first reason that applies to the content; where each image represents the first events
-- of a history, at least k of them, it is of the device or of memory.
pub record IsRefusedFor {D : Type 0} (disk : disks.Ghosts D) (old new : D) (limits : Bounds) (fault : OpenError) : Type 0 where
  pub why : disk.follows_crash_model new → WhyRefused limits (disk.trace old).now.bytes fault
  pub sound : disk.follows_crash_model new → (form : Form) (h : History) (k m : ℕ) → form.bounds ≡ limits → EachImage (disk.trace old).now (AtLeast form h k m)
      → IsPlain fault

-- A server was started over a disk: it has this configuration, these keys and this range, and reserves ports where its store's version
-- holds them; the store was carried over to version 2 where it could be, and else is what it was; nothing is staged; and where each
-- image of the disk represents the first events of a history, at least k of them, it recovers to such a part of it.
pub record Started {D H G : Type 0} (disk : disks.Ghosts D) (handler : handlers.Ghosts H) (ports : generators.Ghosts G) (old : D) (config : Config) (users : H) (range : ℕ × ℕ) (server : ServerState D H G) : Type 0 where
  pub setting : setting_of handler.key_of ports.range server.machine ≡ record { config = config; keys = handler.key_of users; range = range; pairs = server.machine.pairs }
  pub pairs : server.machine.pairs ≡ has_pairs server.store.version
  pub carried : disk.follows_crash_model server.store.disk → Carries true (disk.trace old).now.bytes server.store
  pub nothing : server ≡ emptied server server.store
  pub runs : server.store.stopped ≡ false
  pub crash_model : disk.follows_crash_model server.store.disk → disk.follows_crash_model old
  pub recovers : disk.follows_crash_model server.store.disk → (form : Form) (h : History) (k m : ℕ) → form.bounds ≡ config.limits → EachImage (disk.trace old).now (AtLeast form h k m)
      → Opens form h k m (disk.trace old).now.bytes (disk.trace server.store.disk).now server
  -- with the generator that it started with
  pub generator : G
  pub in_range : ports.range generator ≡ range
  pub opening : Opening disk old config users generator (Ok server)

-- exactly those ports have a socket that had one before, and those that pass a test
abbrev pub AreBoundToo : BTreeMap ℕ Endpoint → BTreeMap ℕ Endpoint → (ℕ → Bool) → Type 0
AreBoundToo old new test = (port : ℕ) → is_some (get nat_cmp new port) ≡ is_some (get nat_cmp old port) || test port

-- the port of each allocation in a table passes a test, and each reserved port
abbrev pub have_ports : (ℕ → Bool) → Contents → Bool
have_ports test c = list_all (λ p. test p.1.port) (fin.entries c.entries) && list_all (λ p. test p.0) (fin.entries c.reserved)

-- a server is at the start of a run after the first events of a history, at least k of them
pub record BeginsRun {D H G : Type 0} (disk : disks.Ghosts D) (handler : handlers.Ghosts H) (ports : generators.Ghosts G) (s : Setting) (h : History) (k : ℕ) (server : ServerState D H G) : Type 0 where
  pub count : ℕ
  pub no_less : k ≤ count
  pub no_more : count ≤ length h
  pub is_at : IsAtPlace disk handler ports s (take count h) (now_of server) server start
