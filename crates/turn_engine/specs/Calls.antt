-- What the calls of a server do, as records over what contracts see.
use Rattle.std.specs.Prelude.{◌≡◌, ◌≤◌, ◌↔◌, ◌+◌, ◌-◌, ◌^◌, ℕ, List, Result, Ok, Err, None, IsOk, IfOk, IfErr, IsErrAnd, OnOk, OnErr, true, false, length, take, drop}
use Rattle.turn_cred.specs.declared.handler.AuthHandler as handlers
use Rattle.turn_disk.specs.Prelude.{Uses, EachImageSince}
use Rattle.turn_disk.specs.declared.disk.Disk as disks
use Rattle.turn_history.specs.Prelude.{History}
use Rattle.turn_ports.specs.Ports.{has_failed}
use Rattle.turn_ports.specs.declared.generator.RelayAddressGenerator as generators
use Rattle.turn_store.specs.Prelude.{V2, Form, EachImage, EitherBy, IsInVersion, RepresentsBy, IsOpened, IsPlain, WhyRefused, InStages, CompactsFor, StoreState, form_of, snapshot_of}
use Rattle.turn_step.specs.Prelude.{Arrives, Sent, CountsOne, HoldsPorts, IsPurged, KeepsSetting, setting_of}
use Rattle.turn_types.specs.Prelude.{Config}
use Rattle.turn_store.specs.declared.error.OpenError.TheVariants.{Device}
use Rattle.turn_store.specs.declared.error.StoreError.{StoreError}
use Rattle.turn_store.specs.declared.error.StoreError.TheVariants as faults
use Rattle.turn_engine.specs.Images.{AtLeast}
use Rattle.turn_engine.specs.Recovering.{Opens, RecoversTo, Takes}
use Rattle.turn_engine.specs.State.{ServerState, emptied, has_pairs, limits_of, now_of}
use Rattle.turn_engine.specs.declared.error.ServerOpenError.{ServerOpenError}
use Rattle.turn_engine.specs.declared.error.SubmitError.{SubmitError}
use Rattle.turn_engine.specs.declared.error.SubmitError.TheVariants.{BatchFull, Memory, Stopped}

-- `submit` of an arrival at a moment that isn't before the clock
pub record Submits {D H G : Type 0} (disk : disks.Ghosts D) (handler : handlers.Ghosts H) (ports : generators.Ghosts G) (old new : ServerState D H G) (moment : ℕ) (a : Arrives) (result : Result Unit SubmitError) : Type 0 where
  pub in_time : now_of old ≤ moment
  -- a batch has room for one arrival at least
  pub few : old.arrivals ≤ (limits_of old).acts
  pub room : 1 ≤ (limits_of old).acts
  -- nothing is written, and the setting stays
  pub store : new.store ≡ old.store
  pub setting : KeepsSetting ports.range old.machine new.machine
  -- the generator counts at most one failure
  pub count : CountsOne (ports.failures old.machine.ports) (ports.failures new.machine.ports)
  -- where the generator held the ports of the table and no other, it does so afterwards, whatever the answer
  pub held : HoldsPorts ports.holds old.machine None → HoldsPorts ports.holds new.machine None
  -- the reasons in their order
  pub stopped : (result ≡ Err Stopped) ↔ (old.store.stopped ≡ true)
  pub full : (result ≡ Err BatchFull) ↔ ((old.store.stopped ≡ false) × (old.arrivals ≡ (limits_of old).acts))
  -- what is left of the server at each of them
  pub unchanged : result ≡ Err Stopped → new ≡ old
  pub unchanged_full : result ≡ Err BatchFull → new ≡ old
  pub memory : result ≡ Err Memory → new ≡ record old { machine = new.machine }
  pub memory_clock : result ≡ Err Memory → now_of new ≡ moment
  pub memory_table : result ≡ Err Memory → IsPurged moment old.machine.table new.machine.table
  -- what an arrival that is taken moves
  pub clock : OnOk result (now_of new ≡ moment)
  pub arrivals : OnOk result (new.arrivals ≡ old.arrivals + 1)
  -- the first since the last commit is of this moment
  pub since : OnOk result (old.arrivals ≡ 0 → new.since ≡ moment)
  pub since_kept : OnOk result (1 ≤ old.arrivals → new.since ≡ old.since)
  -- for each history on which the server rests: an arrival that is taken is answered after it, and after a refusal the server recovers to it still
  pub takes : (h : History) (k : ℕ) → RecoversTo (disk.trace old.store.disk).now old h k
      → OnOk result (Takes (setting_of handler.key_of ports.range old.machine) (disk.trace old.store.disk).now old new h k moment
      (has_failed (ports.failures old.machine.ports) (ports.failures new.machine.ports)) a)
  pub recovers : (h : History) (k : ℕ) → RecoversTo (disk.trace old.store.disk).now old h k → OnErr result (RecoversTo (disk.trace old.store.disk).now new h k)

-- `advance` to a moment that isn't before the clock, whether or not the server is stopped
pub record Advances {D H G : Type 0} (disk : disks.Ghosts D) (ports : generators.Ghosts G) (old new : ServerState D H G) (moment : ℕ) : Type 0 where
  pub in_time : now_of old ≤ moment
  -- nothing is written and nothing is staged: the machine alone changes
  pub rest : new ≡ record old { machine = new.machine }
  pub clock : now_of new ≡ moment
  -- what has expired by the moment ends
  pub table : IsPurged moment old.machine.table new.machine.table
  pub setting : KeepsSetting ports.range old.machine new.machine
  pub count : ports.failures new.machine.ports ≡ ports.failures old.machine.ports
  -- where the generator held the ports of the table and no other, it does so afterwards
  pub held : HoldsPorts ports.holds old.machine None → HoldsPorts ports.holds new.machine None
  -- the server recovers to each history as before
  pub recovers : (h : History) (k : ℕ) → RecoversTo (disk.trace old.store.disk).now old h k → RecoversTo (disk.trace old.store.disk).now new h k

-- `commit`, which answers datagrams or a fault
pub record Commits {D H G : Type 0} (disk : disks.Ghosts D) (old new : ServerState D H G) (result : Result (List Sent) StoreError) : Type 0 where
  -- what was staged is handed out, and nothing is staged any longer; a commit that fails changes the store alone
  pub handed : IfOk result (λ outs. outs ≡ old.outs)
  pub ok : OnOk result (new ≡ emptied old new.store)
  pub err : OnErr result (new ≡ record old { store = new.store })
  -- a server stops exactly where a commit fails, and then nothing changes
  pub runs : OnOk result (new.store.stopped ≡ false)
  pub stops : OnErr result (new.store.stopped ≡ true)
  pub stopped : (result ≡ Err faults.Stopped) ↔ (old.store.stopped ≡ true)
  pub unchanged : old.store.stopped ≡ true → new ≡ old
  -- a batch without acts can't fail, and nothing is written
  pub nothing : old.store.stopped ≡ false → old.acts ≡ 0 → IsOk result × (new.store ≡ old.store)
  -- Device comes with one failed call
  pub uses : Uses disk old.store.disk new.store.disk (result ≡ Err faults.Device)
  pub form : form_of new.store ≡ form_of old.store
  pub version : new.store.version ≡ old.store.version
  -- Worn comes without a device call, at the last generation
  pub worn : (result ≡ Err faults.Worn) ↔ ((old.store.stopped ≡ false) × (1 ≤ old.acts) × (old.store.generation ≡ 2 ^ 64 - 1)
      × CompactsFor old.store (length old.payload))
  pub untouched_worn : result ≡ Err faults.Worn → new.store.disk ≡ old.store.disk
  -- for each history on which the server rests: up to some moment of the call a stop leaves what is stored of it, from then on that or
  -- all of it
  pub stages : disk.follows_crash_model new.store.disk → (h : History) (k : ℕ) → RecoversTo (disk.trace old.store.disk).now old h k
      → InStages (disk.trace old.store.disk) (disk.trace new.store.disk) (RepresentsBy (form_of old.store) (take k h) (now_of old))
      (EitherBy (form_of old.store) (take k h) (drop k h) (now_of old))
  -- so it always leaves what is stored, or more
  pub stop : disk.follows_crash_model new.store.disk → (h : History) (k : ℕ) → RecoversTo (disk.trace old.store.disk).now old h k
      → EachImageSince (disk.trace old.store.disk) (disk.trace new.store.disk) (AtLeast (form_of old.store) h k (now_of old))
  -- in the store's version
  pub stop_version : disk.follows_crash_model new.store.disk → (h : History) (k : ℕ) → RecoversTo (disk.trace old.store.disk).now old h k
      → EachImageSince (disk.trace old.store.disk) (disk.trace new.store.disk) (IsInVersion old.store.version (form_of old.store))
  -- at Ok all of it is stored
  pub recovers : disk.follows_crash_model new.store.disk → (h : History) (k : ℕ) → RecoversTo (disk.trace old.store.disk).now old h k
      → OnOk result (RecoversTo (disk.trace new.store.disk).now new h (length h))

-- the server after a commit over this store: with nothing staged if it succeeded, else as it was
abbrev pub committed : {D H G T : Type 0} → ServerState D H G → StoreState D → Result T StoreError → ServerState D H G
committed s store (Ok done) = emptied s store
committed s store (Err fault) = record s { store = store }

-- the disk after an opening: the server's, or the one that was returned
abbrev pub disk_after : {D H G : Type 0} → Result (ServerState D H G) (ServerOpenError D H G) → D
disk_after (Ok server) = server.store.disk
disk_after (Err refused) = refused.disk

-- `open` or `open_as` of a disk, with a configuration, a handler and a generator, which answers a server, or a fault with the disk, the handler
-- and the generator
pub record Opening {D H G : Type 0} (disk : disks.Ghosts D) (old : D) (config : Config) (handler : H) (ports : G) (result : Result (ServerState D H G) (ServerOpenError D H G)) : Type 0 where
  -- the server is of what it was given, reserves ports exactly where its store is of version 2, and has nothing staged
  pub machine : IfOk result (λ s. s.machine ≡ record { config = config; handler = handler; ports = ports; table = s.machine.table; pairs = s.machine.pairs })
  pub pairs : IfOk result (λ s. s.machine.pairs ≡ has_pairs s.store.version)
  pub nothing : IfOk result (λ s. s ≡ emptied s s.store)
  pub runs : IfOk result (λ s. s.store.stopped ≡ false)
  -- a refusal returns the handler and the generator
  pub returned : IfErr result (λ r. (r.handler ≡ handler) × (r.ports ≡ ports))
  -- Device comes with one failed call
  pub uses : Uses disk old (disk_after result) (IsErrAnd result (λ r. r.fault ≡ Device))
  -- what the store holds, and the reason of each refusal: the first that applies
  pub opened : IfOk result (λ s. disk.follows_crash_model s.store.disk → IsOpened s.store (disk.trace s.store.disk).now (snapshot_of s.machine.table))
  pub why : IfErr result (λ r. disk.follows_crash_model r.disk → WhyRefused config.limits (disk.trace old).now.bytes r.fault)
  -- where each image of the disk represents the first events of a history, at least k of them, the server recovers to such a part of it
  pub recovers : IfOk result (λ s. disk.follows_crash_model s.store.disk → (form : Form) (h : History) (k m : ℕ) → form.bounds ≡ config.limits
      → EachImage (disk.trace old).now (AtLeast form h k m) → Opens form h k m (disk.trace old).now.bytes (disk.trace s.store.disk).now s)
  -- a refusal is then of the device or of memory
  pub sound : IfErr result (λ r. disk.follows_crash_model r.disk → (form : Form) (h : History) (k m : ℕ) → form.bounds ≡ config.limits
      → EachImage (disk.trace old).now (AtLeast form h k m) → IsPlain r.fault)
  -- and a stop leaves such images
  pub stop : disk.follows_crash_model (disk_after result) → (form : Form) (h : History) (k m : ℕ) → EachImage (disk.trace old).now (AtLeast form h k m)
      → EachImageSince (disk.trace old) (disk.trace (disk_after result)) (AtLeast form h k m)
  -- where each image of the disk is of version 2, so is the store, and each image that a stop leaves
  pub version : IfOk result (λ s. disk.follows_crash_model s.store.disk → (form : Form) → EachImage (disk.trace old).now (IsInVersion V2 form) → s.store.version ≡ V2)
  pub stop_version : disk.follows_crash_model (disk_after result) → (form : Form) → EachImage (disk.trace old).now (IsInVersion V2 form)
      → EachImageSince (disk.trace old) (disk.trace (disk_after result)) (IsInVersion V2 form)
