-- What a start makes of a disk.
use Rattle.std.proofs.Common.{◌≡◌, ℕ, Bool, true, false, List, Result, Ok, Err, take, refl, sym, ap, ◌∙◌, subst}
use Rattle.turn_cred.specs.declared.handler.AuthHandler as handlers
use Rattle.turn_disk.specs.declared.disk.Disk as disks
use Rattle.turn_disk.proofs.Since.{since_same}
use Rattle.turn_engine.specs.Prelude.{Opening, AtLeast, IsAtPlace, start, ServerState, now_of}
use Rattle.turn_engine.specs.declared.error.ServerOpenError.{ServerOpenError}
use Rattle.turn_engine.proofs.Opened.{sound_of, stop_of, stop_version_of}
use Rattle.turn_engine.proofs.Runs.{opened}
use Rattle.turn_history.specs.Prelude.{History, Bounds}
use Rattle.turn_ports.specs.declared.generator.RelayAddressGenerator as generators
use Rattle.turn_store.specs.Prelude.{Version, V1, Form, Carries, EachImage, disk_of, StoreState}
use Rattle.turn_step.specs.Prelude.{Setting, setting_of}
use Rattle.turn_store.specs.Opening as stores
use Rattle.turn_store.specs.declared.error.OpenError.{OpenError}
use Rattle.turn_store.specs.declared.store.Opened.{Opened}
use Rattle.turn_store.specs.declared.store.StoreOpenError.{StoreOpenError}
use Rattle.turn_types.specs.Prelude.{Config}
use Rattle.turn_serving.specs.Starts.{BeginsRun, IfOfStore, IsKept, IsOfVersion, IsRefusedFor, KeepsImages, Started, of_bind}
use Rattle.turn_serving.specs.declared.error.BindError.{BindError}
use Rattle.turn_serving.specs.declared.error.BindError.TheVariants as binds
use Rattle.turn_serving.specs.declared.error.StartError.{StartError}

-- ---- What an opening leaves of its disk

pub refused_images : {D H G : Type 0} (disk : disks.Ghosts D) {old : D} {config : Config} {users : H} {ports : G} {refused : ServerOpenError D H G} → Opening disk old config users ports (Err refused)
    → KeepsImages disk old refused.disk
refused_images disk call = record { crash_model = call.uses.crash_model; stop = call.stop; stop_version = call.stop_version }

-- a start without its sockets was not refused by its store
not_of_store : (fault : BindError) (P : OpenError → Type 0) → IfOfStore (of_bind fault) P
not_of_store (binds.Socket missing) P = tt
not_of_store binds.Memory P = tt

pub told_by_sockets : {fault : StartError} (why : BindError) (P : OpenError → Type 0) → fault ≡ of_bind why → IfOfStore fault P
told_by_sockets {fault = fault} why P is = subst (λ (f : StartError). IfOfStore f P) (sym is) (not_of_store why P)

-- why an opening was refused
pub refused_for : {D H G : Type 0} (disk : disks.Ghosts D) {old : D} {config : Config} {users : H} {ports : G} {refused : ServerOpenError D H G} → Opening disk old config users ports (Err refused)
    → IsRefusedFor disk old refused.disk config.limits refused.fault
refused_for disk call = record { why = call.why; sound = call.sound }

-- the same of an opening of a store
pub store_images : {D A : Type 0} (disk : disks.Ghosts D) {old : D} {limits : Bounds} {carry : Bool} {result : Result (Opened D A) (StoreOpenError D)} → stores.Opening disk old limits carry result
    → KeepsImages disk old (disk_of result)
store_images disk is = record { crash_model = is.uses.crash_model; stop = stop_of disk _ _ _ _ is; stop_version = stop_version_of disk _ _ _ _ is }

pub store_refused : {D A : Type 0} (disk : disks.Ghosts D) {old : D} {limits : Bounds} {carry : Bool} {refused : StoreOpenError D} → stores.Opening {A = A} disk old limits carry (Err refused)
    → IsRefusedFor disk old refused.disk limits refused.fault
store_refused disk is = record { why = is.why; sound = sound_of disk _ _ _ _ is }

-- no call
pub untouched : {D : Type 0} (disk : disks.Ghosts D) (old : D) → IsKept disk old old
untouched disk old = record {
  images = record { crash_model = λ crash_model. crash_model; stop = λ crash_model form h k m images. since_same _ _ _ refl images; stop_version = λ crash_model form images. since_same _ _ _ refl images };
  content = λ crash_model. refl;
}

-- ---- A start

-- what counts in the content is of the version of a store that was opened over it
pub version_read : {D : Type 0} (content : List ℕ) (store : StoreState D) → Carries false content store → IsOfVersion store.version content
version_read content store carries =
    let counted : IsOfVersion carries.version content = record { size = store.area.size; bounds = store.bounds; generation = carries.generation; frames = carries.frames; counts = carries.counts } in
    subst (λ (v : Version). IsOfVersion v content) (sym (carries.kept (λ is. let asked = is.asked in cc)).0) counted

-- a store that isn't of version 1 keeps its content, also where it is to be carried over
pub not_carried : {D A : Type 0} (disk : disks.Ghosts D) {old : D} {limits : Bounds} (opened : Opened D A) → stores.Opening disk old limits false (Ok opened) → (result : Result (Opened D A) (StoreOpenError D))
    → ((opened.store.version ≡ V1 → ⊥) → result ≡ Ok opened) → (disk.follows_crash_model (disk_of result) → disk.follows_crash_model opened.store.disk)
    → disk.follows_crash_model (disk_of result) → (IsOfVersion V1 (disk.trace old).now.bytes → ⊥) → (disk.trace (disk_of result)).now.bytes ≡ (disk.trace old).now.bytes
not_carried disk {old = old} opened is result kept earlier crash_model later =
    let before = earlier crash_model in
    let content = (disk.trace old).now.bytes in
    let other : opened.store.version ≡ V1 → ⊥ = λ first. later (subst (λ (v : Version). IsOfVersion v content) first (version_read content opened.store (is.carried before))) in
    ap (λ r. (disk.trace (disk_of r)).now.bytes) (kept other) ∙ is.same refl before

pub started : {D H G : Type 0} (disk : disks.Ghosts D) (handler : handlers.Ghosts H) (generator : generators.Ghosts G) (old : D) (config : Config) (users : H) (ports : G) (range : ℕ × ℕ) (server : ServerState D H G)
    → generator.range ports ≡ range → Opening disk old config users ports (Ok server) → (disk.follows_crash_model server.store.disk → Carries true (disk.trace old).now.bytes server.store)
    → Started disk handler generator old config users range server
started disk handler generator old config users ports range server in_range call carried =
    record {
      setting = ap (setting_of handler.key_of generator.range) call.machine
          ∙ ap (λ (r : ℕ × ℕ). record { config = config; keys = handler.key_of users; range = r; pairs = server.machine.pairs }) in_range;
      pairs = call.pairs;
      carried = carried;
      nothing = call.nothing;
      runs = call.runs;
      crash_model = call.uses.crash_model;
      recovers = call.recovers;
      generator = ports;
      in_range = in_range;
      opening = call;
    }

pub started_as : {D H G : Type 0} {disk : disks.Ghosts D} {handler : handlers.Ghosts H} {generator : generators.Ghosts G} {old : D} {config : Config} {users : H} {range : ℕ × ℕ} {server result : ServerState D H G}
    → result ≡ server → Started disk handler generator old config users range server → Started disk handler generator old config users range result
started_as {disk = disk} {handler = handler} {generator = generator} {old = old} {config = config} {users = users} {range = range} same is = subst (λ s. Started disk handler generator old config users range s) (sym same) is

pub begins : {D H G : Type 0} (disk : disks.Ghosts D) (handler : handlers.Ghosts H) (ports : generators.Ghosts G) (old : D) (config : Config) (users : H) (range : ℕ × ℕ) (server : ServerState D H G) (form : Form) (h : History) (k m : ℕ)
    → Started disk handler ports old config users range server → disk.follows_crash_model server.store.disk → form.bounds ≡ config.limits → EachImage (disk.trace old).now (AtLeast form h k m)
    → BeginsRun disk handler ports (record { config = config; keys = handler.key_of users; range = range; pairs = server.machine.pairs }) h k server
begins disk handler ports old config users range server form h k m begun crash_model bounds images =
    let o = begun.recovers crash_model form h k m bounds images in
    record {
      count = o.count;
      no_less = o.no_less;
      no_more = o.no_more;
      is_at = subst (λ (s : Setting). IsAtPlace disk handler ports s (take o.count h) (now_of server) server start) begun.setting
          (opened disk handler ports form h k m (disk.trace old).now.bytes server crash_model o (ap (λ s. s.outs) begun.nothing) (ap (λ s. s.arrivals) begun.nothing));
    }
