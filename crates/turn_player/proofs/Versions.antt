-- A server that reserves ports is followed by such servers.
use Rattle.std.proofs.Common.{◌≡◌, ℕ, Bool, true, List, [], ◌∷◌, ◌++◌, length, map, Result, Ok, Err, sym, ap, ◌∙◌, subst}
use Rattle.turn_cred.specs.declared.handler.AuthHandler as handlers
use Rattle.turn_disk.specs.Prelude.{EachImageSince}
use Rattle.turn_disk.specs.declared.disk.Disk as disks
use Rattle.turn_disk.proofs.Since.{since_same}
use Rattle.turn_engine.specs.Prelude.{Commits, Opening, Taken, accepted, ServerState, has_pairs}
use Rattle.turn_engine.specs.declared.error.ServerOpenError.{ServerOpenError}
use Rattle.turn_engine.proofs.Stops.{left_alone, left_has}
use Rattle.turn_ports.specs.declared.generator.RelayAddressGenerator as generators
use Rattle.turn_store.specs.Prelude.{Version, V2, Form, EachImage, IsInVersion, StoreState, form_of}
use Rattle.turn_step.specs.Prelude.{Setting, Sent}
use Rattle.turn_store.specs.declared.error.StoreError.{StoreError}
use Rattle.turn_store.proofs.Versions.{shown_in}
use Rattle.turn_player.specs.Lives.{Halted, Input, Lasting, Point, Running, Said, Shut, arrivals, taken_of}
use Rattle.turn_player.specs.Versions.{Reserves, ReservesPorts}
use Rattle.turn_player.specs.Worlds.{Call, Calls, Down, Runs, Serving, Stands, World, disk_of, handler_of, ports_of, world_after}
use Rattle.turn_player.specs.Worlds as worlds
use Rattle.turn_player.proofs.Worlds.{calls_make_lives, earlier}

module _ {D H G : Type 0} (disk : disks.Ghosts D) (handler : handlers.Ghosts H) (ports : generators.Ghosts G) (form : Form) (s : Setting) where
  abbrev IsSecond : List ℕ → Type 0
  IsSecond image = IsInVersion V2 form image

  pub running_in : (server : ServerState D H G) (sure : List Lasting) (recent : List Taken) (pairs : Bool) (c m : ℕ) → Runs disk handler ports form s server sure recent pairs c m
      → server.store.version ≡ V2 → EachImage (disk.trace server.store.disk).now (IsInVersion V2 form)
  running_in server sure recent pairs c m runs version image is =
      let stored = runs.recovers.stored in
      subst (λ (v : Version). IsInVersion v form image) version
      (subst (λ (f : Form). IsInVersion server.store.version f image) runs.same_form
      (shown_in server.store (disk.trace server.store.disk).now stored.snapshot stored.payloads stored.shows image is))

  -- ---- What each image is at each moment of a call

  pub commit_in : (p : Point) (old new : ServerState D H G) (result : Result (List Sent) StoreError) → Stands disk handler ports form s (Serving old) p → Commits disk old new result
      → disk.follows_crash_model new.store.disk → ReservesPorts disk form old → EachImageSince (disk.trace old.store.disk) (disk.trace new.store.disk) IsSecond
  commit_in (Running sure recent pairs c m) old new result stands call crash_model r =
      subst (λ (f : Form). EachImageSince (disk.trace old.store.disk) (disk.trace new.store.disk) (IsInVersion V2 f)) stands.same_form
      (subst (λ (v : Version). EachImageSince (disk.trace old.store.disk) (disk.trace new.store.disk) (IsInVersion v (form_of old.store))) r.version
      (call.stop_version crash_model (accepted (arrivals sure recent)) (length (accepted (map taken_of sure))) stands.recovers))
  commit_in (Halted sure recent m) old new result stands call crash_model r =
      since_same _ _ IsSecond (ap (λ (v : ServerState D H G). disk.trace v.store.disk) (call.unchanged stands.stopped)) r.images
  commit_in (Shut sure recent m) old new result stands call crash_model r = absurd stands

  images_of : (w : World D H G) → Reserves disk form w → EachImage (disk.trace (disk_of w)).now IsSecond
  images_of (Serving server) r = r.images
  images_of (Down d h g) r = r

  open_in : (w : World D H G) (result : Result (ServerState D H G) (ServerOpenError D H G)) → Opening disk (disk_of w) s.config (handler_of w) (ports_of w) result
      → disk.follows_crash_model (disk_of (world_after result)) → Reserves disk form w → EachImageSince (disk.trace (disk_of w)) (disk.trace (disk_of (world_after result))) IsSecond
  open_in w (Ok server) call crash_model r = call.stop_version crash_model form (images_of w r)
  open_in w (Err refused) call crash_model r = call.stop_version crash_model form (images_of w r)

  -- ---- Calls

  pub opened_reserves : (w : World D H G) (result : Result (ServerState D H G) (ServerOpenError D H G)) → Opening disk (disk_of w) s.config (handler_of w) (ports_of w) result
      → disk.follows_crash_model (disk_of (world_after result)) → Reserves disk form w → Reserves disk form (world_after result)
  opened_reserves w (Ok server) call crash_model r =
      let version = call.version crash_model form (images_of w r) in
      record { pairs = call.pairs ∙ ap has_pairs version; version = version; images = (open_in w (Ok server) call crash_model r).after }
  opened_reserves w (Err refused) call crash_model r = (open_in w (Err refused) call crash_model r).after

  same_pairs : (old new : ServerState D H G) (result : Result (List Sent) StoreError) → Commits disk old new result → new.machine.pairs ≡ old.machine.pairs
  same_pairs old new (Ok outs) call = ap (λ (v : ServerState D H G). v.machine.pairs) call.ok
  same_pairs old new (Err why) call = ap (λ (v : ServerState D H G). v.machine.pairs) call.err

  next_reserves : (p : Point) (w v : World D H G) (input : Input) (said : List Said) → Call disk handler ports s w input said v → Stands disk handler ports form s w p
      → disk.follows_crash_model (disk_of v) → Reserves disk form w → Reserves disk form v
  next_reserves p _ _ _ _ (worlds.submits result call) stands crash_model r = record {
    pairs = call.setting.pairs ∙ r.pairs;
    version = ap (λ (st : StoreState D). st.version) call.store ∙ r.version;
    images = subst (λ (st : StoreState D). EachImage (disk.trace st.disk).now IsSecond) (sym call.store) r.images;
  }
  next_reserves p _ _ _ _ worlds.no_submit stands crash_model r = r
  next_reserves p _ _ _ _ (worlds.commits {old = old} {new = new} result call) stands crash_model r = record {
    pairs = same_pairs old new result call ∙ r.pairs;
    version = call.version ∙ r.version;
    images = (commit_in p old new result stands call crash_model r).after;
  }
  next_reserves p _ _ _ _ (worlds.advances call) stands crash_model r = record {
    pairs = call.setting.pairs ∙ r.pairs;
    version = ap (λ (v : ServerState D H G). v.store.version) call.rest ∙ r.version;
    images = subst (λ (v : ServerState D H G). EachImage (disk.trace v.store.disk).now IsSecond) (sym call.rest) r.images;
  }
  next_reserves p _ _ _ _ (worlds.relays sent early goes call same) stands crash_model r = subst (λ (v : ServerState D H G). ReservesPorts disk form v) (sym same) r
  next_reserves p _ _ _ _ worlds.no_commit stands crash_model r = r
  next_reserves p w _ _ _ (worlds.opens result call) stands crash_model r = opened_reserves w result call crash_model r
  next_reserves p w _ _ _ (worlds.stops {d = d} image of is) stands crash_model r = left_alone (disk.trace d).now IsSecond image is.bytes is.settled (images_of w r image of)
  next_reserves p _ _ _ _ (worlds.commit_stops {old = old} {new = new} {d = d} result call image of is) stands crash_model r =
      left_alone (disk.trace d).now IsSecond image is.bytes is.settled
      (left_has (disk.trace old.store.disk) (disk.trace new.store.disk) IsSecond image (commit_in p old new result stands call (is.crash_model crash_model) r) of)
  next_reserves p w _ _ _ (worlds.open_stops {d = d} result call image of is) stands crash_model r =
      left_alone (disk.trace d).now IsSecond image is.bytes is.settled
      (left_has (disk.trace (disk_of w)) (disk.trace (disk_of (world_after result))) IsSecond image (open_in w result call (is.crash_model crash_model) r) of)

  pub go_on_reserving : form.bounds ≡ s.config.limits → (p : Point) (w v : World D H G) (inputs : List Input) (said : List Said) → Calls disk handler ports s w inputs said v
      → Stands disk handler ports form s w p → disk.follows_crash_model (disk_of v) → Reserves disk form w → Reserves disk form v
  go_on_reserving same p w _ _ _ worlds.done stands crash_model r = r
  go_on_reserving same p w v _ _ (worlds.then {input = input} {inputs = inputs} {said = said} {later = more} u call rest) stands crash_model r =
      let before = earlier disk handler ports form s u v inputs more rest crash_model in
      let one = calls_make_lives disk handler ports form s true (λ never. absurd (let no : ⊥ = cc in no)) same p w u (input ∷ []) (said ++ []) (worlds.then u call worlds.done) stands before in
      go_on_reserving same one.end u v inputs more rest one.stands crash_model (next_reserves p w u input said call stands before r)
