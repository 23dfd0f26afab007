-- A process whose server reserves ports is followed by such processes.
use Rattle.std.proofs.Common.{◌≡◌, ◌⊎◌, inl, inr, ⊎_elim, ℕ, true, false, List, [], ◌∷◌, Ok, refl, sym, ◌∙◌, subst}
use Rattle.turn_cred.specs.declared.handler.AuthHandler as handlers
use Rattle.turn_disk.specs.declared.disk.Disk as disks
use Rattle.turn_engine.proofs.Stops.{left_has}
use Rattle.turn_engine.specs.Prelude.{Taken, ServerState, has_pairs, now_of}
use Rattle.turn_player.proofs.Versions.{commit_in, go_on_reserving, opened_reserves, running_in}
use Rattle.turn_player.proofs.Worlds.{calls_make_lives}
use Rattle.turn_player.specs.Lives as lives
use Rattle.turn_player.specs.Lives.{Halted, Input, Lasting, Point, Running, Said, Shut}
use Rattle.turn_player.specs.Versions.{ReservesPorts}
use Rattle.turn_player.specs.Worlds as worlds
use Rattle.turn_player.specs.Worlds.{Calls, Down, IsDown, Leaves, Lives, Serving, Stands, World}
use Rattle.turn_ports.specs.declared.generator.RelayAddressGenerator as generators
use Rattle.turn_store.specs.Prelude.{Version, V1, V2, Form, EachImage, IsInVersion}
use Rattle.turn_sockets.specs.declared.moment.Time as times
use Rattle.turn_step.specs.Prelude.{Setting}
use Rattle.turn_lives.specs.Processes as processes
use Rattle.turn_lives.specs.Processes.{AllReserve, HaveLimits, IsReserving, IsStopping, MayLeave, Part, Process, Processes, ReservesIfServing, Stopping, inputs_of, last_disk, said_of}
use Rattle.turn_lives.proofs.Joined.{all_earlier, before_stop, before_turns, calls_of, one_lives_on}

true_is_not_false : true ≡ false → ⊥
true_is_not_false is = cc

second_of : (v : Version) → true ≡ has_pairs v → v ≡ V2
second_of V1 is = cc
second_of V2 is = refl

module _ {D H G : Type 0} (disk : disks.Ghosts D) (handler : handlers.Ghosts H) (ports : generators.Ghosts G) (form : Form) (s : Setting) where
  -- a server that was just opened, over a disk whose images are of version 2 or with reserved ports
  opened_so : (p : Point) (server : ServerState D H G) → Stands disk handler ports form s (Serving server) p → server.store.stopped ≡ false → server.machine.pairs ≡ has_pairs server.store.version
      → server.machine.pairs ≡ true → ReservesPorts disk form server
  opened_so (Running sure recent pairs c m) server stands runs is reserves =
      let version = second_of server.store.version (sym reserves ∙ is) in
      record { pairs = reserves; version = version; images = running_in disk handler ports form s server sure recent pairs c m stands version }
  opened_so (Halted sure recent m) server stands runs is reserves = absurd (true_is_not_false (sym stands.stopped ∙ runs))
  opened_so (Shut sure recent m) server stands runs is reserves = absurd stands

  -- what a stop leaves of a server that reserves ports
  stopped_in : (p : Point) (server : ServerState D H G) (stop : Stopping D H G) → Stands disk handler ports form s (Serving server) p → IsStopping disk server stop
      → disk.follows_crash_model (last_disk server stop) → ReservesPorts disk form server → (image : List ℕ) → MayLeave disk server stop image → IsInVersion V2 form image
  stopped_in p server processes.AtRest stands is crash_model r image left = r.images image left
  stopped_in p server (processes.InCommit result new) stands call crash_model r image left =
      left_has _ _ _ image (commit_in disk handler ports form s p server new result stands call crash_model r) left

module _ {D N H G T : Type 0} (disk : disks.Ghosts D) (following : disks.Ghosts N) (handler : handlers.Ghosts H) (ports : generators.Ghosts G) (time : times.Ghosts T) (form : Form) (s : Setting)
    (same : form.bounds ≡ s.config.limits) (old : D) (new : N) (sure : List Lasting) (recent : List Taken) (m : ℕ) (l : Leaves disk form old sure recent m) (crash_model : following.follows_crash_model new) where
  abbrev IsSecond : List ℕ → Type 0
  IsSecond image = IsInVersion V2 form image

  -- the server of a process reserves ports, if each image before it is of version 2; and then each image after it is
  reserving : (inputs : List Input) (said : List Said) (one : Process disk following handler ports time s old inputs said new) → IsReserving one ⊎ EachImage (disk.trace old).now IsSecond
      → ReservesIfServing one × EachImage (following.trace new).now IsSecond
  reserving _ _ (processes.serves {server = server} {after = after} users system stop keys begun turns stopping next) either =
      let ended = before_stop disk handler ports s after stop stopping (next.crash_model crash_model) in
      let opened = before_turns disk handler ports s server turns.steps after turns.serves turns.last ended in
      let w : World D H G = Down old users begun.generator in
      let stands : IsDown disk handler ports form s old users begun.generator sure recent m = record {
        keys = keys;
        range = begun.in_range;
        leaves = l;
      } in
      let opens : Calls disk handler ports s w (lives.Open ∷ []) (lives.Opened (now_of server) ∷ []) (Serving server) = worlds.then (Serving server) (worlds.opens {w = w} (Ok server) begun.opening) worlds.done in
      let first = calls_make_lives disk handler ports form s true (λ never. absurd (true_is_not_false never)) same (Shut sure recent m) w (Serving server) _ _ opens stands opened in
      let r : ReservesPorts disk form server = ⊎_elim
      (λ reserves. opened_so disk handler ports form s first.end server first.stands begun.runs begun.pairs reserves)
      (λ images. opened_reserves disk handler ports form s w (Ok server) begun.opening opened images) either in
      let turned = subst (λ (x : ServerState D H G). Calls disk handler ports s (Serving server) (inputs_of turns.steps) (said_of turns.steps) (Serving x)) turns.last
      (calls_of disk handler ports s server turns.steps turns.serves) in
      let all = calls_make_lives disk handler ports form s true (λ never. absurd (true_is_not_false never)) same first.end (Serving server) (Serving after) _ _ turned first.stands ended in
      let last : ReservesPorts disk form after = go_on_reserving disk handler ports form s same first.end (Serving server) (Serving after) _ _ turned first.stands ended r in
      (r.pairs, λ image is. stopped_in disk handler ports form s all.end after stop all.stands stopping (next.crash_model crash_model) last image (next.images image is))
  reserving _ _ (processes.starts_no_server {last = last} kept next) either =
      (tt, λ image is. left_has (disk.trace old) (disk.trace last) IsSecond image (kept.stop_version (next.crash_model crash_model) form (⊎_elim (λ never. absurd never) (λ images. images) either)) (next.images image is))

module _ {I D H G T : Type 0} (disk_of : I → disks.Ghosts D) (handler : handlers.Ghosts H) (ports : generators.Ghosts G) (time : times.Ghosts T) (form : Form) where
  all_reserving : (i k : I) (old new : D) (parts : List Part) (sure : List Lasting) (recent : List Taken) (m : ℕ) → HaveLimits form parts → (ps : Processes disk_of handler ports time i old parts k new)
      → Leaves (disk_of i) form old sure recent m → (disk_of k).follows_crash_model new → EachImage ((disk_of i).trace old).now (IsInVersion V2 form) → AllReserve ps
  all_reserving i _ old _ _ sure recent m same processes.none l crash_model images = tt
  all_reserving i k old new _ sure recent m same (processes.then {parts = parts} part j next one rest) l crash_model images =
      let before = all_earlier disk_of handler ports time j k next new parts rest crash_model in
      let on = one_lives_on (disk_of i) (disk_of j) handler ports time form true (λ never. absurd (true_is_not_false never)) old next part sure recent m same.0 one l before in
      let here = reserving (disk_of i) (disk_of j) handler ports time form part.setting same.0 old next sure recent m l before part.inputs part.said one (inr images) in
      (here.0, all_reserving j k next new parts on.lasting on.unsettled on.bound same.1 rest on.leaves crash_model here.1)

  -- those after a process whose server reserves ports
  pub reserve_after : (i j k : I) (old next new : D) (part : Part) (parts : List Part) (sure : List Lasting) (recent : List Taken) (m : ℕ) → HaveLimits form (part ∷ parts)
      → (one : Process (disk_of i) (disk_of j) handler ports time part.setting old part.inputs part.said next) → (rest : Processes disk_of handler ports time j next parts k new)
      → Leaves (disk_of i) form old sure recent m → (disk_of k).follows_crash_model new → IsReserving one → AllReserve rest
  reserve_after i j k old next new part parts sure recent m same one rest l crash_model reserves =
      let before = all_earlier disk_of handler ports time j k next new parts rest crash_model in
      let on = one_lives_on (disk_of i) (disk_of j) handler ports time form true (λ never. absurd (true_is_not_false never)) old next part sure recent m same.0 one l before in
      let here = reserving (disk_of i) (disk_of j) handler ports time form part.setting same.0 old next sure recent m l before part.inputs part.said one (inl reserves) in
      all_reserving j k next new parts on.lasting on.unsettled on.bound same.1 rest on.leaves crash_model here.1
