-- Processes as calls of a life.
use Rattle.std.proofs.Common.{◌≡◌, ◌≤◌, ◌++◌, ℕ, Bool, false, List, [], ◌∷◌, Ok, length, map, max, refl, sym, ap, ◌∙◌, subst, arith, append_assoc, append-nil}
use Rattle.turn_cred.specs.declared.handler.AuthHandler as handlers
use Rattle.turn_disk.specs.declared.disk.Disk as disks
use Rattle.turn_engine.proofs.Runs as runs
use Rattle.turn_engine.proofs.Stops.{left_has}
use Rattle.turn_engine.specs.Prelude.{Advance, Advances, Submits, AtLeast, Commit, NeverFails, Relay, Serves, ServerCall, Submit, Taken, accepted, last_of, ServerState, now_of}
use Rattle.turn_player.proofs.Growing.{grows_by_last, longer_by}
use Rattle.turn_player.proofs.Lives.{behind_life, keeps, one_run_by, sent_in-append, sent_lasts}
use Rattle.turn_player.proofs.Worlds.{calls_make_lives, commit_since, leaves}
use Rattle.turn_player.specs.Lives as lives
use Rattle.turn_player.specs.Laws.{AreOneRun, IsRunBy}
use Rattle.turn_player.specs.Lives.{Goes, Halted, Input, Lasting, Life, NeverFall, Point, Running, Said, Shut, arrivals, arrivals_of, bound_of, sent_by_all, sent_in, sure_of, taken_of, unsettled_of}
use Rattle.turn_player.specs.Worlds as worlds
use Rattle.turn_player.specs.Worlds.{Calls, Down, IsDown, Leaves, Serving, Stands, World}
use Rattle.turn_ports.specs.declared.generator.RelayAddressGenerator as generators
use Rattle.turn_sockets.specs.declared.moment.Time as times
use Rattle.turn_step.specs.Prelude.{Setting, Sent}
use Rattle.turn_store.specs.Prelude.{Form, EachImage, RepresentsAt}
use Rattle.turn_lives.specs.Processes as processes
use Rattle.turn_lives.specs.Processes.{AreLives, AreOneRunOn, Follows, HaveLimits, IsStopping, LiveOn, MayLeave, Part, Process, Processes, Stopping, inputs_of, inputs_of_all, last_disk, said_of, said_of_all, settings_of}

no_later : (a b : ℕ) → a ≡ b → a ≤ b
no_later a b same = omega (arith, same)

later_is : (moment clock : ℕ) → clock ≤ moment → max moment clock ≡ moment
later_is moment clock le = omega (arith, le)

join : (s : Setting) (may_fail : Bool) (p q r : Point) (inputs later : List Input) (said more : List Said) → Life s may_fail p inputs said q → Life s may_fail q later more r
    → Life s may_fail p (inputs ++ later) (said ++ more) r
join s may_fail p _ r _ later _ more lives.ends second = second
join s may_fail p q r _ later _ more (lives.goes_on {input = input} {inputs = inputs} {said = said} {later = after} next goes rest) second =
    subst (λ (l : List Said). Life s may_fail p (input ∷ (inputs ++ later)) l r) (sym (append_assoc said after more))
    (lives.goes_on next goes (join s may_fail next q r inputs later after more rest second))

-- a stop with a server at a point of a life, and what each content has that it may leave
record StopsAt (form : Form) (s : Setting) (may_fail : Bool) (p : Point) (IsFound : List ℕ → Type 0) : Type 0 where
  lasting : List Lasting
  unsettled : List Taken
  bound : ℕ
  goes : Goes s may_fail p lives.Stop [] (Shut lasting unsettled bound)
  has : (image : List ℕ) → IsFound image → AtLeast form (accepted (arrivals lasting unsettled)) (length (accepted (map taken_of lasting))) bound image

module _ {D H G : Type 0} (disk : disks.Ghosts D) (handler : handlers.Ghosts H) (ports : generators.Ghosts G) (s : Setting) where
  pub calls_of : (server : ServerState D H G) (steps : List (ServerCall D H G)) → Serves disk handler ports server steps
      → Calls disk handler ports s (Serving server) (inputs_of steps) (said_of steps) (Serving (last_of server steps))
  calls_of server [] serves = worlds.done
  calls_of server (Submit moment a result after ∷ xs) serves =
      let call = serves.0 in
      worlds.then (Serving after)
      (worlds.submits result (subst (λ (n : ℕ). Submits disk handler ports server after n a result) (sym (later_is moment (now_of server) call.in_time)) call))
      (calls_of after xs serves.1)
  calls_of server (Commit result after ∷ xs) serves = worlds.then (Serving after) (worlds.commits result serves.0) (calls_of after xs serves.1)
  calls_of server (Relay arrival sent after ∷ xs) serves =
      let call = serves.0 in
      worlds.then (Serving after) (worlds.relays sent (no_later (now_of after) (now_of server) (ap now_of call.2)) call.0 call.1 call.2) (calls_of after xs serves.1)
  calls_of server (Advance moment after ∷ xs) serves =
      let call = serves.0 in
      worlds.then (Serving after) (worlds.advances (subst (λ (n : ℕ). Advances disk ports server after n) (sym (later_is moment (now_of server) call.in_time)) call)) (calls_of after xs serves.1)

  stops_at : (form : Form) (may_fail : Bool) (p : Point) (server : ServerState D H G) (stop : Stopping D H G) → Stands disk handler ports form s (Serving server) p
      → IsStopping disk server stop → disk.follows_crash_model (last_disk server stop) → StopsAt form s may_fail p (MayLeave disk server stop)
  stops_at form may_fail p server processes.AtRest stands is crash_model = record {
    lasting = sure_of p;
    unsettled = unsettled_of p;
    bound = bound_of p;
    goes = lives.stops;
    has = (leaves disk handler ports form s (Serving server) p stands).images;
  }
  stops_at form may_fail (Running sure recent pairs c m) server (processes.InCommit result new) stands call crash_model = record {
    lasting = sure;
    unsettled = recent;
    bound = m;
    goes = lives.commit_stops;
    has = λ image of. left_has _ _ _ image (commit_since disk handler ports form s (Running sure recent pairs c m) server new result stands call crash_model) of;
  }
  stops_at form may_fail (Halted sure recent m) server (processes.InCommit result new) stands call crash_model = record {
    lasting = sure;
    unsettled = recent;
    bound = m;
    goes = lives.stops;
    has = λ image of. left_has _ _ _ image (commit_since disk handler ports form s (Halted sure recent m) server new result stands call crash_model) of;
  }
  stops_at form may_fail (Shut sure recent m) server (processes.InCommit result new) stands call crash_model = absurd stands

  -- a disk that follows the crash model after a stop was so before it
  pub before_stop : (server : ServerState D H G) (stop : Stopping D H G) → IsStopping disk server stop → disk.follows_crash_model (last_disk server stop) → disk.follows_crash_model server.store.disk
  before_stop server processes.AtRest is crash_model = crash_model
  before_stop server (processes.InCommit result new) call crash_model = call.uses.crash_model crash_model

  pub before_turns : (server : ServerState D H G) (steps : List (ServerCall D H G)) (after : ServerState D H G) → Serves disk handler ports server steps → last_of server steps ≡ after
      → disk.follows_crash_model after.store.disk → disk.follows_crash_model server.store.disk
  before_turns server steps after serves is crash_model =
      runs.earlier disk handler ports server steps serves (subst (λ (x : ServerState D H G). disk.follows_crash_model x.store.disk) (sym is) crash_model)

-- one process leads from a point of a life at which all is shut to another
record LifeOn {D : Type 0} (disk : disks.Ghosts D) (form : Form) (s : Setting) (may_fail : Bool) (sure : List Lasting) (recent : List Taken) (m : ℕ) (inputs : List Input) (said : List Said) (new : D) : Type 0 where
  lasting : List Lasting
  unsettled : List Taken
  bound : ℕ
  life : Life s may_fail (Shut sure recent m) inputs said (Shut lasting unsettled bound)
  leaves : Leaves disk form new lasting unsettled bound

module _ {D N H G T : Type 0} (disk : disks.Ghosts D) (following : disks.Ghosts N) (handler : handlers.Ghosts H) (ports : generators.Ghosts G) (time : times.Ghosts T) (s : Setting) where
  -- a disk that follows the crash model after a process was so before it
  earlier : (old : D) (new : N) (inputs : List Input) (said : List Said) → Process disk following handler ports time s old inputs said new → following.follows_crash_model new → disk.follows_crash_model old
  earlier old new _ _ (processes.serves {server = server} {after = after} users system stop keys begun turns stopping next) crash_model =
      begun.crash_model (before_turns disk handler ports s server turns.steps after turns.serves turns.last (before_stop disk handler ports s after stop stopping (next.crash_model crash_model)))
  earlier old new _ _ (processes.starts_no_server kept next) crash_model = kept.crash_model (next.crash_model crash_model)

  module _ (form : Form) (may_fail : Bool) (same : form.bounds ≡ s.config.limits) (never : may_fail ≡ false → NeverFails ports) where
    lives_on : (old : D) (new : N) (inputs : List Input) (said : List Said) (sure : List Lasting) (recent : List Taken) (m : ℕ) → Process disk following handler ports time s old inputs said new
        → Leaves disk form old sure recent m → following.follows_crash_model new → LifeOn following form s may_fail sure recent m inputs said new
    lives_on old new _ _ sure recent m (processes.serves {server = server} {after = after} users system stop keys begun turns stopping next) l crash_model =
        let ended = before_stop disk handler ports s after stop stopping (next.crash_model crash_model) in
        let w : World D H G = Down old users begun.generator in
        let stands : IsDown disk handler ports form s old users begun.generator sure recent m = record {
          keys = keys;
          range = begun.in_range;
          leaves = l;
        } in
        let turned = subst (λ (x : ServerState D H G). Calls disk handler ports s (Serving server) (inputs_of turns.steps) (said_of turns.steps) (Serving x)) turns.last
        (calls_of disk handler ports s server turns.steps turns.serves) in
        let inputs = lives.Open ∷ inputs_of turns.steps in
        let said = lives.Opened (now_of server) ∷ said_of turns.steps in
        let calls : Calls disk handler ports s w inputs said (Serving after) = worlds.then (Serving server) (worlds.opens {w = w} (Ok server) begun.opening) turned in
        let all = calls_make_lives disk handler ports form s may_fail never same (Shut sure recent m) w (Serving after) inputs said calls stands ended in
        let at = stops_at disk handler ports s form may_fail all.end after stop all.stands stopping (next.crash_model crash_model) in
        record {
          lasting = at.lasting;
          unsettled = at.unsettled;
          bound = at.bound;
          life = subst (λ (x : List Said). Life s may_fail (Shut sure recent m) (inputs ++ lives.Stop ∷ []) x (Shut at.lasting at.unsettled at.bound)) (append-nil said)
              (join s may_fail (Shut sure recent m) all.end (Shut at.lasting at.unsettled at.bound) inputs (lives.Stop ∷ []) said [] all.life
              (lives.goes_on (Shut at.lasting at.unsettled at.bound) at.goes lives.ends));
          leaves = record { crash_model = crash_model; images = λ image is. at.has image (next.images image is) };
        }
    lives_on old new _ _ sure recent m (processes.starts_no_server {last = last} kept next) l crash_model =
        let h = accepted (arrivals sure recent) in
        let k = length (accepted (map taken_of sure)) in
        let since = kept.stop (next.crash_model crash_model) form h k m l.images in
        record {
          lasting = sure;
          unsettled = recent;
          bound = m;
          life = lives.goes_on (Shut sure recent m) lives.stops lives.ends;
          leaves = record { crash_model = crash_model; images = λ image is. left_has (disk.trace old) (disk.trace last) _ image since (next.images image is) };
        }

-- ---- Lives one after another

never_front : (m : ℕ) (inputs more : List Input) → NeverFall m (inputs ++ more) → NeverFall m inputs
never_front m [] more never = tt
never_front m (lives.Arrive t a ∷ inputs) more never = (never.0, never_front t inputs more never.1)
never_front m (lives.Relay t a ∷ inputs) more never = (never.0, never_front t inputs more never.1)
never_front m (lives.Advance t ∷ inputs) more never = (never.0, never_front t inputs more never.1)
never_front m (lives.Commit ∷ inputs) more never = never_front m inputs more never
never_front m (lives.Stop ∷ inputs) more never = never_front m inputs more never
never_front m (lives.Open ∷ inputs) more never = never_front m inputs more never

-- a run by settings is one with more settings behind them
widen : (settings more : List Setting) (may_fail : Bool) (sent : List Sent) (p : Point) → AreOneRun (IsRunBy settings [] 0) may_fail sent p
    → AreOneRun (IsRunBy (settings ++ more) [] 0) may_fail sent p
widen settings more may_fail sent p one = record {
  is_run = longer_by settings more [] 0 (arrivals_of p) one.is_run;
  sent_is = one.sent_is;
  have_acts = one.have_acts;
  moments = one.moments;
  in_time = one.in_time;
  flags = one.flags;
}

one_run_of : (may_fail : Bool) (settings : List Setting) (sure : List Lasting) (recent : List Taken) (m : ℕ) (q : Point) (parts : List Part) (sent : List Sent) → AreLives may_fail (Shut sure recent m) parts q
    → NeverFall m (inputs_of_all parts) → AreOneRun (IsRunBy settings [] 0) may_fail sent (Shut sure recent m) → AreOneRun (IsRunBy (settings ++ settings_of parts) [] 0) may_fail (sent ++ sent_in (said_of_all parts)) q
one_run_of may_fail settings sure recent m _ _ sent processes.none never one =
    subst (λ (l : List Sent). AreOneRun (IsRunBy (settings ++ []) [] 0) may_fail l (Shut sure recent m)) (sym (append-nil sent)) (widen settings [] may_fail sent (Shut sure recent m) one)
one_run_of may_fail settings sure recent m q _ sent (processes.then {parts = parts} part lasting unsettled bound life rest) never one =
    let s = part.setting in
    let p = Shut sure recent m in
    let next = Shut lasting unsettled bound in
    let more = inputs_of_all parts in
    let later = behind_life s may_fail p next part.inputs more part.said life never in
    let here = one_run_by s (IsRunBy (settings ++ s ∷ []) [] 0) (grows_by_last settings s) may_fail p next part.inputs part.said sent life (never_front m part.inputs more never) tt
    (widen settings (s ∷ []) may_fail sent p one) in
    let all = one_run_of may_fail (settings ++ s ∷ []) lasting unsettled bound q parts (sent ++ sent_in part.said) rest later here in
    let said : (sent ++ sent_in part.said) ++ sent_in (said_of_all parts) ≡ sent ++ sent_in (part.said ++ said_of_all parts) =
    append_assoc sent (sent_in part.said) (sent_in (said_of_all parts)) ∙ ap (λ (l : List Sent). sent ++ l) (sym (sent_in-append part.said (said_of_all parts))) in
    subst (λ (l : List Setting). AreOneRun (IsRunBy l [] 0) may_fail (sent ++ sent_in (part.said ++ said_of_all parts)) q) (append_assoc settings (s ∷ []) (settings_of parts))
    (subst (λ (l : List Sent). AreOneRun (IsRunBy ((settings ++ s ∷ []) ++ settings_of parts) [] 0) may_fail l q) said all)

chain : (may_fail : Bool) (p m q : Point) (part : Part) (parts : List Part) → AreLives may_fail p (part ∷ []) m → AreLives may_fail m parts q → AreLives may_fail p (part ∷ parts) q
chain may_fail p _ q _ parts (processes.then part sure recent bound life processes.none) rest = processes.then part sure recent bound life rest

-- ---- Processes one after another

-- one process, with what lasts and what was handed out
pub one_lives_on : {D N H G T : Type 0} (disk : disks.Ghosts D) (following : disks.Ghosts N) (handler : handlers.Ghosts H) (ports : generators.Ghosts G) (time : times.Ghosts T) (form : Form) (may_fail : Bool)
    → (may_fail ≡ false → NeverFails ports) → (old : D) (new : N) (part : Part) (sure : List Lasting) (recent : List Taken) (m : ℕ) → form.bounds ≡ part.setting.config.limits
    → Process disk following handler ports time part.setting old part.inputs part.said new → Leaves disk form old sure recent m → following.follows_crash_model new
    → LiveOn following form may_fail sure recent m (part ∷ []) new
one_lives_on disk following handler ports time form may_fail never old new part sure recent m same one l crash_model =
    let s = part.setting in
    let on = lives_on disk following handler ports time s form may_fail same never old new part.inputs part.said sure recent m one l crash_model in
    let end = Shut on.lasting on.unsettled on.bound in
    record {
      lasting = on.lasting;
      unsettled = on.unsettled;
      bound = on.bound;
      lives = processes.then part on.lasting on.unsettled on.bound on.life processes.none;
      keeps = keeps s may_fail (Shut sure recent m) end part.inputs part.said on.life;
      handed_out = sent_lasts s may_fail (Shut sure recent m) end part.inputs part.said on.life ∙ ap (λ (l : List Said). sent_by_all sure ++ sent_in l) (sym (append-nil part.said));
      leaves = on.leaves;
    }

module _ {I D H G T : Type 0} (disk_of : I → disks.Ghosts D) (handler : handlers.Ghosts H) (ports : generators.Ghosts G) (time : times.Ghosts T) where
  pub all_earlier : (i k : I) (old new : D) (parts : List Part) → Processes disk_of handler ports time i old parts k new → (disk_of k).follows_crash_model new → (disk_of i).follows_crash_model old
  all_earlier i _ old _ _ processes.none crash_model = crash_model
  all_earlier i k old new _ (processes.then {parts = parts} part j next one rest) crash_model =
      earlier (disk_of i) (disk_of j) handler ports time part.setting old next part.inputs part.said one (all_earlier j k next new parts rest crash_model)

  module _ (form : Form) (may_fail : Bool) (never : may_fail ≡ false → NeverFails ports) where
    pub all_live_on : (i k : I) (old new : D) (parts : List Part) (sure : List Lasting) (recent : List Taken) (m : ℕ) → HaveLimits form parts → Processes disk_of handler ports time i old parts k new
        → Leaves (disk_of i) form old sure recent m → (disk_of k).follows_crash_model new → LiveOn (disk_of k) form may_fail sure recent m parts new
    all_live_on i _ old _ _ sure recent m same processes.none l crash_model = record {
      lasting = sure;
      unsettled = recent;
      bound = m;
      lives = processes.none;
      keeps = record { more = []; sure = sym (append-nil sure) };
      handed_out = sym (append-nil (sent_by_all sure));
      leaves = l;
    }
    all_live_on i k old new _ sure recent m same (processes.then {parts = parts} part j next process rest) l crash_model =
        let one = one_lives_on (disk_of i) (disk_of j) handler ports time form may_fail never old next part sure recent m same.0 process l (all_earlier j k next new parts rest crash_model) in
        let more = all_live_on j k next new parts one.lasting one.unsettled one.bound same.1 rest one.leaves crash_model in
        record {
          lasting = more.lasting;
          unsettled = more.unsettled;
          bound = more.bound;
          lives = chain may_fail (Shut sure recent m) (Shut one.lasting one.unsettled one.bound) (Shut more.lasting more.unsettled more.bound) part parts one.lives more.lives;
          keeps = record {
            more = one.keeps.more ++ more.keeps.more;
            sure = more.keeps.sure ∙ ap (λ (l : List Lasting). l ++ more.keeps.more) one.keeps.sure ∙ append_assoc sure one.keeps.more more.keeps.more;
          };
          handed_out = more.handed_out ∙ ap (λ (l : List Sent). l ++ sent_in (said_of_all parts)) (one.handed_out ∙ ap (λ (l : List Said). sent_by_all sure ++ sent_in l) (append-nil part.said))
              ∙ append_assoc (sent_by_all sure) (sent_in part.said) (sent_in (said_of_all parts))
              ∙ ap (λ (l : List Sent). sent_by_all sure ++ l) (sym (sent_in-append part.said (said_of_all parts)));
          leaves = more.leaves;
        }

    formatted_leaves : (i : I) (d : D) → (disk_of i).follows_crash_model d → EachImage ((disk_of i).trace d).now (RepresentsAt form [] 0) → Leaves (disk_of i) form d [] [] 0
    formatted_leaves i d crash_model images = record {
      crash_model = crash_model;
      images = λ image is. record {
        count = 0;
        no_less = omega arith;
        no_more = omega arith;
        stands = record { clock = 0; bounded = omega arith; stands = images image is };
      };
    }

    pub lasts : (i k : I) (old new : D) (parts : List Part) → HaveLimits form parts → Processes disk_of handler ports time i old parts k new
        → EachImage ((disk_of i).trace old).now (RepresentsAt form [] 0) → (disk_of k).follows_crash_model new → LiveOn (disk_of k) form may_fail [] [] 0 parts new
    lasts i k old new parts same all images crash_model =
        all_live_on i k old new parts [] [] 0 same all (formatted_leaves i old (all_earlier i k old new parts all crash_model) images) crash_model

    pub are_one_run : (i k : I) (old new : D) (parts : List Part) → HaveLimits form parts → Processes disk_of handler ports time i old parts k new
        → EachImage ((disk_of i).trace old).now (RepresentsAt form [] 0) → NeverFall 0 (inputs_of_all parts) → (disk_of k).follows_crash_model new → AreOneRunOn (disk_of k) form may_fail parts new
    are_one_run i k old new parts same all images rising crash_model =
        let on = lasts i k old new parts same all images crash_model in
        record {
          on = on;
          one = one_run_of may_fail [] [] [] 0 (Shut on.lasting on.unsettled on.bound) parts [] on.lives rising
              (record { is_run = tt; sent_is = refl; have_acts = tt; moments = omega arith; in_time = tt; flags = λ never. tt });
        }
