-- What a player does, put together from calls.
use Rattle.std.proofs.Common.{◌≡◌, ◌≤◌, ◌<◌, ◌+◌, ◌++◌, ℕ, Bool, true, List, [], ◌∷◌, Option, Some, Result, Ok, Err, false, get_or, length, max, map, take, refl, sym, ap, ◌∙◌, subst, append_assoc, append-nil, IfOk, OnOk}
use Rattle.std.proofs.lemmas.List.{map-append, take_more}
use Rattle.std.proofs.lemmas.Option.{same_Some}
use Rattle.turn_cred.specs.declared.handler.AuthHandler as handlers
use Rattle.turn_disk.specs.Prelude.{left_by, IsImage, State}
use Rattle.turn_disk.specs.declared.disk.Disk as disks
use Rattle.turn_disk.specs.declared.outcome.CrashOutcome.{CrashOutcome}
use Rattle.turn_engine.specs.Prelude.{Commits, Opening, Submits, NeverFails, ServerState, now_of}
use Rattle.turn_engine.specs.declared.error.ServerOpenError.{ServerOpenError}
use Rattle.turn_engine.specs.declared.error.SubmitError.{SubmitError}
use Rattle.turn_engine.proofs.Lists.{take_of_length-le}
use Rattle.turn_ports.specs.declared.generator.RelayAddressGenerator as generators
use Rattle.turn_step.specs.Prelude.{Setting, Arrives, Sent}
use Rattle.turn_store.specs.Prelude.{Form}
use Rattle.turn_types.specs.Prelude.{Config}
use Rattle.turn_player.specs.Held.{Adds}
use Rattle.turn_player.specs.Lives.{Arrive, Commit, Input, NotOpened, Open, Opened, Point, Said, handing_out}
use Rattle.turn_player.specs.Plays.{Crashes, GoesOn, IsCarriedOver, Plays, PlaysAll, Ran, inputs_of, inputs_of_all, said_if, said_of}
use Rattle.turn_player.specs.Plays as plays
use Rattle.turn_player.specs.Worlds.{Call, Calls, Down, Restarts, Serving, Stands, World, disk_of, handler_of, ports_of, said_by_submit}
use Rattle.turn_player.specs.Worlds as worlds
use Rattle.turn_player.proofs.Worlds.{calls_make_lives}
use Rattle.turn_player.specs.declared.step.Effect.{Effect}
use Rattle.turn_player.specs.declared.step.Action.{Action}
use Rattle.turn_player.specs.declared.step.Action.TheVariants as steps

-- what was said is as it was, and does something else
adds_map : (old new : List Said) (P Q : List Said → Type 0) → ((said : List Said) → P said → Q said) → Adds old new P → Adds old new Q
adds_map old new P Q does adds = record { said = adds.said; is = adds.is; does = does adds.said adds.does }

module _ {D H G : Type 0} (disk : disks.Ghosts D) (handler : handlers.Ghosts H) (ports : generators.Ghosts G) (s : Setting) where
  pub submitted : (old new : ServerState D H G) (t n : ℕ) (a : Arrives) (result : Result Unit SubmitError) → n ≡ max t (now_of old) → Submits disk handler ports old new n a result
      → Call disk handler ports s (Serving old) (Arrive t a) (said_by_submit result) (Serving new)
  submitted old new t n a result is call = worlds.submits result (subst (λ (m : ℕ). Submits disk handler ports old new m a result) is call)

  pub opened : (config : Config) (d : D) (h : H) (g : G) (server : ServerState D H G) (clock : ℕ) → s.config ≡ config → clock ≡ now_of server → Opening disk d config h g (Ok server)
      → Call disk handler ports s (Down d h g) Open (Opened clock ∷ []) (Serving server)
  opened config d h g server clock same is call =
      subst (λ (n : ℕ). Call disk handler ports s (Down d h g) Open (Opened n ∷ []) (Serving server)) (sym is)
      (worlds.opens {w = Down d h g} (Ok server) (subst (λ (x : Config). Opening disk d x h g (Ok server)) (sym same) call))

  pub not_opened : (config : Config) (d : D) (h : H) (g : G) (refused : ServerOpenError D H G) → s.config ≡ config → Opening disk d config h g (Err refused)
      → Call disk handler ports s (Down d h g) Open (NotOpened refused.fault ∷ []) (Down refused.disk refused.handler refused.ports)
  not_opened config d h g refused same call = worlds.opens {w = Down d h g} (Err refused) (subst (λ (x : Config). Opening disk d x h g (Err refused)) (sym same) call)

  pub at : (w u v : World D H G) (input : Input) (said : List Said) → w ≡ u → Call disk handler ports s u input said v → Call disk handler ports s w input said v
  at w u v input said is call = subst (λ (x : World D H G). Call disk handler ports s x input said v) (sym is) call

  pub adds_at : (w u v : World D H G) (input : Input) (old new : List Said) → w ≡ u → Adds old new (λ said. Call disk handler ports s u input said v) → Adds old new (λ said. Call disk handler ports s w input said v)
  adds_at w u v input old new is = adds_map old new _ _ (λ said. at w u v input said is)

-- events of one more step
pub one_more : {A : Type 0} (old new : List (Effect A)) (event : Effect A) → new ≡ old ++ event ∷ [] → map said_of new ≡ map said_of old ++ said_of event ∷ []
one_more old new event is = ap (map said_of) is ∙ map-append said_of old (event ∷ [])

pub handed : {D H G : Type 0} (disk : disks.Ghosts D) (handler : handlers.Ghosts H) (ports : generators.Ghosts G) {E : Type 0} (r : Result Unit E) (old new : List Said) (outs : List Sent) (server after : ServerState D H G)
    → OnOk r (new ≡ old ++ handing_out outs) → Commits disk server after (Ok outs) → OnOk r ((s : Setting) → Adds old new (λ said. Call disk handler ports s (Serving server) Commit said (Serving after)))
handed disk handler ports (Ok u) old new outs server after is call = λ s. record { said = handing_out outs; is = is; does = worlds.commits (Ok outs) call }
handed disk handler ports (Err e) old new outs server after is call = tt

pub plays_commit : {D H G : Type 0} (disk : disks.Ghosts D) (handler : handlers.Ghosts H) (ports : generators.Ghosts G) {T E : Type 0} (r : Result T E) (world : T → World D H G) (w : World D H G) (step : Action) (config : Config) (old new : List Said)
    → step ≡ steps.Commit → IfOk r (λ h. (s : Setting) → Adds old new (λ said. Call disk handler ports s w Commit said (world h)))
    → IfOk r (λ h. (s : Setting) → s.config ≡ config → Adds old new (λ said. Plays disk handler ports s w step said (world h)))
plays_commit disk handler ports (Ok h) world w step config old new is does = λ s same.
    adds_map old new _ _ (λ said call. subst (λ (x : Action). Plays disk handler ports s w x said (world h)) (sym is) (plays.commits call)) (does s)
plays_commit disk handler ports (Err e) world w step config old new is does = tt

module _ {D H G : Type 0} (disk : disks.Ghosts D) (handler : handlers.Ghosts H) (ports : generators.Ghosts G) (s : Setting) where
  pub noted : {A T : Type 0} (world : T → World D H G) (w : World D H G) (step : Action) (old new : List Said) (found result : T × Option (Effect A)) → found ≡ result → new ≡ old ++ said_if found.1
      → Plays disk handler ports s w step (said_if result.1) (world result.0) → Adds old new (λ said. Plays disk handler ports s w step said (world found.0))
  noted world w step old new found result same is does = record {
    said = said_if found.1;
    is = is;
    does = subst (λ x. Plays disk handler ports s w step (said_if x.1) (world x.0)) (sym same) does;
  }

  pub step_is : (w v : World D H G) (step other : Action) (said : List Said) → step ≡ other → Plays disk handler ports s w other said v → Plays disk handler ports s w step said v
  step_is w v step other said is does = subst (λ (x : Action). Plays disk handler ports s w x said v) (sym is) does

  reopened : (w v : World D H G) (d : D) (h : H) (g : G) (said : List Said) → d ≡ disk_of w → h ≡ handler_of w → g ≡ ports_of w → Call disk handler ports s (Down d h g) Open said v
      → Call disk handler ports s w Open said v
  reopened w _ d h g _ same_disk same_handler same_ports (worlds.opens result call) =
      worlds.opens {w = w} result
      (subst (λ (x : D). Opening disk x s.config (handler_of w) (ports_of w) result) same_disk
      (subst (λ (x : H). Opening disk d s.config x (ports_of w) result) same_handler
      (subst (λ (x : G). Opening disk d s.config h x result) same_ports call)))

  pub reopens_at : (w v : World D H G) (d : D) (h : H) (g : G) (carry : Bool) (said : List Said) → d ≡ disk_of w → h ≡ handler_of w → g ≡ ports_of w → Call disk handler ports s (Down d h g) Open said v
      → IsCarriedOver disk carry d v → Plays disk handler ports s w (steps.Reopen carry) said v
  reopens_at w v d h g carry said same_disk same_handler same_ports call carried =
      plays.reopens (reopened w v d h g said same_disk same_handler same_ports call) (subst (λ (x : D). IsCarriedOver disk carry x v) same_disk carried)

  pub crashed : (w v : World D H G) (old d : D) (h : H) (g : G) (outcome : CrashOutcome) (said : List Said) → old ≡ disk_of w → h ≡ handler_of w → g ≡ ports_of w → (disk.follows_crash_model d → disk.follows_crash_model old)
      → (disk.trace d).now ≡ record { bytes = left_by outcome (disk.trace old); pending = [] } → IsImage (disk.trace old).now (disk.trace d).now.bytes
      → Call disk handler ports s (Down d h g) Open said v → IsCarriedOver disk true d v → Plays disk handler ports s w (steps.Crash outcome) said v
  crashed w v old d h g outcome said same_disk same_handler same_ports crash_model left image call carried =
      let crash : Crashes disk outcome w d = record {
        crash_model = λ now. subst disk.follows_crash_model same_disk (crash_model now);
        left = left ∙ ap (λ (x : D). record { bytes = left_by outcome (disk.trace x); pending = [] }) same_disk;
        image = subst (λ (x : D). IsImage (disk.trace x).now (left_by outcome (disk.trace x))) same_disk
            (subst (λ (l : List ℕ). IsImage (disk.trace old).now l) (ap (λ (x : State). x.bytes) left) image);
      } in
      plays.crashes d crash
      (subst (λ (x : H). Call disk handler ports s (Down d x (ports_of w)) Open said v) same_handler (subst (λ (x : G). Call disk handler ports s (Down d h x) Open said v) same_ports call))
      carried

  -- ---- Many steps

  pub plays_push : (w u v : World D H G) (xs : List Action) (x : Action) (said one : List Said) → PlaysAll disk handler ports s w xs said u → Plays disk handler ports s u x one v
      → PlaysAll disk handler ports s w (xs ++ x ∷ []) (said ++ one) v
  plays_push w _ v _ x _ one plays.done last = subst (λ (l : List Said). PlaysAll disk handler ports s w (x ∷ []) l v) (append-nil one) (plays.then v last plays.done)
  plays_push w u v _ x _ one (plays.then {step = y} {steps = ys} {said = a} {later = b} m first rest) last =
      subst (λ (l : List Said). PlaysAll disk handler ports s w (y ∷ (ys ++ x ∷ [])) l v) (sym (append_assoc a b one)) (plays.then m first (plays_push m u v ys x b one rest last))

  pub pushed : (w u v : World D H G) (all : List Action) (i : ℕ) (x : Action) (old mid new : List Said) → i < length all → x ≡ get_or all i x
      → Adds old mid (λ said. PlaysAll disk handler ports s w (take i all) said u) → Adds mid new (λ said. Plays disk handler ports s u x said v)
      → Adds old new (λ said. PlaysAll disk handler ports s w (take (i + 1) all) said v)
  pushed w u v all i x old mid new below is first last =
      let longer : take (i + 1) all ≡ take i all ++ x ∷ [] = take_more all i x below ∙ ap (λ (y : Action). take i all ++ y ∷ []) (sym is) in
      record {
        said = first.said ++ last.said;
        is = last.is ∙ ap (λ (l : List Said). l ++ last.said) first.is ∙ append_assoc old first.said last.said;
        does = subst (λ (l : List Action). PlaysAll disk handler ports s w l (first.said ++ last.said) v) (sym longer) (plays_push w u v (take i all) x first.said last.said first.does last.does);
      }

  pub all_played : (w u : World D H G) (all : List Action) (i : ℕ) (old new : List Said) → length all ≤ i → Adds old new (λ said. PlaysAll disk handler ports s w (take i all) said u)
      → Adds old new (λ said. PlaysAll disk handler ports s w all said u)
  all_played w u all i old new past = adds_map old new _ _ (λ said. subst (λ (l : List Action). PlaysAll disk handler ports s w l said u) (take_of_length-le i all past))

  pub ran : (old new : Option (World D H G)) (w v : World D H G) (all : List Action) (start said : List Said) → old ≡ Some w → new ≡ Some v → start ≡ []
      → Adds start said (λ l. PlaysAll disk handler ports s w all l v) → Ran disk handler ports s old all said new
  ran old new w v all start said old_is new_is none adds = record {
    before = w;
    after = v;
    old_is = old_is;
    new_is = new_is;
    plays = subst (λ (l : List Said). PlaysAll disk handler ports s w all l v) (sym (adds.is ∙ ap (λ (l : List Said). l ++ adds.said) none)) adds.does;
  }

  -- ---- Steps as calls

  before_calls : (w u v : World D H G) (x : Action) (inputs : List Input) (said later : List Said) → Plays disk handler ports s w x said u → Calls disk handler ports s u inputs later v
      → Calls disk handler ports s w (inputs_of x ++ inputs) (said ++ later) v
  before_calls w u v _ inputs said later (plays.arrives call) rest = worlds.then u call rest
  before_calls w u v _ inputs said later (plays.commits call) rest = worlds.then u call rest
  before_calls w u v _ inputs said later (plays.crashes {outcome = outcome} d crash call carried) rest =
      let again : Restarts disk handler ports w (disk_of w) (left_by outcome (disk.trace (disk_of w))) d (handler_of w) (ports_of w) = record {
        bytes = ap (λ (x : State). x.bytes) crash.left;
        settled = ap (λ (x : State). x.pending) crash.left;
        crash_model = crash.crash_model;
        keys = refl;
        range = refl;
      } in
      worlds.then (Down d (handler_of w) (ports_of w)) (worlds.stops (left_by outcome (disk.trace (disk_of w))) crash.image again) (worlds.then u call rest)
  before_calls w u v _ inputs said later (plays.reopens call carried) rest = worlds.then u call rest
  before_calls w _ v _ inputs _ later plays.fails rest = rest
  before_calls w _ v _ inputs _ later plays.stops rest = rest

  pub calls_of : (w v : World D H G) (all : List Action) (said : List Said) → PlaysAll disk handler ports s w all said v → Calls disk handler ports s w (inputs_of_all all) said v
  calls_of w _ _ _ plays.done = worlds.done
  calls_of w v _ _ (plays.then {step = x} {steps = xs} {said = one} {later = more} u first rest) =
      before_calls w u v x (inputs_of_all xs) one more first (calls_of u v xs more rest)

  -- a life goes on by the steps of a player
  pub goes_on : (form : Form) (p : Point) (old new : Option (World D H G)) (all : List Action) (said : List Said) → NeverFails ports → ((x : D) → disk.follows_crash_model x) → form.bounds ≡ s.config.limits
      → Ran disk handler ports s old all said new → GoesOn disk handler ports form s p old (inputs_of_all all) said new
  goes_on form p old new all said never always same ran before is stands =
      let one : before ≡ ran.before = same_Some before ran.before (sym is ∙ ran.old_is) in (
        ran.after,
        ran.new_is,
        calls_make_lives disk handler ports form s false (λ no. never) same p ran.before ran.after (inputs_of_all all) said (calls_of ran.before ran.after all said ran.plays)
            (subst (λ (x : World D H G). Stands disk handler ports form s x p) one stands) (always (disk_of ran.after)),
      )
