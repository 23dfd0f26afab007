-- Runs go on, call after call.
use Rattle.std.proofs.Common.{rules, tests, ◌≡◌, ◌≤◌, ◌+◌, ◌⊎◌, inl, inr, ℕ, Bool, true, false, List, [], ◌∷◌, ◌++◌, length, map, take, Option, Result, Ok, Err, refl, sym, ap, ◌∙◌, subst, arith, append_assoc, append-nil, length-append, option_to_list}
use Rattle.std.proofs.lemmas.List.{map-append}
use Rattle.std.specs.List.{AllByRecursion}
use Rattle.turn_cred.specs.Prelude.{Keys}
use Rattle.turn_cred.specs.declared.handler.AuthHandler as handlers
use Rattle.turn_disk.specs.Prelude.{EachImageSince}
use Rattle.turn_disk.specs.declared.disk.Disk as disks
use Rattle.turn_disk.proofs.Since.{since_same, since_weaken}
use Rattle.turn_history.specs.Prelude.{History}
use Rattle.turn_ports.specs.Ports.{has_failed}
use Rattle.turn_ports.specs.declared.generator.RelayAddressGenerator as generators
use Rattle.turn_step.specs.Prelude.{AnswersArrival, Setting, Arrives, Sent, added, KeepsSetting, MachineState, setting_of}
use Rattle.turn_store.specs.Prelude.{Form, EachImage, form_of}
use Rattle.turn_store.specs.declared.error.StoreError.{StoreError}
use Rattle.turn_store.specs.declared.error.StoreError.TheVariants as faults
use Rattle.turn_types.specs.Prelude.{Config}
use Rattle.turn_engine.specs.Prelude.{Advance, Advances, Commits, Submits, AtLeast, Opens, RecoversTo, Asked, Commit, IsAnswered, IsAtPlace, IsCall, IsNoAdvance, IsRun, IsSilent, Lasts, Leads, NeverFails, Place, Relay, Serves, ServerCall, Submit, Taken, accepted, after_of, all_asked, asked, asked_after, asked_at, beside_at, count_at, datagrams_of, handed_by, handed_out, history_at, last_moment, last_of, sent_about, start, ServerState, now_of}
use Rattle.turn_engine.specs.declared.error.SubmitError.{SubmitError}
use Rattle.turn_engine.specs.declared.error.SubmitError.TheVariants.{BatchFull, Memory, Stopped}
use Rattle.turn_engine.proofs.Answered.{accepted-append, answered_at, begins, history-cut, history-push, last_moment-push, run-push, sent_about-append, weaken_by}
use Rattle.turn_engine.proofs.Besides.{accepted-beside, all-beside, front_in_time, last-beside, now_before, run-beside, since_late, since_taken, stored_part}
use Rattle.turn_engine.proofs.Lists.{all-append, length-take-le}
use Rattle.turn_engine.proofs.Written.{images_stored}

pub by_bool : (b : Bool) → (b ≡ true) ⊎ (b ≡ false)
by_bool true = inl refl
by_bool false = inr refl

pub not_both : (b : Bool) → b ≡ true → b ≡ false → ⊥
not_both b yes_is no_is = cc

pub ok_is_no_error : {T E : Type 0} (x : T) (e : E) → Ok x ≡ Err e → ⊥
ok_is_no_error x e is = cc

pub memory_is_not_stopped : (r : Result Unit SubmitError) → r ≡ Err Memory → r ≡ Err Stopped → ⊥
memory_is_not_stopped r memory stopped = cc

pub none_failed : (old new : ℕ) → old ≡ new → has_failed old new ≡ false
none_failed old new same = subst (λ (n : ℕ). has_failed old n ≡ false) same (same_count old)
  where
    same_count : (n : ℕ) → has_failed n n ≡ false
    same_count n = search (rules, tests)

pub setting_kept : {H G : Type 0} (keys : H → Keys) (range : G → ℕ × ℕ) (old new : MachineState H G) → KeepsSetting range old new → setting_of keys range new ≡ setting_of keys range old
setting_kept {H = H} keys range old new kept =
    let made : Config → H → ℕ × ℕ → Bool → Setting = λ config handler ports pairs. record { config = config; keys = keys handler; range = ports; pairs = pairs } in
    ap (λ (x : Config). made x new.handler (range new.ports) new.pairs) kept.config ∙ ap (λ (x : H). made old.config x (range new.ports) new.pairs) kept.handler
    ∙ ap (λ (x : ℕ × ℕ). made old.config old.handler x new.pairs) kept.range_is ∙ ap (λ (x : Bool). made old.config old.handler (range old.ports) x) kept.pairs

module _ {D H G : Type 0} (disk : disks.Ghosts D) (handler : handlers.Ghosts H) (ports : generators.Ghosts G) where
  -- the server with the machine of another
  abbrev with_machine : ServerState D H G → ServerState D H G → ServerState D H G
  with_machine s v = record s { machine = v.machine }

  -- a call of a stopped server leaves it as it was but for its machine, and hands nothing out
  record IsSilentCall (server : ServerState D H G) (x : ServerCall D H G) : Type 0 where
    none : handed_by x ≡ []
    rest : after_of x ≡ with_machine server (after_of x)
    same : IsNoAdvance x → after_of x ≡ server

  as_it_was : (server : ServerState D H G) (x : ServerCall D H G) → handed_by x ≡ [] → after_of x ≡ server → IsSilentCall server x
  as_it_was server x none same = record {
    none = none;
    rest = same ∙ sym (ap (with_machine server) same);
    same = λ no. same;
  }

  silent_call : (server : ServerState D H G) (x : ServerCall D H G) → server.store.stopped ≡ true → IsCall disk handler ports server x → IsSilentCall server x
  silent_call server (Submit moment a result after) stopped call = as_it_was server (Submit moment a result after) refl (call.unchanged (call.stopped.1 stopped))
  silent_call server (Commit result after) stopped call = as_it_was server (Commit result after) (ap datagrams_of (call.stopped.1 stopped)) (call.unchanged stopped)
  silent_call server (Relay a sent after) stopped call = absurd (not_both server.store.stopped stopped call.0)
  silent_call server (Advance moment after) stopped call = record { none = refl; rest = call.rest; same = λ no. absurd no }

  pub silent : (server : ServerState D H G) (steps : List (ServerCall D H G)) → server.store.stopped ≡ true → Serves disk handler ports server steps → IsSilent server steps
  silent server [] stopped serves = record { none = refl; rest = refl; same = λ no. refl }
  silent server (x ∷ xs) stopped serves =
      let one = silent_call server x stopped serves.0 in
      let after = silent (after_of x) xs (ap (λ (v : ServerState D H G). v.store.stopped) one.rest ∙ stopped) serves.1 in
      record {
        none = ap (λ (l : List Sent). l ++ handed_out xs) one.none ∙ after.none;
        rest = after.rest ∙ ap (λ (v : ServerState D H G). with_machine v (last_of (after_of x) xs)) one.rest;
        same = λ no. after.same no.1 ∙ one.same no.0;
      }

  -- a disk that follows the crash model after calls was so before them
  pub call_earlier : (server : ServerState D H G) (x : ServerCall D H G) → IsCall disk handler ports server x → disk.follows_crash_model (after_of x).store.disk → disk.follows_crash_model server.store.disk
  call_earlier server (Submit moment a result after) call crash_model = subst (λ z. disk.follows_crash_model z.disk) call.store crash_model
  call_earlier server (Commit result after) call crash_model = call.uses.crash_model crash_model
  call_earlier server (Relay a sent after) call crash_model = subst (λ (v : ServerState D H G). disk.follows_crash_model v.store.disk) call.2 crash_model
  call_earlier server (Advance moment after) call crash_model = subst (λ (v : ServerState D H G). disk.follows_crash_model v.store.disk) call.rest crash_model

  pub earlier : (server : ServerState D H G) (steps : List (ServerCall D H G)) → Serves disk handler ports server steps → disk.follows_crash_model (last_of server steps).store.disk → disk.follows_crash_model server.store.disk
  earlier server [] serves crash_model = crash_model
  earlier server (x ∷ xs) serves crash_model = call_earlier server x serves.0 (earlier (after_of x) xs serves.1 crash_model)

  runs_on : (old new : ServerState D H G) (moment : ℕ) (a : Arrives) (result : Result Unit SubmitError) → Submits disk handler ports old new moment a result → (result ≡ Err Stopped → ⊥)
      → old.store.stopped ≡ false
  runs_on old new moment a result call not_stopped = elim (by_bool old.store.stopped) [
    | inl stopped ↦ absurd (not_stopped (call.stopped.1 stopped))
    | inr runs ↦ runs
  ]

  module _ (s : Setting) (h : History) (t : ℕ) where
    -- a server that recovers to all that was taken
    at_rest : (server : ServerState D H G) (p : Place) → IsRun s h t (p.handed ++ p.recent) → last_moment t (p.handed ++ p.recent) ≤ now_of server → disk.follows_crash_model server.store.disk
        → setting_of handler.key_of ports.range server.machine ≡ s → RecoversTo (disk.trace server.store.disk).now server (history_at h p) (count_at h p) → server.outs ≡ sent_about p.recent
        → server.arrivals ≡ length p.recent → AllByRecursion (λ x. server.since ≤ x.moment) p.recent → (NeverFails ports → AllByRecursion (λ x. x.failed ≡ false) (p.handed ++ p.recent)) → IsAtPlace disk handler ports s h t server p
    at_rest server p run late crash_model same recovers outs arrivals since flags = record {
      is_run = run;
      in_time = late;
      crash_model = crash_model;
      same_setting = same;
      images = images_stored (disk.trace server.store.disk).now server (history_at h p) (count_at h p) recovers;
      recovers = λ runs. recovers;
      outs = λ runs. outs;
      arrivals = λ runs. arrivals;
      since = λ runs. since;
      flags = flags;
    }

    record LeadsOn (old : ServerState D H G) (p : Place) (x : ServerCall D H G) : Type 0 where
      end : Place
      is_at : IsAtPlace disk handler ports s h t (after_of x) end
      more : List Taken
      handed : end.handed ≡ p.handed ++ more
      sent : handed_by x ≡ sent_about more
      arrivals : asked_at end ≡ asked_after ports old (asked_at p) x

    stays : (old : ServerState D H G) (p : Place) (x : ServerCall D H G) → IsAtPlace disk handler ports s h t (after_of x) p → handed_by x ≡ [] → asked_after ports old (asked_at p) x ≡ asked_at p → LeadsOn old p x
    stays old p x is none no_arrival = record {
      end = p;
      is_at = is;
      more = [];
      handed = sym (append-nil p.handed);
      sent = none;
      arrivals = sym no_arrival;
    }

    took : (old new : ServerState D H G) (p : Place) (moment : ℕ) (a : Arrives) (u : Unit) → IsAtPlace disk handler ports s h t old p → Submits disk handler ports old new moment a (Ok u)
        → LeadsOn old p (Submit moment a (Ok u) new)
    took old new p moment a u is call =
        let runs = runs_on old new moment a (Ok u) call (ok_is_no_error u Stopped) in
        let takes = call.takes (history_at h p) (count_at h p) (is.recovers runs) in
        let x : Taken = record {
          moment = moment;
          arrival = a;
          failed = has_failed (ports.failures old.machine.ports) (ports.failures new.machine.ports);
          pairs = old.machine.pairs;
          outcome = takes.outcome;
        } in
        let q : Place = record { handed = p.handed; recent = p.recent ++ x ∷ [] } in
        let same = setting_kept handler.key_of ports.range old.machine new.machine call.setting ∙ is.same_setting in
        let answers : IsAnswered s (history_at h p) x =
        subst (λ (z : Setting). AnswersArrival (record z { pairs = old.machine.pairs }) (history_at h p) moment x.failed a x.outcome) is.same_setting takes.answers in
        let in_time = is.in_time in
        let le = call.in_time in
        let now : now_of new ≡ moment = call.clock in
        let longer : (p.handed ++ p.recent) ++ x ∷ [] ≡ p.handed ++ (p.recent ++ x ∷ []) = append_assoc p.handed p.recent (x ∷ []) in
        let last : last_moment t (p.handed ++ (p.recent ++ x ∷ [])) ≡ moment = ap (last_moment t) (sym longer) ∙ last_moment-push t (p.handed ++ p.recent) x in
        let here = subst (λ z. RecoversTo (disk.trace z.disk).now new (history_at h p ++ added moment x.outcome.change) (count_at h p)) (sym call.store) takes.recovers in
        let recovers = subst (λ (l : History). RecoversTo (disk.trace new.store.disk).now new l (count_at h p)) (sym (history-push h p.handed p.recent x)) here in
        let outs : new.outs ≡ sent_about (p.recent ++ x ∷ []) =
        takes.outs ∙ ap (λ (l : List Sent). l ++ option_to_list x.outcome.sent) (is.outs runs)
        ∙ ap (λ (l : List Sent). sent_about p.recent ++ l) (sym (append-nil (option_to_list x.outcome.sent))) ∙ sym (sent_about-append p.recent (x ∷ [])) in
        record {
          end = q;
          is_at = at_rest new q (subst (IsRun s h t) longer (run-push s h t (p.handed ++ p.recent) x is.is_run (omega arith) answers)) (omega arith)
              (subst (λ z. disk.follows_crash_model z.disk) (sym call.store) is.crash_model) same recovers outs
              (call.arrivals ∙ ap (λ (n : ℕ). n + 1) (is.arrivals runs) ∙ sym (length-append p.recent (x ∷ [])))
              (since_taken old.since new.since old.arrivals moment p.recent x (is.arrivals runs) refl call.since call.since_kept (since_late (is.recovers runs).since call.in_time) (is.since runs))
              (λ never. subst (AllByRecursion (λ y. y.failed ≡ false)) longer
              (all-append (λ (y : Taken). y.failed ≡ false) (p.handed ++ p.recent) (x ∷ []) (is.flags never) (none_failed _ _ (never old.machine.ports new.machine.ports), tt)));
          more = [];
          handed = sym (append-nil p.handed);
          sent = refl;
          arrivals = ap (λ l. record { handed = map asked p.handed; recent = l }) (map-append asked p.recent (x ∷ []));
        }

    refused : (old new : ServerState D H G) (p : Place) (moment : ℕ) (a : Arrives) (why : SubmitError) → IsAtPlace disk handler ports s h t old p → Submits disk handler ports old new moment a (Err why)
        → IsAtPlace disk handler ports s h t new p
    refused old new p moment a Stopped is call = subst (λ (v : ServerState D H G). IsAtPlace disk handler ports s h t v p) (sym (call.unchanged refl)) is
    refused old new p moment a BatchFull is call = subst (λ (v : ServerState D H G). IsAtPlace disk handler ports s h t v p) (sym (call.unchanged_full refl)) is
    refused old new p moment a Memory is call =
        let runs = runs_on old new moment a (Err Memory) call (memory_is_not_stopped (Err Memory) refl) in
        let in_time = is.in_time in
        let le = call.in_time in
        let now : now_of new ≡ moment = call.memory_clock refl in
        at_rest new p is.is_run (omega arith) (subst (λ z. disk.follows_crash_model z.disk) (sym call.store) is.crash_model)
        (setting_kept handler.key_of ports.range old.machine new.machine call.setting ∙ is.same_setting)
        (subst (λ z. RecoversTo (disk.trace z.disk).now new (history_at h p) (count_at h p)) (sym call.store) (call.recovers (history_at h p) (count_at h p) (is.recovers runs)))
        (ap (λ (v : ServerState D H G). v.outs) (call.memory refl) ∙ is.outs runs) (ap (λ (v : ServerState D H G). v.arrivals) (call.memory refl) ∙ is.arrivals runs)
        (subst (λ (n : ℕ). AllByRecursion (λ (x : Taken). n ≤ x.moment) p.recent) (sym (ap (λ (v : ServerState D H G). v.since) (call.memory refl))) (is.since runs)) is.flags

    committed : (old new : ServerState D H G) (p : Place) (outs : List Sent) → IsAtPlace disk handler ports s h t old p → Commits disk old new (Ok outs) → disk.follows_crash_model new.store.disk
        → LeadsOn old p (Commit (Ok outs) new)
    committed old new p outs is call crash_model = elim (by_bool old.store.stopped) [
      | inl stopped ↦ absurd (ok_is_no_error outs faults.Stopped (call.stopped.1 stopped))
      | inr runs ↦
          let q : Place = record { handed = p.handed ++ p.recent; recent = [] } in
          let none : (p.handed ++ p.recent) ++ [] ≡ p.handed ++ p.recent = append-nil (p.handed ++ p.recent) in
          let in_time = is.in_time in
          let now : now_of new ≡ now_of old = ap (λ (v : ServerState D H G). now_of v) call.ok in
          let last : last_moment t ((p.handed ++ p.recent) ++ []) ≡ last_moment t (p.handed ++ p.recent) = ap (last_moment t) none in
          let recovers = call.recovers crash_model (history_at h p) (count_at h p) (is.recovers runs) in
          record {
            end = q;
            is_at = at_rest new q (subst (IsRun s h t) (sym none) is.is_run) (omega arith) crash_model
                (ap (λ (v : ServerState D H G). setting_of handler.key_of ports.range v.machine) call.ok ∙ is.same_setting)
                (subst (λ (l : List Taken). RecoversTo (disk.trace new.store.disk).now new (h ++ accepted l) (count_at h q)) (sym none) recovers)
                (ap (λ (v : ServerState D H G). v.outs) call.ok) (ap (λ (v : ServerState D H G). v.arrivals) call.ok) tt
                (λ never. subst (AllByRecursion (λ y. y.failed ≡ false)) (sym none) (is.flags never));
            more = p.recent;
            handed = refl;
            sent = call.handed ∙ is.outs runs;
            arrivals = ap (λ l. record { handed = l; recent = [] }) (map-append asked p.handed p.recent);
          }
    ]

    -- an arrival that was answered beside what is staged
    relayed : (old new : ServerState D H G) (p : Place) (a : Arrives) (sent : Option Sent) → IsAtPlace disk handler ports s h t old p → IsCall disk handler ports old (Relay a sent new)
        → LeadsOn old p (Relay a sent new)
    relayed old new p a sent is call =
        let runs = call.0 in
        let recovers = is.recovers runs in
        let x = beside_at (now_of old) old.machine.pairs a sent in
        let q : Place = record { handed = p.handed ++ x ∷ []; recent = p.recent } in
        let stored : take (count_at h p) (history_at h p) ≡ h ++ accepted p.handed = stored_part h p.handed p.recent in
        let answers = subst (λ (l : History). AnswersArrival (setting_of handler.key_of ports.range old.machine) l (now_of old) false a x.outcome) stored
        (call.1.answers (history_at h p) (count_at h p) recovers.after recovers.tuples) in
        let answered : IsAnswered s (h ++ accepted p.handed) x =
        subst (λ (z : Setting). AnswersArrival (record z { pairs = old.machine.pairs }) (h ++ accepted p.handed) (now_of old) false a x.outcome) is.same_setting answers in
        let whole : p.handed ++ x ∷ p.recent ≡ (p.handed ++ x ∷ []) ++ p.recent = sym (append_assoc p.handed (x ∷ []) p.recent) in
        let all : history_at h p ≡ history_at h q = ap (λ (l : History). h ++ l) (sym (accepted-beside p.handed p.recent (now_of old) old.machine.pairs a sent) ∙ ap accepted whole) in
        let count : count_at h p ≡ count_at h q = ap (λ (l : History). length (h ++ l)) (sym (accepted-append p.handed (x ∷ []) ∙ append-nil (accepted p.handed))) in
        let later = now_before old.arrivals old.since (now_of old) p.recent (is.arrivals runs) (is.since runs) call.1.at_clock in
        let early = front_in_time s h t p.handed p.recent is.is_run in
        let in_time = is.in_time in
        let first : last_moment t p.handed ≤ now_of old = omega arith in
        let place : IsAtPlace disk handler ports s h t old q = at_rest old q (subst (IsRun s h t) whole (run-beside s h t p.handed p.recent (now_of old) old.machine.pairs a sent is.is_run first later answered))
        (subst (λ (l : List Taken). last_moment t l ≤ now_of old) whole (last-beside t p.handed p.recent x (now_of old) is.in_time (omega arith))) is.crash_model is.same_setting
        (subst (λ (n : ℕ). RecoversTo (disk.trace old.store.disk).now old (history_at h q) n) count (subst (λ (l : History). RecoversTo (disk.trace old.store.disk).now old l (count_at h p)) all recovers))
        (is.outs runs) (is.arrivals runs) (is.since runs)
        (λ never. subst (AllByRecursion (λ (y : Taken). y.failed ≡ false)) whole (all-beside (λ (y : Taken). y.failed ≡ false) p.handed p.recent x (is.flags never) refl)) in
        record {
          end = q;
          is_at = subst (λ (v : ServerState D H G). IsAtPlace disk handler ports s h t v q) (sym call.2) place;
          more = x ∷ [];
          handed = refl;
          sent = sym (append-nil (option_to_list sent));
          arrivals = ap (λ l. record { handed = l; recent = map asked p.recent }) (map-append asked p.handed (x ∷ []));
        }

    -- the clock was brought to a moment
    advanced : (old new : ServerState D H G) (p : Place) (moment : ℕ) → IsAtPlace disk handler ports s h t old p → Advances disk ports old new moment → IsAtPlace disk handler ports s h t new p
    advanced old new p moment is call =
        let in_time = is.in_time in
        let le = call.in_time in
        let now = call.clock in
        let store : new.store ≡ old.store = ap (λ (v : ServerState D H G). v.store) call.rest in
        let ran : new.store.stopped ≡ false → old.store.stopped ≡ false = λ runs. sym (ap (λ z. z.stopped) store) ∙ runs in
        record {
          is_run = is.is_run;
          in_time = omega arith;
          crash_model = subst (λ z. disk.follows_crash_model z.disk) (sym store) is.crash_model;
          same_setting = setting_kept handler.key_of ports.range old.machine new.machine call.setting ∙ is.same_setting;
          images = subst (λ z. EachImage (disk.trace z.disk).now (AtLeast (form_of z) (history_at h p) (count_at h p) (now_of new))) (sym store)
              (λ image left. weaken_by (form_of old.store) (history_at h p) (count_at h p) (now_of old) (now_of new) image (omega arith) (is.images image left));
          recovers = λ runs. subst (λ z. RecoversTo (disk.trace z.disk).now new (history_at h p) (count_at h p)) (sym store) (call.recovers (history_at h p) (count_at h p) (is.recovers (ran runs)));
          outs = λ runs. ap (λ (v : ServerState D H G). v.outs) call.rest ∙ is.outs (ran runs);
          arrivals = λ runs. ap (λ (v : ServerState D H G). v.arrivals) call.rest ∙ is.arrivals (ran runs);
          since = λ runs. subst (λ (n : ℕ). AllByRecursion (λ (x : Taken). n ≤ x.moment) p.recent) (sym (ap (λ (v : ServerState D H G). v.since) call.rest)) (is.since (ran runs));
          flags = is.flags;
        }

    failed : (old new : ServerState D H G) (p : Place) (why : StoreError) → IsAtPlace disk handler ports s h t old p → Commits disk old new (Err why) → disk.follows_crash_model new.store.disk
        → IsAtPlace disk handler ports s h t new p
    failed old new p why is call crash_model = elim (by_bool old.store.stopped) [
      | inl stopped ↦ subst (λ (v : ServerState D H G). IsAtPlace disk handler ports s h t v p) (sym (call.unchanged stopped)) is
      | inr runs ↦
          let in_time = is.in_time in
          let now : now_of new ≡ now_of old = ap (λ (v : ServerState D H G). now_of v) call.err in
          let since = call.stop crash_model (history_at h p) (count_at h p) (is.recovers runs) in
          record {
            is_run = is.is_run;
            in_time = omega arith;
            crash_model = crash_model;
            same_setting = ap (λ (v : ServerState D H G). setting_of handler.key_of ports.range v.machine) call.err ∙ is.same_setting;
            images = λ image left.
                subst (λ (f : Form). AtLeast f (history_at h p) (count_at h p) (now_of new) image) (sym call.form)
                (subst (λ (m : ℕ). AtLeast (form_of old.store) (history_at h p) (count_at h p) m image) (sym now) (since.after image left));
            recovers = λ goes. absurd (not_both new.store.stopped call.stops goes);
            outs = λ goes. absurd (not_both new.store.stopped call.stops goes);
            arrivals = λ goes. absurd (not_both new.store.stopped call.stops goes);
            since = λ goes. absurd (not_both new.store.stopped call.stops goes);
            flags = is.flags;
          }
    ]

    leads_on : (server : ServerState D H G) (p : Place) (x : ServerCall D H G) → IsAtPlace disk handler ports s h t server p → IsCall disk handler ports server x
        → disk.follows_crash_model (after_of x).store.disk → LeadsOn server p x
    leads_on server p (Submit moment a (Ok u) after) is call crash_model = took server after p moment a u is call
    leads_on server p (Submit moment a (Err why) after) is call crash_model = stays server p (Submit moment a (Err why) after) (refused server after p moment a why is call) refl refl
    leads_on server p (Commit (Ok outs) after) is call crash_model = committed server after p outs is call crash_model
    leads_on server p (Relay a sent after) is call crash_model = relayed server after p a sent is call
    leads_on server p (Advance moment after) is call crash_model = stays server p (Advance moment after) (advanced server after p moment is call) refl refl
    leads_on server p (Commit (Err why) after) is call crash_model = stays server p (Commit (Err why) after) (failed server after p why is call crash_model) refl refl

    pub goes_on : (server : ServerState D H G) (p : Place) (steps : List (ServerCall D H G)) → IsAtPlace disk handler ports s h t server p → Serves disk handler ports server steps
        → disk.follows_crash_model (last_of server steps).store.disk → Leads disk handler ports s h t server p steps
    goes_on server p [] is serves crash_model = record {
      end = p;
      is_at = is;
      more = [];
      handed = sym (append-nil p.handed);
      sent = refl;
      arrivals = refl;
    }
    goes_on server p (x ∷ xs) is serves crash_model =
        let one = leads_on server p x is serves.0 (earlier (after_of x) xs serves.1 crash_model) in
        let rest = goes_on (after_of x) one.end xs one.is_at serves.1 crash_model in
        record {
          end = rest.end;
          is_at = rest.is_at;
          more = one.more ++ rest.more;
          handed = rest.handed ∙ ap (λ (l : List Taken). l ++ rest.more) one.handed ∙ append_assoc p.handed one.more rest.more;
          sent = ap (λ (l : List Sent). l ++ handed_out xs) one.sent ∙ ap (λ (l : List Sent). sent_about one.more ++ l) rest.sent ∙ sym (sent_about-append one.more rest.more);
          arrivals = rest.arrivals ∙ ap (λ (q : Asked). all_asked ports (after_of x) q xs) one.arrivals;
        }

    -- a stop in a call
    pub stops : (server : ServerState D H G) (p : Place) (x : ServerCall D H G) → IsAtPlace disk handler ports s h t server p → IsCall disk handler ports server x
        → disk.follows_crash_model (after_of x).store.disk
        → EachImageSince (disk.trace server.store.disk) (disk.trace (after_of x).store.disk) (AtLeast (form_of server.store) (history_at h p) (count_at h p) (now_of server))
    stops server p (Submit moment a result after) is call crash_model = since_same _ _ _ (ap (λ z. disk.trace z.disk) call.store) is.images
    stops server p (Relay a sent after) is call crash_model = since_same _ _ _ (ap (λ (v : ServerState D H G). disk.trace v.store.disk) call.2) is.images
    stops server p (Advance moment after) is call crash_model = since_same _ _ _ (ap (λ (v : ServerState D H G). disk.trace v.store.disk) call.rest) is.images
    stops server p (Commit result after) is call crash_model = elim (by_bool server.store.stopped) [
      | inl stopped ↦ since_same _ _ _ (ap (λ (v : ServerState D H G). disk.trace v.store.disk) (call.unchanged stopped)) is.images
      | inr runs ↦ call.stop crash_model (history_at h p) (count_at h p) (is.recovers runs)
    ]

    -- what was answered lasts
    pub lasts : (server : ServerState D H G) (p : Place) (before : List Taken) (x : Taken) (after : List Taken) (steps : List (ServerCall D H G)) (call : ServerCall D H G)
        → IsAtPlace disk handler ports s h t server p → p.handed ≡ before ++ x ∷ after → Serves disk handler ports server steps → IsCall disk handler ports (last_of server steps) call
        → disk.follows_crash_model (after_of call).store.disk → Lasts disk s (h ++ accepted before) x (last_of server steps) (after_of call)
    lasts server p before x after steps call is place serves calls crash_model =
        let last = last_of server steps in
        let to = goes_on server p steps is serves (call_earlier last call calls crash_model) in
        let first = (h ++ accepted before) ++ added x.moment x.outcome.change in
        let handed : to.end.handed ≡ before ++ x ∷ (after ++ to.more) = to.handed ∙ ap (λ (l : List Taken). l ++ to.more) place ∙ append_assoc before (x ∷ after) to.more in
        let whole : to.end.handed ++ to.end.recent ≡ before ++ x ∷ ((after ++ to.more) ++ to.end.recent) =
        ap (λ (l : List Taken). l ++ to.end.recent) handed ∙ append_assoc before (x ∷ (after ++ to.more)) to.end.recent in
        let all : history_at h to.end ≡ first ++ accepted ((after ++ to.more) ++ to.end.recent) = ap (λ (l : List Taken). h ++ accepted l) whole ∙ history-cut h before x ((after ++ to.more) ++ to.end.recent) in
        let sure : h ++ accepted to.end.handed ≡ first ++ accepted (after ++ to.more) = ap (λ (l : List Taken). h ++ accepted l) handed ∙ history-cut h before x (after ++ to.more) in
        let count : count_at h to.end ≡ length first + length (accepted (after ++ to.more)) = ap (λ (l : History). length l) sure ∙ length-append first (accepted (after ++ to.more)) in
        let long : length first ≤ count_at h to.end = subst (λ (n : ℕ). length first ≤ n) (sym count) (at_most (length first) (length (accepted (after ++ to.more)))) in
        record {
          answered = answered_at s h t before x (after ++ p.recent)
              (subst (IsRun s h t) (ap (λ (l : List Taken). l ++ p.recent) place ∙ append_assoc before (x ∷ after) p.recent) is.is_run);
          images = since_weaken _ _ (AtLeast (form_of last.store) (history_at h to.end) (count_at h to.end) (now_of last)) _
              (λ image at. begins (form_of last.store) (history_at h to.end) first (accepted ((after ++ to.more) ++ to.end.recent)) (count_at h to.end) (now_of last) image all long at)
              (stops last to.end call to.is_at calls crash_model);
        }
      where
        at_most : (m n : ℕ) → m ≤ m + n
        at_most m n = omega arith

pub starts : {D H G : Type 0} (disk : disks.Ghosts D) (handler : handlers.Ghosts H) (ports : generators.Ghosts G) (server : ServerState D H G) (h : History) (k : ℕ)
    → disk.follows_crash_model server.store.disk → RecoversTo (disk.trace server.store.disk).now server h k → k ≡ length h → server.outs ≡ [] → server.arrivals ≡ 0
    → IsAtPlace disk handler ports (setting_of handler.key_of ports.range server.machine) h (now_of server) server start
starts disk handler ports server h k crash_model recovers all none fresh =
    let state = (disk.trace server.store.disk).now in
    let same : h ++ [] ≡ h = append-nil h in
    let count : k ≡ length (h ++ []) = all ∙ ap (λ (l : History). length l) (sym same) in
    at_rest disk handler ports (setting_of handler.key_of ports.range server.machine) h (now_of server) server start tt (omega arith) crash_model refl
    (subst (λ (n : ℕ). RecoversTo state server (h ++ []) n) count (subst (λ (l : History). RecoversTo state server l k) (sym same) recovers)) none fresh tt (λ never. tt)

pub opened : {D H G : Type 0} (disk : disks.Ghosts D) (handler : handlers.Ghosts H) (ports : generators.Ghosts G) (form : Form) (h : History) (k m : ℕ) (content : List ℕ) (server : ServerState D H G)
    → disk.follows_crash_model server.store.disk → (o : Opens form h k m content (disk.trace server.store.disk).now server) → server.outs ≡ [] → server.arrivals ≡ 0
    → IsAtPlace disk handler ports (setting_of handler.key_of ports.range server.machine) (take o.count h) (now_of server) server start
opened disk handler ports form h k m content server crash_model o none fresh =
    starts disk handler ports server (take o.count h) o.count crash_model o.recovers (sym (length-take-le o.count h o.no_more)) none fresh
