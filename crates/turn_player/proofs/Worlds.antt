-- Calls that do what their contracts say make a life, in which what lasts stays on the disk.
use Rattle.std.proofs.Common.{◌≡◌, ◌≤◌, ◌<◌, ◌+◌, ◌-◌, ◌⊎◌, inl, inr, ℕ, Bool, true, false, List, [], ◌∷◌, ◌++◌, Option, length, map, max, take, Result, Ok, Err, refl, sym, ap, ◌∙◌, subst, arith, append_assoc, append-nil, length-append, option_to_list}
use Rattle.std.proofs.lemmas.List.{map-append, length-drop}
use Rattle.std.proofs.Math.Seq.{take-length, take-append-add, take-append_seam}
use Rattle.std.specs.List.{AllByRecursion}
use Rattle.turn_cred.specs.declared.handler.AuthHandler as handlers
use Rattle.turn_disk.specs.Prelude.{EachImageSince}
use Rattle.turn_disk.specs.declared.disk.Disk as disks
use Rattle.turn_disk.proofs.Since.{since_same, since_weaken}
use Rattle.turn_engine.specs.Prelude.{Advances, Commits, Opening, Submits, AtLeast, Opens, RecoversTo, Relays, beside, IsAnswered, NeverFails, Taken, accepted, beside_at, sent_about, IsRun, ServerState, limits_of, now_of}
use Rattle.turn_engine.specs.declared.error.ServerOpenError.{ServerOpenError}
use Rattle.turn_engine.specs.declared.error.SubmitError.{SubmitError}
use Rattle.turn_engine.specs.declared.error.SubmitError.TheVariants.{BatchFull, Memory, Stopped}
use Rattle.turn_engine.proofs.Answered.{accepted-append, sent_about-append, answered_at, begins, history-cut, weaken_by}
use Rattle.turn_engine.proofs.Besides.{accepted-beside, now_before, since_late, since_taken, stored_part}
use Rattle.turn_engine.proofs.Lists.{all-append, length-take-le}
use Rattle.turn_engine.proofs.Runs.{memory_is_not_stopped, none_failed, not_both, ok_is_no_error, setting_kept}
use Rattle.turn_engine.proofs.Stops.{left_alone, left_has}
use Rattle.turn_engine.proofs.Written.{stood}
use Rattle.turn_history.specs.Prelude.{History, clock}
use Rattle.turn_ports.specs.Ports.{has_failed}
use Rattle.turn_ports.specs.declared.generator.RelayAddressGenerator as generators
use Rattle.turn_step.specs.Prelude.{AnswersArrival, Setting, Arrives, Sent, added, MachineState, setting_of}
use Rattle.turn_store.specs.Prelude.{Form, EachImage, RepresentsAt, form_of}
use Rattle.turn_store.specs.declared.error.StoreError.{StoreError}
use Rattle.turn_store.specs.declared.error.StoreError.TheVariants as faults
use Rattle.turn_player.specs.Lives.{Advance, Arrive, Closed, Commit, Failed, Goes, Halted, HandedOut, Input, Lasting, Open, Opened, Point, Refused, Relay, Running, Said, Shut, Stop, arrivals, bound_of, count_of, found, handing_beside, handing_out, history_of, settled_history_of, sure_of, taken_of, unsettled_of, NeverFall, formatted, recent_of}
use Rattle.turn_player.specs.Lives as lives
use Rattle.turn_player.specs.Worlds.{Call, Calls, Down, IsDown, IsHalted, Leaves, Lives, Restarts, Runs, Serving, Stands, World, disk_of, handler_of, ports_of, said_by_commit, said_by_open, said_by_submit, world_after}
use Rattle.turn_player.specs.Worlds as worlds
use Rattle.turn_player.proofs.Growing.{accepted-found, taken-handed}
use Rattle.turn_player.specs.Laws.{IsOneRun, IsWhole, LastsOnDisk}
use Rattle.turn_player.proofs.Lives.{begins_life, keeps, one_run}

-- ---- Moments

by_then : (a b : ℕ) (xs : List Taken) → a ≤ b → AllByRecursion (λ (x : Taken). x.moment ≤ a) xs → AllByRecursion (λ (x : Taken). x.moment ≤ b) xs
by_then a b [] le all = tt
by_then a b (x ∷ xs) le all = (let at = all.0 in omega arith, by_then a b xs le all.1)

at_clock : (now c : ℕ) (xs : List Taken) → now ≡ c → AllByRecursion (λ (x : Taken). now ≤ x.moment) xs → AllByRecursion (λ (x : Taken). x.moment ≤ c) xs → AllByRecursion (λ (x : Taken). x.moment ≡ c) xs
at_clock now c [] is early late = tt
at_clock now c (x ∷ xs) is early late = (let low = early.0 in let high = late.0 in omega arith, at_clock now c xs is early.1 late.1)

module _ {D H G : Type 0} (disk : disks.Ghosts D) (handler : handlers.Ghosts H) (ports : generators.Ghosts G) (form : Form) (s : Setting) where
  later : (d : D) (sure : List Lasting) (recent : List Taken) (m n : ℕ) → m ≤ n → Leaves disk form d sure recent m → Leaves disk form d sure recent n
  later d sure recent m n le l = record { crash_model = l.crash_model; images = λ image is. weaken_by form _ _ m n image le (l.images image is) }

  -- what lasts is stored while a server runs, and nothing else
  recovering : (server : ServerState D H G) (sure : List Lasting) (recent : List Taken) (pairs : Bool) (c m : ℕ) → Runs disk handler ports form s server sure recent pairs c m → Leaves disk form server.store.disk sure [] m
  recovering server sure recent pairs c m runs =
      let mine = map taken_of sure in
      let k = length (accepted mine) in
      let whole : accepted (mine ++ recent) ≡ accepted mine ++ accepted recent = accepted-append mine recent in
      let plain : accepted (mine ++ []) ≡ accepted mine = ap accepted (append-nil mine) in
      let first : take k (accepted (mine ++ recent)) ≡ take k (accepted (mine ++ [])) =
      ap (λ (l : History). take k l) whole ∙ take-append_seam (accepted mine) (accepted recent) ∙ sym (take-length (accepted mine)) ∙ ap (λ (l : History). take k l) (sym plain) in
      let long : length (accepted (mine ++ [])) ≡ k = ap (λ (l : History). length l) plain in
      record {
        crash_model = runs.crash_model;
        images = λ image is. record {
          count = k;
          no_less = omega arith;
          no_more = omega arith;
          stands = record {
            clock = runs.recovers.at;
            bounded = omega (arith, runs.clock, runs.bounded, runs.recovers.at_late);
            stands = subst (λ (l : History). RepresentsAt form l runs.recovers.at image) first
                (subst (λ (f : Form). RepresentsAt f (take k (accepted (mine ++ recent))) runs.recovers.at image) runs.same_form
                (stood server.store (disk.trace server.store.disk).now runs.recovers.at (take k (accepted (mine ++ recent))) runs.recovers.stored image is));
          };
        };
      }

  pub leaves : (w : World D H G) (p : Point) → Stands disk handler ports form s w p → Leaves disk form (disk_of w) (sure_of p) (unsettled_of p) (bound_of p)
  leaves (Serving server) (Running sure recent pairs c m) stands = recovering server sure recent pairs c m stands
  leaves (Serving server) (Halted sure recent m) stands = stands.leaves
  leaves (Serving server) (Shut sure recent m) stands = absurd stands
  leaves (Down d h g) (Running sure recent pairs c m) stands = absurd stands
  leaves (Down d h g) (Halted sure recent m) stands = absurd stands
  leaves (Down d h g) (Shut sure recent m) stands = stands.leaves

  own_at : (w : World D H G) (p : Point) → Stands disk handler ports form s w p → (handler.key_of (handler_of w) ≡ s.keys) × (ports.range (ports_of w) ≡ s.range)
  own_at (Serving server) (Running sure recent pairs c m) stands = (ap (λ (z : Setting). z.keys) stands.same_setting, ap (λ (z : Setting). z.range) stands.same_setting)
  own_at (Serving server) (Halted sure recent m) stands = (ap (λ (z : Setting). z.keys) stands.same_setting, ap (λ (z : Setting). z.range) stands.same_setting)
  own_at (Serving server) (Shut sure recent m) stands = absurd stands
  own_at (Down d h g) (Running sure recent pairs c m) stands = absurd stands
  own_at (Down d h g) (Halted sure recent m) stands = absurd stands
  own_at (Down d h g) (Shut sure recent m) stands = (stands.keys, stands.range)

  -- a flag of a server's setting is the server's own
  own_pairs : (machine : MachineState H G) (pairs : Bool) → setting_of handler.key_of ports.range machine ≡ record s { pairs = pairs }
      → setting_of handler.key_of ports.range machine ≡ record s { pairs = machine.pairs }
  own_pairs machine pairs is = is ∙ ap (λ (b : Bool). record s { pairs = b }) (sym (ap (λ (z : Setting). z.pairs) is))

  -- ---- Stops inside calls

  -- what each image has at each moment of a commit
  pub commit_since : (p : Point) (old new : ServerState D H G) (result : Result (List Sent) StoreError) → Stands disk handler ports form s (Serving old) p → Commits disk old new result
      → disk.follows_crash_model new.store.disk → EachImageSince (disk.trace old.store.disk) (disk.trace new.store.disk) (AtLeast form (history_of p) (count_of p) (bound_of p))
  commit_since (Running sure recent pairs c m) old new result stands call crash_model =
      let h = accepted (arrivals sure recent) in
      let k = length (accepted (map taken_of sure)) in
      let bound : now_of old ≤ m = omega (arith, stands.clock, stands.bounded) in
      since_weaken (disk.trace old.store.disk) (disk.trace new.store.disk) (AtLeast (form_of old.store) h k (now_of old)) (AtLeast form h k m)
      (λ image at. weaken_by form h k (now_of old) m image bound (subst (λ (f : Form). AtLeast f h k (now_of old) image) stands.same_form at))
      (call.stop crash_model h k stands.recovers)
  commit_since (Halted sure recent m) old new result stands call crash_model =
      since_same _ _ _ (ap (λ (v : ServerState D H G). disk.trace v.store.disk) (call.unchanged stands.stopped)) stands.leaves.images
  commit_since (Shut sure recent m) old new result stands call crash_model = absurd stands

  -- and of an opening
  pub open_since : (p : Point) (w : World D H G) (result : Result (ServerState D H G) (ServerOpenError D H G)) → Stands disk handler ports form s w p
      → Opening disk (disk_of w) s.config (handler_of w) (ports_of w) result → disk.follows_crash_model (disk_of (world_after result))
      → EachImageSince (disk.trace (disk_of w)) (disk.trace (disk_of (world_after result))) (AtLeast form (settled_history_of p) (count_of p) (bound_of p))
  open_since p w (Ok server) stands call crash_model = let l = leaves w p stands in call.stop crash_model form (settled_history_of p) (count_of p) (bound_of p) l.images
  open_since p w (Err refused) stands call crash_model = let l = leaves w p stands in call.stop crash_model form (settled_history_of p) (count_of p) (bound_of p) l.images

  -- ---- The crash model

  -- a disk that follows the crash model after calls and stops was so before them
  opening_earlier : (w : World D H G) (result : Result (ServerState D H G) (ServerOpenError D H G)) → Opening disk (disk_of w) s.config (handler_of w) (ports_of w) result
      → disk.follows_crash_model (disk_of (world_after result)) → disk.follows_crash_model (disk_of w)
  opening_earlier w (Ok server) call crash_model = call.uses.crash_model crash_model
  opening_earlier w (Err refused) call crash_model = call.uses.crash_model crash_model

  call_earlier : (w v : World D H G) (input : Input) (said : List Said) → Call disk handler ports s w input said v → disk.follows_crash_model (disk_of v) → disk.follows_crash_model (disk_of w)
  call_earlier _ _ _ _ (worlds.submits result call) crash_model = subst (λ z. disk.follows_crash_model z.disk) call.store crash_model
  call_earlier _ _ _ _ worlds.no_submit crash_model = crash_model
  call_earlier _ _ _ _ (worlds.commits result call) crash_model = call.uses.crash_model crash_model
  call_earlier _ _ _ _ (worlds.advances call) crash_model = subst (λ (v : ServerState D H G). disk.follows_crash_model v.store.disk) call.rest crash_model
  call_earlier _ _ _ _ (worlds.relays sent early runs call same) crash_model = subst (λ (v : ServerState D H G). disk.follows_crash_model v.store.disk) same crash_model
  call_earlier _ _ _ _ worlds.no_commit crash_model = crash_model
  call_earlier w _ _ _ (worlds.opens result call) crash_model = opening_earlier w result call crash_model
  call_earlier _ _ _ _ (worlds.stops image of is) crash_model = is.crash_model crash_model
  call_earlier _ _ _ _ (worlds.commit_stops result call image of is) crash_model = call.uses.crash_model (is.crash_model crash_model)
  call_earlier w _ _ _ (worlds.open_stops result call image of is) crash_model = opening_earlier w result call (is.crash_model crash_model)

  pub earlier : (w v : World D H G) (inputs : List Input) (said : List Said) → Calls disk handler ports s w inputs said v → disk.follows_crash_model (disk_of v) → disk.follows_crash_model (disk_of w)
  earlier w _ _ _ worlds.done crash_model = crash_model
  earlier w v _ _ (worlds.then {input = input} {inputs = inputs} {said = said} {later = more} u call rest) crash_model = call_earlier w u input said call (earlier u v inputs more rest crash_model)

  -- ---- Arrivals

  pub record Next (may_fail : Bool) (p : Point) (input : Input) (said : List Said) (w : World D H G) : Type 0 where
    pub end : Point
    pub goes : Goes s may_fail p input said end
    pub stands : Stands disk handler ports form s w end

  module _ (may_fail : Bool) (never : may_fail ≡ false → NeverFails ports) where
    flag : (b : Bool) (old new : G) → (b ≡ false → NeverFails ports) → has_failed (ports.failures old) (ports.failures new) ≡ true → b ≡ true
    flag true old new fails failed = refl
    flag false old new fails failed = absurd (not_both (has_failed (ports.failures old) (ports.failures new)) failed (none_failed (ports.failures old) (ports.failures new) (fails refl old new)))

    -- a server that runs, and takes an arrival or none
    module _ (old : ServerState D H G) (sure : List Lasting) (recent : List Taken) (pairs : Bool) (c m : ℕ) (runs : Runs disk handler ports form s old sure recent pairs c m) where
      limit : (limits_of old).acts ≡ s.config.limits.acts
      limit = ap (λ (z : Setting). z.config.limits.acts) runs.same_setting

      room : old.arrivals ≤ (limits_of old).acts → (old.arrivals ≡ (limits_of old).acts → ⊥) → length recent < s.config.limits.acts
      room few not_full = omega (arith, limit, runs.counted, few, not_full)

      -- a server with the same but for its clock, of which as much lasts
      kept : (new : ServerState D H G) (more : List Lasting) (d n : ℕ) → new.store ≡ old.store → setting_of handler.key_of ports.range new.machine ≡ setting_of handler.key_of ports.range old.machine
          → new.outs ≡ old.outs → new.arrivals ≡ old.arrivals → new.since ≡ old.since → RecoversTo (disk.trace new.store.disk).now new (accepted (arrivals more recent)) (length (accepted (map taken_of more)))
          → now_of new ≡ d → c ≤ d → d ≤ n → Runs disk handler ports form s new more recent pairs d n
      kept new more d n same_store same_setting same_outs same_arrivals same_since recovers at le bounded = record {
        crash_model = subst (λ z. disk.follows_crash_model z.disk) (sym same_store) runs.crash_model;
        same_setting = same_setting ∙ runs.same_setting;
        same_form = ap form_of same_store ∙ runs.same_form;
        recovers = recovers;
        outs = same_outs ∙ runs.outs;
        counted = same_arrivals ∙ runs.counted;
        since = subst (λ (n : ℕ). AllByRecursion (λ (x : Taken). n ≤ x.moment) recent) (sym same_since) runs.since;
        late = by_then c d recent le runs.late;
        clock = at;
        bounded = bounded;
      }

      took : (new : ServerState D H G) (t : ℕ) (a : Arrives) (u : Unit) → Submits disk handler ports old new (max t (now_of old)) a (Ok u)
          → Next may_fail (Running sure recent pairs c m) (Arrive t a) [] (Serving new)
      took new t a u call =
          let mine = map taken_of sure in
          let h = accepted (mine ++ recent) in
          let k = length (accepted mine) in
          let at : max t (now_of old) ≡ max t c = ap (λ (n : ℕ). max t n) runs.clock in
          let failed = has_failed (ports.failures old.machine.ports) (ports.failures new.machine.ports) in
          let takes = call.takes h k runs.recovers in
          let x : Taken = record { moment = max t c; arrival = a; failed = failed; pairs = pairs; outcome = takes.outcome } in
          let answers : IsAnswered s h x =
          subst (λ (n : ℕ). AnswersArrival (record s { pairs = pairs }) h n failed a takes.outcome) at (subst (λ (z : Setting). AnswersArrival z h (max t (now_of old)) failed a takes.outcome) runs.same_setting takes.answers) in
          let change = takes.outcome.change in
          let history : accepted (mine ++ (recent ++ x ∷ [])) ≡ h ++ added (max t (now_of old)) change =
          ap accepted (sym (append_assoc mine recent (x ∷ []))) ∙ accepted-append (mine ++ recent) (x ∷ []) ∙ ap (λ (l : History). h ++ l) (append-nil (added (max t c) change))
          ∙ ap (λ (n : ℕ). h ++ added n change) (sym at) in
          let recovers = subst (λ z. RecoversTo (disk.trace z.disk).now new (h ++ added (max t (now_of old)) change) k) (sym call.store) takes.recovers in
          record {
            end = Running sure (recent ++ x ∷ []) pairs (max t c) (max t m);
            goes = lives.takes failed takes.outcome answers (flag may_fail old.machine.ports new.machine.ports never)
                (room call.few (λ all. ok_is_no_error u BatchFull (call.full.1 (runs.recovers.stored.runs, all))));
            stands = record {
              crash_model = subst (λ z. disk.follows_crash_model z.disk) (sym call.store) runs.crash_model;
              same_setting = setting_kept handler.key_of ports.range old.machine new.machine call.setting ∙ runs.same_setting;
              same_form = ap form_of call.store ∙ runs.same_form;
              recovers = subst (λ (l : History). RecoversTo (disk.trace new.store.disk).now new l k) (sym history) recovers;
              outs = takes.outs ∙ ap (λ (l : List Sent). l ++ option_to_list takes.outcome.sent) runs.outs
                  ∙ ap (λ (l : List Sent). sent_about recent ++ l) (sym (append-nil (option_to_list takes.outcome.sent))) ∙ sym (sent_about-append recent (x ∷ []));
              counted = call.arrivals ∙ ap (λ (n : ℕ). n + 1) runs.counted ∙ sym (length-append recent (x ∷ []));
              since = since_taken old.since new.since old.arrivals (max t (now_of old)) recent x runs.counted (sym at) call.since call.since_kept (since_late runs.recovers.since call.in_time) runs.since;
              late = all-append (λ (y : Taken). y.moment ≤ max t c) recent (x ∷ []) (by_then c (max t c) recent (omega arith) runs.late) (omega arith, tt);
              clock = call.clock ∙ at;
              bounded = omega (arith, runs.bounded);
            };
          }

      no_memory : (new : ServerState D H G) (t : ℕ) (a : Arrives) → Submits disk handler ports old new (max t (now_of old)) a (Err Memory)
          → Next may_fail (Running sure recent pairs c m) (Arrive t a) (Refused Memory ∷ []) (Serving new)
      no_memory new t a call =
          let h = accepted (map taken_of sure ++ recent) in
          let k = length (accepted (map taken_of sure)) in
          let same = call.memory refl in
          record {
            end = Running sure recent pairs (max t c) (max t m);
            goes = lives.no_memory (room call.few (λ all. let wrong = call.full.1 (runs.recovers.stored.runs, all) in cc));
            stands = kept new sure (max t c) (max t m) call.store (setting_kept handler.key_of ports.range old.machine new.machine call.setting)
                (ap (λ (v : ServerState D H G). v.outs) same) (ap (λ (v : ServerState D H G). v.arrivals) same) (ap (λ (v : ServerState D H G). v.since) same)
                (subst (λ z. RecoversTo (disk.trace z.disk).now new h k) (sym call.store) (call.recovers h k runs.recovers))
                (call.memory_clock refl ∙ ap (λ (n : ℕ). max t n) runs.clock) (omega arith) (omega (arith, runs.bounded));
          }

      full : (new : ServerState D H G) (t : ℕ) (a : Arrives) → Submits disk handler ports old new (max t (now_of old)) a (Err BatchFull)
          → Next may_fail (Running sure recent pairs c m) (Arrive t a) (Refused BatchFull ∷ []) (Serving new)
      full new t a call = record {
        end = Running sure recent pairs c (max t m);
        goes = lives.is_full (sym runs.counted ∙ (call.full.0 refl).1 ∙ limit);
        stands = subst (λ (v : ServerState D H G). Runs disk handler ports form s v sure recent pairs c (max t m)) (sym (call.unchanged_full refl))
            (kept old sure c (max t m) refl refl refl refl refl runs.recovers runs.clock (omega arith) (omega (arith, runs.bounded)));
      }

      advanced_by : (new : ServerState D H G) (t : ℕ) → Advances disk ports old new (max t (now_of old)) → Next may_fail (Running sure recent pairs c m) (Advance t) [] (Serving new)
      advanced_by new t call =
          let h = accepted (map taken_of sure ++ recent) in
          let k = length (accepted (map taken_of sure)) in
          let same_store : new.store ≡ old.store = ap (λ (v : ServerState D H G). v.store) call.rest in
          record {
            end = Running sure recent pairs (max t c) (max t m);
            goes = lives.advances;
            stands = kept new sure (max t c) (max t m) same_store (setting_kept handler.key_of ports.range old.machine new.machine call.setting)
                (ap (λ (v : ServerState D H G). v.outs) call.rest) (ap (λ (v : ServerState D H G). v.arrivals) call.rest) (ap (λ (v : ServerState D H G). v.since) call.rest)
                (subst (λ z. RecoversTo (disk.trace z.disk).now new h k) (sym same_store) (call.recovers h k runs.recovers))
                (call.clock ∙ ap (λ (n : ℕ). max t n) runs.clock) (omega arith) (omega (arith, runs.bounded));
          }

      -- an arrival beside what is staged
      relayed_by : (t : ℕ) (a : Arrives) (sent : Option Sent) → t ≤ now_of old → Relays handler.key_of ports.range (beside old) a sent
          → Next may_fail (Running sure recent pairs c m) (Relay t a) (handing_beside sent) (Serving old)
      relayed_by t a sent early call =
          let mine = map taken_of sure in
          let h = accepted (mine ++ recent) in
          let k = length (accepted mine) in
          let x = beside_at c pairs a sent in
          let more = sure ++ HandedOut x ∷ [] in
          let own = setting_of handler.key_of ports.range old.machine in
          let answers : IsAnswered s (accepted mine) x =
          subst (λ (n : ℕ). AnswersArrival (record s { pairs = pairs }) (accepted mine) n false a x.outcome) runs.clock
          (subst (λ (z : Setting). AnswersArrival z (accepted mine) (now_of old) false a x.outcome) runs.same_setting
          (subst (λ (l : History). AnswersArrival own l (now_of old) false a x.outcome) (stored_part [] mine recent) (call.answers h k runs.recovers.after runs.recovers.tuples))) in
          let first : map taken_of more ≡ mine ++ x ∷ [] = map-append taken_of sure (HandedOut x ∷ []) in
          let history : accepted (map taken_of more ++ recent) ≡ h =
          ap (λ (l : List Taken). accepted (l ++ recent)) first ∙ ap accepted (append_assoc mine (x ∷ []) recent) ∙ accepted-beside mine recent c pairs a sent in
          let count : length (accepted (map taken_of more)) ≡ k =
          ap (λ (l : List Taken). length (accepted l)) first ∙ ap (λ (l : History). length l) (accepted-append mine (x ∷ []) ∙ append-nil (accepted mine)) in
          let state = (disk.trace old.store.disk).now in
          record {
            end = Running more recent pairs c (max t m);
            goes = lives.relays sent (omega (arith, early, runs.clock)) answers (at_clock (now_of old) c recent runs.clock (now_before old.arrivals old.since (now_of old) recent runs.counted runs.since call.at_clock) runs.late);
            stands = kept old more c (max t m) refl refl refl refl refl
                (subst (λ (l : History). RecoversTo state old l (length (accepted (map taken_of more)))) (sym history) (subst (λ (n : ℕ). RecoversTo state old h n) (sym count) runs.recovers))
                runs.clock (omega arith) (omega (arith, runs.bounded));
          }

      committed_ok : (new : ServerState D H G) (outs : List Sent) → Commits disk old new (Ok outs) → disk.follows_crash_model new.store.disk
          → Next may_fail (Running sure recent pairs c m) Commit (handing_out outs) (Serving new)
      committed_ok new outs call crash_model =
          let mine = map taken_of sure in
          let h = accepted (mine ++ recent) in
          let all : map taken_of (sure ++ map HandedOut recent) ≡ mine ++ recent = map-append taken_of sure (map HandedOut recent) ∙ ap (λ (l : List Taken). mine ++ l) (taken-handed recent) in
          let history : accepted (map taken_of (sure ++ map HandedOut recent) ++ []) ≡ h = ap accepted (append-nil (map taken_of (sure ++ map HandedOut recent)) ∙ all) in
          let count : length (accepted (map taken_of (sure ++ map HandedOut recent))) ≡ length h = ap (λ (l : List Taken). length (accepted l)) all in
          let state = (disk.trace new.store.disk).now in
          let sent : sent_about recent ≡ outs = sym (call.handed ∙ runs.outs) in
          record {
            end = Running (sure ++ map HandedOut recent) [] pairs c m;
            goes = subst (λ (l : List Sent). Goes s may_fail (Running sure recent pairs c m) Commit (handing_out l) (Running (sure ++ map HandedOut recent) [] pairs c m)) sent lives.hands_out;
            stands = record {
              crash_model = crash_model;
              same_setting = ap (λ (v : ServerState D H G). setting_of handler.key_of ports.range v.machine) call.ok ∙ runs.same_setting;
              same_form = call.form ∙ runs.same_form;
              recovers = subst (λ (l : History). RecoversTo state new l (length (accepted (map taken_of (sure ++ map HandedOut recent))))) (sym history)
                  (subst (λ (n : ℕ). RecoversTo state new h n) (sym count) (call.recovers crash_model h (length (accepted mine)) runs.recovers));
              outs = ap (λ (v : ServerState D H G). v.outs) call.ok;
              counted = ap (λ (v : ServerState D H G). v.arrivals) call.ok;
              since = tt;
              late = tt;
              clock = ap (λ (v : ServerState D H G). now_of v) call.ok ∙ runs.clock;
              bounded = runs.bounded;
            };
          }

      -- a commit that failed had acts
      has_acts : (new : ServerState D H G) (why : StoreError) → Commits disk old new (Err why) → 1 ≤ length (accepted recent)
      has_acts new why call =
          let mine = map taken_of sure in
          let h = accepted (mine ++ recent) in
          let some : old.acts ≡ 0 → ⊥ = λ none. let wrong = call.nothing runs.recovers.stored.runs none in cc in
          let cut = length-drop (length (accepted mine)) h in
          let whole : length h ≡ length (accepted mine) + length (accepted recent) = ap (λ (l : History). length l) (accepted-append mine recent) ∙ length-append (accepted mine) (accepted recent) in
          omega (arith, some, runs.recovers.counted, cut, whole)

      committed_err : (new : ServerState D H G) (why : StoreError) → (why ≡ faults.Device) ⊎ (why ≡ faults.Worn) → Commits disk old new (Err why) → disk.follows_crash_model new.store.disk
          → Next may_fail (Running sure recent pairs c m) Commit (Failed why ∷ []) (Serving new)
      committed_err new why is call crash_model = record {
        end = Halted sure recent m;
        goes = lives.fails why is (has_acts new why call);
        stands = record {
          stopped = call.stops;
          same_setting = own_pairs new.machine pairs (ap (λ (v : ServerState D H G). setting_of handler.key_of ports.range v.machine) call.err ∙ runs.same_setting);
          leaves = record { crash_model = crash_model; images = (commit_since (Running sure recent pairs c m) old new (Err why) runs call crash_model).after };
        };
      }

    halted_same : (old new : ServerState D H G) (sure : List Lasting) (recent : List Taken) (m n : ℕ) → m ≤ n → new ≡ old → IsHalted disk handler ports form s old sure recent m
        → IsHalted disk handler ports form s new sure recent n
    halted_same old new sure recent m n le same stands = subst (λ (v : ServerState D H G). IsHalted disk handler ports form s v sure recent n) (sym same) (record {
      stopped = stands.stopped;
      same_setting = stands.same_setting;
      leaves = later old.store.disk sure recent m n le stands.leaves;
    })

    submitted : (p : Point) (old new : ServerState D H G) (t : ℕ) (a : Arrives) (result : Result Unit SubmitError) → Submits disk handler ports old new (max t (now_of old)) a result
        → Stands disk handler ports form s (Serving old) p → Next may_fail p (Arrive t a) (said_by_submit result) (Serving new)
    submitted (Running sure recent pairs c m) old new t a (Ok u) call stands = took old sure recent pairs c m stands new t a u call
    submitted (Running sure recent pairs c m) old new t a (Err Memory) call stands = no_memory old sure recent pairs c m stands new t a call
    submitted (Running sure recent pairs c m) old new t a (Err BatchFull) call stands = full old sure recent pairs c m stands new t a call
    submitted (Running sure recent pairs c m) old new t a (Err Stopped) call stands = absurd (not_both old.store.stopped (call.stopped.0 refl) stands.recovers.stored.runs)
    submitted (Halted sure recent m) old new t a (Ok u) call stands = absurd (ok_is_no_error u Stopped (call.stopped.1 stands.stopped))
    submitted (Halted sure recent m) old new t a (Err Memory) call stands = absurd (memory_is_not_stopped (Err Memory) refl (call.stopped.1 stands.stopped))
    submitted (Halted sure recent m) old new t a (Err BatchFull) call stands = absurd (not_both old.store.stopped stands.stopped (call.full.0 refl).0)
    submitted (Halted sure recent m) old new t a (Err Stopped) call stands = record {
      end = Halted sure recent (max t m);
      goes = lives.is_halted;
      stands = halted_same old new sure recent m (max t m) (omega arith) (call.unchanged refl) stands;
    }
    submitted (Shut sure recent m) old new t a result call stands = absurd stands

    -- ---- The clock

    advanced : (p : Point) (old new : ServerState D H G) (t : ℕ) → Advances disk ports old new (max t (now_of old)) → Stands disk handler ports form s (Serving old) p
        → Next may_fail p (Advance t) [] (Serving new)
    advanced (Running sure recent pairs c m) old new t call stands = advanced_by old sure recent pairs c m stands new t call
    advanced (Halted sure recent m) old new t call stands =
        let same_store : new.store ≡ old.store = ap (λ (v : ServerState D H G). v.store) call.rest in
        record {
          end = Halted sure recent (max t m);
          goes = lives.halted_advances;
          stands = record {
            stopped = ap (λ z. z.stopped) same_store ∙ stands.stopped;
            same_setting = own_pairs new.machine old.machine.pairs (setting_kept handler.key_of ports.range old.machine new.machine call.setting ∙ stands.same_setting);
            leaves = subst (λ z. Leaves disk form z.disk sure recent (max t m)) (sym same_store) (later old.store.disk sure recent m (max t m) (omega arith) stands.leaves);
          };
        }
    advanced (Shut sure recent m) old new t call stands = absurd stands

    -- ---- Arrivals beside what is staged

    relayed : (p : Point) (old new : ServerState D H G) (t : ℕ) (a : Arrives) (sent : Option Sent) → t ≤ now_of old → old.store.stopped ≡ false → Relays handler.key_of ports.range (beside old) a sent
        → new ≡ old → Stands disk handler ports form s (Serving old) p → Next may_fail p (Relay t a) (handing_beside sent) (Serving new)
    relayed (Running sure recent pairs c m) old new t a sent early goes call same stands =
        subst (λ (v : ServerState D H G). Next may_fail (Running sure recent pairs c m) (Relay t a) (handing_beside sent) (Serving v)) (sym same)
        (relayed_by old sure recent pairs c m stands t a sent early call)
    relayed (Halted sure recent m) old new t a sent early goes call same stands = absurd (not_both old.store.stopped stands.stopped goes)
    relayed (Shut sure recent m) old new t a sent early goes call same stands = absurd stands

    -- ---- Commits

    committed : (p : Point) (old new : ServerState D H G) (result : Result (List Sent) StoreError) → Commits disk old new result → Stands disk handler ports form s (Serving old) p
        → disk.follows_crash_model new.store.disk → Next may_fail p Commit (said_by_commit result) (Serving new)
    committed (Running sure recent pairs c m) old new (Ok outs) call stands crash_model = committed_ok old sure recent pairs c m stands new outs call crash_model
    committed (Running sure recent pairs c m) old new (Err faults.Device) call stands crash_model = committed_err old sure recent pairs c m stands new faults.Device (inl refl) call crash_model
    committed (Running sure recent pairs c m) old new (Err faults.Worn) call stands crash_model = committed_err old sure recent pairs c m stands new faults.Worn (inr refl) call crash_model
    committed (Running sure recent pairs c m) old new (Err faults.Stopped) call stands crash_model = absurd (not_both old.store.stopped (call.stopped.0 refl) stands.recovers.stored.runs)
    committed (Halted sure recent m) old new (Ok outs) call stands crash_model = absurd (ok_is_no_error outs faults.Stopped (call.stopped.1 stands.stopped))
    committed (Halted sure recent m) old new (Err faults.Device) call stands crash_model = let wrong = call.stopped.1 stands.stopped in cc
    committed (Halted sure recent m) old new (Err faults.Worn) call stands crash_model = let wrong = call.stopped.1 stands.stopped in cc
    committed (Halted sure recent m) old new (Err faults.Stopped) call stands crash_model = record {
      end = Halted sure recent m;
      goes = lives.stays_halted;
      stands = halted_same old new sure recent m m (omega arith) (call.unchanged stands.stopped) stands;
    }
    committed (Shut sure recent m) old new result call stands crash_model = absurd stands

    -- ---- Openings

    opened_setting : (w : World D H G) (p : Point) (machine : MachineState H G) → Stands disk handler ports form s w p
        → machine ≡ record { config = s.config; handler = handler_of w; ports = ports_of w; table = machine.table; pairs = machine.pairs }
        → setting_of handler.key_of ports.range machine ≡ record s { pairs = machine.pairs }
    opened_setting w p machine stands is =
        ap (λ (m : MachineState H G). setting_of handler.key_of ports.range m) is
        ∙ ap (λ k. record { config = s.config; keys = k; range = ports.range (ports_of w); pairs = machine.pairs }) ((own_at w p stands).0)
        ∙ ap (λ (r : ℕ × ℕ). record { config = s.config; keys = s.keys; range = r; pairs = machine.pairs }) ((own_at w p stands).1)

    yielded : (w : World D H G) (p : Point) (server : ServerState D H G) → Stands disk handler ports form s w p → Opening disk (disk_of w) s.config (handler_of w) (ports_of w) (Ok server)
        → Opens form (settled_history_of p) (count_of p) (bound_of p) (disk.trace (disk_of w)).now.bytes (disk.trace server.store.disk).now server
        → disk.follows_crash_model server.store.disk → Next may_fail p Open (Opened (now_of server) ∷ []) (Serving server)
    yielded w p server stands call opens crash_model =
        let sure = sure_of p in
        let recent = unsettled_of p in
        let mine = map taken_of sure in
        let whole : accepted (mine ++ recent) ≡ accepted mine ++ accepted recent = accepted-append mine recent in
        let size : length (accepted (mine ++ recent)) ≡ length (accepted mine) + length (accepted recent) = ap (λ (l : History). length l) whole ∙ length-append (accepted mine) (accepted recent) in
        let n = opens.count - length (accepted mine) in
        let few : n ≤ length (accepted recent) = omega (arith, opens.no_less, opens.no_more, size) in
        let cut : opens.count ≡ length (accepted mine) + n = omega (arith, opens.no_less) in
        let acts : accepted (map taken_of (sure ++ found recent n)) ≡ take opens.count (accepted (mine ++ recent)) =
        ap accepted (map-append taken_of sure (found recent n)) ∙ accepted-append mine (map taken_of (found recent n)) ∙ ap (λ (l : History). accepted mine ++ l) (accepted-found recent n)
        ∙ sym (take-append-add (accepted mine) (accepted recent) n) ∙ ap (λ (i : ℕ). take i (accepted mine ++ accepted recent)) (sym cut)
        ∙ ap (λ (l : History). take opens.count l) (sym whole) in
        let count : length (accepted (map taken_of (sure ++ found recent n))) ≡ opens.count =
        ap (λ (l : History). length l) acts ∙ length-take-le opens.count (accepted (mine ++ recent)) opens.no_more in
        let all : accepted (map taken_of (sure ++ found recent n) ++ []) ≡ take opens.count (accepted (mine ++ recent)) = ap accepted (append-nil (map taken_of (sure ++ found recent n))) ∙ acts in
        let state = (disk.trace server.store.disk).now in
        record {
          end = Running (sure ++ found recent n) [] server.machine.pairs (now_of server) (bound_of p);
          goes = lives.opens n server.machine.pairs (now_of server) few opens.bounded (subst (λ (l : History). clock l ≤ now_of server) (sym acts) opens.recovers.after.late);
          stands = record {
            crash_model = crash_model;
            same_setting = opened_setting w p server.machine stands call.machine;
            same_form = opens.same_form;
            recovers = subst (λ (l : History). RecoversTo state server l (length (accepted (map taken_of (sure ++ found recent n))))) (sym all)
                (subst (λ (i : ℕ). RecoversTo state server (take opens.count (accepted (mine ++ recent))) i) (sym count) opens.recovers);
            outs = ap (λ (v : ServerState D H G). v.outs) call.nothing;
            counted = ap (λ (v : ServerState D H G). v.arrivals) call.nothing;
            since = tt;
            late = tt;
            clock = refl;
            bounded = opens.bounded;
          };
        }

    opened : form.bounds ≡ s.config.limits → (p : Point) (w : World D H G) (result : Result (ServerState D H G) (ServerOpenError D H G)) → Opening disk (disk_of w) s.config (handler_of w) (ports_of w) result
        → Stands disk handler ports form s w p → disk.follows_crash_model (disk_of (world_after result)) → Next may_fail p Open (said_by_open result) (world_after result)
    opened same p w (Ok server) call stands crash_model =
        let l = leaves w p stands in
        yielded w p server stands call (call.recovers crash_model form (settled_history_of p) (count_of p) (bound_of p) same l.images) crash_model
    opened same p w (Err refused) call stands crash_model =
        let l = leaves w p stands in
        record {
          end = Shut (sure_of p) (unsettled_of p) (bound_of p);
          goes = lives.not_opened refused.fault (call.sound crash_model form (settled_history_of p) (count_of p) (bound_of p) same l.images);
          stands = record {
            keys = ap handler.key_of call.returned.0 ∙ (own_at w p stands).0;
            range = ap ports.range call.returned.1 ∙ (own_at w p stands).1;
            leaves = record { crash_model = crash_model; images = (call.stop crash_model form (settled_history_of p) (count_of p) (bound_of p) l.images).after };
          };
        }

    -- ---- Stops

    left : (w : World D H G) (p : Point) (last : D) (image : List ℕ) (d : D) (h : H) (g : G) (sure : List Lasting) (recent : List Taken) (m : ℕ) → Goes s may_fail p Stop [] (Shut sure recent m)
        → Stands disk handler ports form s w p → Restarts disk handler ports w last image d h g → AtLeast form (accepted (arrivals sure recent)) (length (accepted (map taken_of sure))) m image
        → disk.follows_crash_model d → Next may_fail p Stop [] (Down d h g)
    left w p last image d h g sure recent m goes stands is at crash_model = record {
      end = Shut sure recent m;
      goes = goes;
      stands = record {
        keys = is.keys ∙ (own_at w p stands).0;
        range = is.range ∙ (own_at w p stands).1;
        leaves = record { crash_model = crash_model; images = left_alone (disk.trace d).now _ image is.bytes is.settled at };
      };
    }

    commit_left : (p : Point) (old new : ServerState D H G) (image : List ℕ) (d : D) (h : H) (g : G) → Stands disk handler ports form s (Serving old) p
        → Restarts disk handler ports (Serving old) new.store.disk image d h g → AtLeast form (history_of p) (count_of p) (bound_of p) image → disk.follows_crash_model d → Next may_fail p Stop [] (Down d h g)
    commit_left (Running sure recent pairs c m) old new image d h g stands is at crash_model =
        left (Serving old) (Running sure recent pairs c m) new.store.disk image d h g sure recent m lives.commit_stops stands is at crash_model
    commit_left (Halted sure recent m) old new image d h g stands is at crash_model = left (Serving old) (Halted sure recent m) new.store.disk image d h g sure recent m lives.stops stands is at crash_model
    commit_left (Shut sure recent m) old new image d h g stands is at crash_model = absurd stands

    -- ---- One call, and many

    stays_down : (p : Point) (d : D) (h : H) (g : G) (input : Input)
        → ((sure : List Lasting) (recent : List Taken) (m : ℕ) → (n : ℕ) × (m ≤ n) × Goes s may_fail (Shut sure recent m) input (Closed ∷ []) (Shut sure recent n))
        → Stands disk handler ports form s (Down d h g) p → Next may_fail p input (Closed ∷ []) (Down d h g)
    stays_down (Running sure recent pairs c m) d h g input goes stands = absurd stands
    stays_down (Halted sure recent m) d h g input goes stands = absurd stands
    stays_down (Shut sure recent m) d h g input goes stands =
        let on = goes sure recent m in
        record { end = Shut sure recent on.0; goes = on.2; stands = record { keys = stands.keys; range = stands.range; leaves = later d sure recent m on.0 on.1 stands.leaves } }

    next : form.bounds ≡ s.config.limits → (p : Point) (w v : World D H G) (input : Input) (said : List Said) → Call disk handler ports s w input said v → Stands disk handler ports form s w p
        → disk.follows_crash_model (disk_of v) → Next may_fail p input said v
    next same p _ _ _ _ (worlds.submits {old = old} {new = new} {t = t} {a = a} result call) stands crash_model = submitted p old new t a result call stands
    next same p _ _ _ _ (worlds.no_submit {d = d} {h = h} {g = g} {t = t} {a = a}) stands crash_model = stays_down p d h g (Arrive t a) (λ sure recent m. (max t m, omega arith, lives.is_shut)) stands
    next same p _ _ _ _ (worlds.commits {old = old} {new = new} result call) stands crash_model = committed p old new result call stands crash_model
    next same p _ _ _ _ (worlds.advances {old = old} {new = new} {t = t} call) stands crash_model = advanced p old new t call stands
    next same p _ _ _ _ (worlds.relays {old = old} {new = new} {t = t} {a = a} sent early goes call is) stands crash_model = relayed p old new t a sent early goes call is stands
    next same p _ _ _ _ (worlds.no_commit {d = d} {h = h} {g = g}) stands crash_model = stays_down p d h g Commit (λ sure recent m. (m, omega arith, lives.stays_shut)) stands
    next same p w _ _ _ (worlds.opens result call) stands crash_model = opened same p w result call stands crash_model
    next same p w _ _ _ (worlds.stops {d = d} {h = h} {g = g} image of is) stands crash_model = left w p (disk_of w) image d h g (sure_of p) (unsettled_of p) (bound_of p) lives.stops stands is ((leaves w p stands).images image of) crash_model
    next same p _ _ _ _ (worlds.commit_stops {old = old} {new = new} {d = d} {h = h} {g = g} result call image of is) stands crash_model =
        commit_left p old new image d h g stands is (left_has (disk.trace old.store.disk) (disk.trace new.store.disk) _ image (commit_since p old new result stands call (is.crash_model crash_model)) of) crash_model
    next same p w _ _ _ (worlds.open_stops {d = d} {h = h} {g = g} result call image of is) stands crash_model =
        left w p (disk_of (world_after result)) image d h g (sure_of p) (unsettled_of p) (bound_of p) lives.stops stands is
        (left_has (disk.trace (disk_of w)) (disk.trace (disk_of (world_after result))) _ image (open_since p w result stands call (is.crash_model crash_model)) of) crash_model

    pub calls_make_lives : form.bounds ≡ s.config.limits → (p : Point) (w v : World D H G) (inputs : List Input) (said : List Said) → Calls disk handler ports s w inputs said v
        → Stands disk handler ports form s w p → disk.follows_crash_model (disk_of v) → Lives disk handler ports form s may_fail p inputs said v
    calls_make_lives same p w _ _ _ worlds.done stands crash_model = record { end = p; life = lives.ends; stands = stands }
    calls_make_lives same p w v _ _ (worlds.then {input = input} {inputs = inputs} {said = said} {later = more} u call rest) stands crash_model =
        let one = next same p w u input said call stands (earlier u v inputs more rest crash_model) in
        let last = calls_make_lives same one.end u v inputs more rest one.stands crash_model in
        record { end = last.end; life = lives.goes_on one.end one.goes last.life; stands = last.stands }

pub formatted_represents : {D H G : Type 0} (disk : disks.Ghosts D) (handler : handlers.Ghosts H) (ports : generators.Ghosts G) (form : Form) (s : Setting) (d : D) (h : H) (g : G) → disk.follows_crash_model d
    → EachImage (disk.trace d).now (RepresentsAt form [] 0) → handler.key_of h ≡ s.keys → ports.range g ≡ s.range → Stands disk handler ports form s (Down d h g) lives.formatted
formatted_represents disk handler ports form s d h g crash_model images keys range = record {
  keys = keys;
  range = range;
  leaves = record {
    crash_model = crash_model;
    images = λ image is. record {
      count = 0;
      no_less = omega arith;
      no_more = omega arith;
      stands = record { clock = 0; bounded = omega arith; stands = images image is };
    };
  };
}

-- ---- What lasts, over whole lives

module _ {D H G : Type 0} (disk : disks.Ghosts D) (handler : handlers.Ghosts H) (ports : generators.Ghosts G) (form : Form) (s : Setting) (may_fail : Bool) (same : form.bounds ≡ s.config.limits)
    (never : may_fail ≡ false → NeverFails ports) where
  pub whole : (w v : World D H G) (inputs : List Input) (said : List Said) → Calls disk handler ports s w inputs said v → Stands disk handler ports form s w formatted → NeverFall 0 inputs
      → disk.follows_crash_model (disk_of v) → IsWhole disk handler ports form s may_fail inputs said v
  whole w v inputs said calls stands rising crash_model =
      let lives = calls_make_lives disk handler ports form s may_fail never same formatted w v inputs said calls stands crash_model in
      record {
        end = lives.end;
        life = lives.life;
        stands = lives.stands;
        one = one_run s may_fail formatted lives.end inputs said [] lives.life rising (begins_life s may_fail);
      }

  pub lasts : (p : Point) (w v : World D H G) (inputs : List Input) (said : List Said) (sent : List Sent) (before : List Lasting) (x : Lasting) (after : List Lasting)
      → Calls disk handler ports s w inputs said v → Stands disk handler ports form s w p → IsOneRun s may_fail sent p → sure_of p ≡ before ++ x ∷ after
      → disk.follows_crash_model (disk_of v) → LastsOnDisk disk form s before (taken_of x) (disk_of v)
  lasts p w v inputs said sent before x after calls stands one place crash_model =
      let lives = calls_make_lives disk handler ports form s may_fail never same p w v inputs said calls stands crash_model in
      let q = lives.end in
      let kept = keeps s may_fail p q inputs said lives.life in
      let y = taken_of x in
      let mine = map taken_of before in
      let rest = map taken_of (after ++ kept.more) in
      let sure : map taken_of (sure_of q) ≡ mine ++ y ∷ rest =
      ap (map taken_of) (kept.sure ∙ ap (λ (l : List Lasting). l ++ kept.more) place ∙ append_assoc before (x ∷ after) kept.more) ∙ map-append taken_of before (x ∷ (after ++ kept.more)) in
      let all : map taken_of (sure_of q) ++ unsettled_of q ≡ mine ++ y ∷ (rest ++ unsettled_of q) =
      ap (λ (l : List Taken). l ++ unsettled_of q) sure ∙ append_assoc mine (y ∷ rest) (unsettled_of q) in
      let first = accepted mine ++ added y.moment y.outcome.change in
      let history : settled_history_of q ≡ first ++ accepted (rest ++ unsettled_of q) = ap accepted all ∙ history-cut [] mine y (rest ++ unsettled_of q) in
      let count : count_of q ≡ length first + length (accepted rest) =
      ap (λ (l : List Taken). length (accepted l)) sure ∙ ap (λ (l : History). length l) (history-cut [] mine y rest) ∙ length-append first (accepted rest) in
      let long : length first ≤ count_of q = omega (arith, count) in
      let run : IsRun s [] 0 (mine ++ y ∷ (map taken_of after ++ recent_of p)) =
      subst (IsRun s [] 0) (ap (λ (l : List Lasting). map taken_of l ++ recent_of p) place ∙ ap (λ (l : List Taken). l ++ recent_of p) (map-append taken_of before (x ∷ after))
      ∙ append_assoc mine (y ∷ map taken_of after) (recent_of p)) one.is_run in
      record {
        answered = answered_at s [] 0 mine y (map taken_of after ++ recent_of p) run;
        bound = bound_of q;
        images = λ image is. begins form (settled_history_of q) first (accepted (rest ++ unsettled_of q)) (count_of q) (bound_of q) image history long
            ((leaves disk handler ports form s v q lives.stands).images image is);
      }
