use Rattle.std.proofs.Common.{◌≡◌, ◌≤◌, ◌+◌, ◌++◌, ℕ, List, None, length, map, option_map, sym, ap, ◌∙◌, subst, arith, option_to_list, IfSome}
use Rattle.turn_record.specs.Prelude.{Writes}
use Rattle.turn_ports.specs.Ports.{has_failed}
use Rattle.turn_step.specs.Prelude.{AnswersArrival, Sent, added, CountsOne, HoldsPorts, IsAfter, IsPurged, KeepsSetting, setting_of, arrival_of, sent_of}
use Rattle.turn_types.specs.Prelude.{Config}
use Rattle.turn_table.specs.Prelude.{State}
use Rattle.turn_engine.proofs.Lists.{on_err, room_for_one, when_ok}
use Rattle.turn_engine.specs.Prelude.{tuples_of, ServerState, limits_of, now_of}
use Rattle.turn_engine.proofs.Taken.{after_same, first_late, old_late, counts_same, keeps_both, moment_changed, recovers_later, recovers_taken, sound_changed, sound_later, written_by}
use Rattle.turn_types.specs.declared.limits.Bounds.{Bounds}
use Rattle.turn_engine.proofs.server.Server.take.Goals as goal

pub invariant_of-self : goal.invariant_of-self
invariant_of-self g c =
    let le = subst (λ s. now_of s ≤ c.args.moment) (sym c.self.view_is) c.requires.clock in (
      sound_later _ _ _ _ _ _ _ _ c.args.moment _ _ c.self.inside.machine.table c.prepare.new.self.table le c.prepare.ensures.table
          (ap (λ (x : Config). x.limits) c.prepare.ensures.setting.config) c.prepare.ensures.setting.pairs c.self.invariant.0,
      c.self.invariant.1,
    )

pub returns-in_err-step-clause-store : goal.returns-in_err-step-clause-store
returns-in_err-step-clause-store g c = ap (λ s. s.store) c.self.view_is

pub returns-in_err-step-clause-clock : goal.returns-in_err-step-clause-clock
returns-in_err-step-clause-clock g c = c.prepare.ensures.table.moment

pub returns-in_err-step-clause-setting : goal.returns-in_err-step-clause-setting
returns-in_err-step-clause-setting g c = subst (λ s. KeepsSetting g.G.RelayAddressGenerator.range s.machine c.prepare.new.self) c.self.view_is c.prepare.ensures.setting

pub returns-in_err-step-clause-count : goal.returns-in_err-step-clause-count
returns-in_err-step-clause-count g c =
    let failures = g.G.RelayAddressGenerator.failures in
    subst (λ s. CountsOne (failures s.machine.ports) (failures c.prepare.new.self.ports)) c.self.view_is c.prepare.ensures.count

pub returns-in_err-step-clause-held : goal.returns-in_err-step-clause-held
returns-in_err-step-clause-held g c held =
    c.in_err-step.ensures.held_err
    (subst (λ v. HoldsPorts g.G.RelayAddressGenerator.holds v.machine None) (sym c.self.view_is) held)

pub returns-in_err-step-clause-memory : goal.returns-in_err-step-clause-memory
returns-in_err-step-clause-memory g c = on_err _ (ap (λ (s : ServerState _ _ _). record s { machine = c.prepare.new.self }) c.self.view_is)

pub returns-in_err-step-clause-memory_table : goal.returns-in_err-step-clause-memory_table
returns-in_err-step-clause-memory_table g c = on_err _ (subst (λ s. IsPurged c.args.moment s.machine.table c.prepare.new.self.table) c.self.view_is c.prepare.ensures.table)

pub returns-in_err-step-clause-memory_rests : goal.returns-in_err-step-clause-memory_rests
returns-in_err-step-clause-memory_rests g c = λ h k recovers.
    let moment = c.prepare.ensures.table.moment in
    on_err _ (recovers_later _ c.args.self.now _ h k recovers (ap (λ s. s.store) c.self.view_is) (ap (λ s. s.payload) c.self.view_is) (ap (λ s. s.acts) c.self.view_is)
    (ap (λ s. s.tuples) c.self.view_is) (ap (λ s. s.since) c.self.view_is) (omega (arith, c.requires.clock, moment)) (c.prepare.ensures.after h (subst (λ m. IsAfter m h) (sym (ap (λ s. s.machine) c.self.view_is)) recovers.after)))

pub invariant_of-self-then-is_err : goal.invariant_of-self-then-is_err
invariant_of-self-then-is_err g c =
    let le = subst (λ s. now_of s ≤ c.args.moment) (sym c.self.view_is) c.requires.clock in (
      rw c.abandon.ensures.table (sound_later _ _ _ _ _ _ _ _ c.args.moment _ _ c.self.inside.machine.table c.prepare.new.self.table le c.prepare.ensures.table
          (ap (λ (x : Config). x.limits) (c.abandon.ensures.setting.config ∙ c.prepare.ensures.setting.config)) (c.abandon.ensures.setting.pairs ∙ c.prepare.ensures.setting.pairs) c.self.invariant.0),
      λ none. let empty = c.self.invariant.1 none in record { payload_is = empty.payload_is; tuples_are = empty.tuples_are; outs_are = ap (map sent_of) c.reserve.ensures.items ∙ empty.outs_are },
    )

pub returns-then-is_err-clause-store : goal.returns-then-is_err-clause-store
returns-then-is_err-clause-store g c = ap (λ s. s.store) c.self.view_is

pub returns-then-is_err-clause-clock : goal.returns-then-is_err-clause-clock
returns-then-is_err-clause-clock g c = ap (λ (s : State). s.moment) c.abandon.ensures.table ∙ c.prepare.ensures.table.moment

pub returns-then-is_err-clause-setting : goal.returns-then-is_err-clause-setting
returns-then-is_err-clause-setting g c =
    subst (λ s. KeepsSetting g.G.RelayAddressGenerator.range s.machine c.abandon.new.self) c.self.view_is (keeps_both _ _ _ _ c.prepare.ensures.setting c.abandon.ensures.setting)

pub returns-then-is_err-clause-count : goal.returns-then-is_err-clause-count
returns-then-is_err-clause-count g c =
    let failures = g.G.RelayAddressGenerator.failures in
    counts_same _ (failures c.prepare.new.self.ports) _ (subst (λ s. CountsOne (failures s.machine.ports) (failures c.prepare.new.self.ports)) c.self.view_is c.prepare.ensures.count)
    c.abandon.ensures.count

pub returns-then-is_err-clause-held : goal.returns-then-is_err-clause-held
returns-then-is_err-clause-held g c held =
    c.abandon.ensures.held c.in_ok-step.ensures.ready
    (c.in_ok-step.ensures.held (subst (λ v. HoldsPorts g.G.RelayAddressGenerator.holds v.machine None) (sym c.self.view_is) held))

pub returns-then-is_err-clause-memory : goal.returns-then-is_err-clause-memory
returns-then-is_err-clause-memory g c =
    let inside = c.self.inside in
    let with : List Sent → ServerState _ _ _ = λ outs. record {
      store = inside.store;
      machine = c.abandon.new.self;
      payload = inside.batch.payload;
      acts = inside.batch.acts;
      tuples = inside.batch.tuples;
      outs = outs;
      arrivals = inside.arrivals;
      since = inside.since;
    } in
    ap (λ l. with (map sent_of l)) c.reserve.ensures.items ∙ ap (λ (s : ServerState _ _ _). record s { machine = c.abandon.new.self }) c.self.view_is

pub returns-then-is_err-clause-memory_table : goal.returns-then-is_err-clause-memory_table
returns-then-is_err-clause-memory_table g c =
    rw c.abandon.ensures.table (subst (λ s. IsPurged c.args.moment s.machine.table c.prepare.new.self.table) c.self.view_is c.prepare.ensures.table)

pub returns-then-is_err-clause-memory_rests : goal.returns-then-is_err-clause-memory_rests
returns-then-is_err-clause-memory_rests g c = λ h k recovers.
    let moment = c.prepare.ensures.table.moment in
    let same = ap (λ (s : State). s.moment) c.abandon.ensures.table in
    let after = c.prepare.ensures.after h (subst (λ m. IsAfter m h) (sym (ap (λ s. s.machine) c.self.view_is)) recovers.after) in
    recovers_later _ c.args.self.now _ h k recovers (ap (λ s. s.store) c.self.view_is) (ap (λ s. s.payload) c.self.view_is) (ap (λ s. s.acts) c.self.view_is)
    (ap (λ s. s.tuples) c.self.view_is) (ap (λ s. s.since) c.self.view_is) (omega (arith, c.requires.clock, moment, same)) (after_same c.prepare.new.self c.abandon.new.self h c.abandon.ensures.setting.config c.abandon.ensures.table after)

pub stage_datagram-requires : goal.stage_datagram-requires
stage_datagram-requires g c =
    let enough = when_ok c.reserve.result _ c.reserve.ensures.ok (sym c.is_err.ensures.value ∙ c.if-is_err.false) in
    record {
      room = room_for_one _ _ _ _ _ _ _ enough c.requires.room c.from.ensures (ap (λ v. v.arrivals) c.self.view_is)
          (c.acts.ensures.value ∙ ap (λ (b : Bounds). b.acts) c.limits.ensures.value ∙ ap (λ (x : Config). x.limits.acts) c.config.ensures ∙ ap (λ v. (limits_of v).acts) c.self.view_is);
    }

pub overflow_add-self : goal.overflow_add-self
overflow_add-self g c = let small = rw (← c.self.view_is) at c.requires.small in omega (arith, small)

pub invariant_of-self-2 : goal.invariant_of-self-2
invariant_of-self-2 g c =
    let le = subst (λ s. now_of s ≤ c.args.moment) (sym c.self.view_is) c.requires.clock in
    let room = rw (← c.self.view_is) at c.requires.room in
    let same = ap (λ (x : Config). x.limits.acts) c.prepare.ensures.setting.config in
    let later = sound_later _ _ _ _ _ _ _ _ c.args.moment _ _ c.self.inside.machine.table c.prepare.new.self.table le c.prepare.ensures.table
    (ap (λ (x : Config). x.limits) c.prepare.ensures.setting.config) c.prepare.ensures.setting.pairs c.self.invariant.0 in (
      sound_changed _ _ _ _ _ _ _ _ _ _ _ c.args.moment _ _ c.prepare.new.self.table c.apply-datagram.new.self.table c.in_ok-step.step.change c.apply-datagram.ensures.table
          (written_by c.self.inside.store.version _ c.in_ok-step.step.change (c.prepare.ensures.setting.pairs ∙ c.self.invariant.0.pairs_is) c.in_ok-step.ensures.ready.no_pairs)
          (ap (λ (x : Config). x.limits) c.apply-datagram.ensures.setting.config) c.apply-datagram.ensures.setting.pairs c.stage_act.ensures.bounds c.stage_act.ensures.version c.stage_act.ensures.acts (omega (arith, room, same)) later,
      λ none. absurd (omega arith),
    )

pub returns-clause-store : goal.returns-clause-store
returns-clause-store g c = ap (λ s. s.store) c.self.view_is

pub returns-clause-clock : goal.returns-clause-clock
returns-clause-clock g c =
    ap (λ (s : State). s.moment) c.apply-datagram.ensures.table ∙ moment_changed c.prepare.new.self.table c.in_ok-step.step.change ∙ c.prepare.ensures.table.moment

pub returns-clause-setting : goal.returns-clause-setting
returns-clause-setting g c =
    subst (λ s. KeepsSetting g.G.RelayAddressGenerator.range s.machine c.apply-datagram.new.self) c.self.view_is (keeps_both _ _ _ _ c.prepare.ensures.setting c.apply-datagram.ensures.setting)

pub returns-clause-count : goal.returns-clause-count
returns-clause-count g c =
    let failures = g.G.RelayAddressGenerator.failures in
    counts_same _ (failures c.prepare.new.self.ports) _ (subst (λ s. CountsOne (failures s.machine.ports) (failures c.prepare.new.self.ports)) c.self.view_is c.prepare.ensures.count)
    c.apply-datagram.ensures.count

pub returns-clause-held : goal.returns-clause-held
returns-clause-held g c held =
    c.apply-datagram.ensures.held
    (c.in_ok-step.ensures.held (subst (λ v. HoldsPorts g.G.RelayAddressGenerator.holds v.machine None) (sym c.self.view_is) held))

pub returns-clause-arrivals : goal.returns-clause-arrivals
returns-clause-arrivals g c = ap (λ s. s.arrivals + 1) c.self.view_is

pub returns-clause-ok : goal.returns-clause-ok
returns-clause-ok g c = λ h k recovers.
    let t = c.args.moment in
    let change = c.in_ok-step.step.change in
    let failures = g.G.RelayAddressGenerator.failures in
    let after_old : IsAfter c.self.inside.machine h = subst (λ m. IsAfter m h) (sym (ap (λ s. s.machine) c.self.view_is)) recovers.after in
    let moment : c.prepare.new.self.table.moment ≡ t = c.prepare.ensures.table.moment in
    let answers = subst (λ s. AnswersArrival (setting_of g.H.AuthHandler.key_of g.G.RelayAddressGenerator.range s.machine) h t
    (has_failed (failures s.machine.ports) (failures c.prepare.new.self.ports)) (arrival_of c.args.arrival.now) c.in_ok-step.step) c.self.view_is (c.in_ok-step.ensures.answers h after_old) in
    let after = subst (λ (u : ℕ). IsAfter c.apply-datagram.new.self (h ++ added u change)) moment (c.apply-datagram.ensures.after h (c.prepare.ensures.after h after_old)) in
    let here = written_by c.self.inside.store.version _ change (c.prepare.ensures.setting.pairs ∙ c.self.invariant.0.pairs_is) c.in_ok-step.ensures.ready.no_pairs in
    let writes = subst (λ s. IfSome change (λ x. Writes s.store.version x.act)) c.self.view_is here in
    record {
      outcome = c.in_ok-step.step;
      answers = subst (λ (n : ℕ). AnswersArrival (setting_of g.H.AuthHandler.key_of g.G.RelayAddressGenerator.range c.args.self.now.machine) h t
          (has_failed (failures c.args.self.now.machine.ports) n) (arrival_of c.args.arrival.now) c.in_ok-step.step) (sym c.apply-datagram.ensures.count) answers;
      outs = c.stage_datagram.ensures ∙ ap (λ l. map sent_of l ++ option_to_list (option_map sent_of c.apply-datagram.result)) c.reserve.ensures.items
          ∙ ap (λ o. map sent_of c.self.inside.outgoing.items ++ option_to_list o) c.apply-datagram.ensures.sent ∙ ap (λ s. s.outs ++ option_to_list c.in_ok-step.step.sent) c.self.view_is;
      recovers = recovers_taken _ c.args.self.now _ h k t change recovers (ap (λ s. s.store) c.self.view_is) (λ es is. c.stage_act.ensures.payload es (ap (λ s. s.payload) c.self.view_is ∙ is))
          (c.stage_act.ensures.acts ∙ ap (λ s. s.acts + length (added t change)) c.self.view_is)
          (c.stage_act.ensures.tuples ∙ ap (λ s. s.tuples ++ tuples_of (added t change)) c.self.view_is)
          (first_late _ _ _ _ c.first_moment-self-inside.ensures.first c.first_moment-self-inside.ensures.later (old_late c.requires.clock (ap (λ s. s.since) c.self.view_is) recovers.since)) c.requires.clock
          (ap (λ (s : State). s.moment) c.apply-datagram.ensures.table ∙ moment_changed c.prepare.new.self.table change ∙ moment) writes after;
    }
