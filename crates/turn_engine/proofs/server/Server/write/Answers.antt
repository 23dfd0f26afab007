use Rattle.std.proofs.Common.{rules, arith, sym, ap, ◌∙◌, subst, refl}
use Rattle.turn_disk.proofs.Device.{uses_as}
use Rattle.turn_disk.proofs.Passing.{passes_none}
use Rattle.turn_record.specs.Prelude.{Holds}
use Rattle.turn_store.specs.Prelude.{Version, Form}
use Rattle.turn_store.proofs.Sound.{not_both}
use Rattle.turn_types.specs.declared.limits.Bounds.{Bounds}
use Rattle.turn_engine.specs.Prelude.{ServerState, has_pairs, beside}
use Rattle.turn_engine.proofs.Written.{batch_stages, batch_stop, batch_stored, done_at, done_never, failed_at, fault_as, few_acts, form_kept, none_staged, not_none, not_written, not_written_in, runs_on, some_acts, stages_none, version_kept}
use Rattle.turn_engine.proofs.Besides.{lent_by}
use Rattle.turn_disk.specs.Prelude.{Passes}
use Rattle.turn_engine.proofs.server.Server.write.Goals as goal
use Rattle.turn_engine.proofs.server.Server.write.Goals.{in-Ok, in-Err}

pub returns-then-is_stopped-clause-call : goal.returns-then-is_stopped-clause-call
returns-then-is_stopped-clause-call g c =
    let is = ap (λ s. s.store.stopped) (sym c.self.view_is) ∙ sym c.is_stopped.ensures ∙ c.if-is_stopped.true in
    record {
      handed = tt;
      ok = tt;
      err = refl;
      runs = tt;
      stops = is;
      stopped = (λ _. is, λ _. refl);
      unchanged = λ _. refl;
      nothing = λ runs _. cc;
      uses = search rules;
      form = refl;
      version = refl;
      worn = (λ e. cc, λ facts. let runs = facts.0 in cc);
      untouched_worn = λ _. refl;
      stages = λ crash_model h k recovers. stages_none _ _ c.args.self.now h k refl recovers;
      stop = λ crash_model h k recovers. not_written _ _ c.args.self.now h k refl recovers;
      stop_version = λ crash_model h k recovers. not_written_in _ _ c.args.self.now h k refl recovers;
      recovers = λ crash_model h k recovers. tt;
    }

pub returns-then-acts-eq0-clause-call : goal.returns-then-acts-eq0-clause-call
returns-then-acts-eq0-clause-call g c =
    let runs = ap (λ s. s.store.stopped) (sym c.self.view_is) ∙ sym c.is_stopped.ensures ∙ c.if-is_stopped.false in
    let none = ap (λ s. s.acts) (sym c.self.view_is) ∙ sym c.acts.ensures.value ∙ c.if-acts-eq0.true in
    record {
      handed = refl;
      ok = refl;
      err = tt;
      runs = runs;
      stops = tt;
      stopped = (λ e. cc, λ is. cc);
      unchanged = λ is. cc;
      nothing = λ _ _. (refl, refl);
      uses = search rules;
      form = refl;
      version = refl;
      worn = (λ e. cc, λ facts. let some = facts.1 in absurd (omega (arith, some, none)));
      untouched_worn = λ e. refl;
      stages = λ crash_model h k recovers. stages_none _ _ c.args.self.now h k refl recovers;
      stop = λ crash_model h k recovers. not_written _ _ c.args.self.now h k refl recovers;
      stop_version = λ crash_model h k recovers. not_written_in _ _ c.args.self.now h k refl recovers;
      recovers = λ crash_model h k recovers. none_staged _ c.args.self.now h k recovers none;
    }

pub invariant_of-self : goal.invariant_of-self
invariant_of-self g c =
    let kept = form_kept c.self.inside.store c.append-appended.new.self _ _ c.append-appended.result c.append-appended.ensures.framed c.append-appended.ensures.compacted c.append-appended.ensures.commits.stops in
    let same = version_kept c.self.inside.store c.append-appended.new.self _ _ c.append-appended.result c.append-appended.ensures.framed c.append-appended.ensures.compacted c.append-appended.ensures.commits.stops in
    let table = c.self.inside.machine.table in
    let s = c.self.invariant.0 in (
      record {
        store_is = ap (λ (f : Form). f.bounds) kept ∙ s.store_is;
        batch_is = s.batch_is;
        table_is = s.table_is;
        few = s.few;
        capped = s.capped;
        same_version = s.same_version ∙ sym same;
        pairs_is = s.pairs_is ∙ ap has_pairs (sym same);
        holds = subst (λ (v : Version). Holds v table.contents) (sym same) s.holds;
      },
      c.self.invariant.1,
    )

pub returns-clause-rest : goal.returns-clause-rest
returns-clause-rest g c = ap (λ (s : ServerState _ _ _). record s { store = c.append-appended.new.self }) c.self.view_is

pub returns-then-is_stopped-clause-meanwhile : goal.returns-then-is_stopped-clause-meanwhile
returns-then-is_stopped-clause-meanwhile g c = passes_none

pub returns-then-acts-eq0-clause-meanwhile : goal.returns-then-acts-eq0-clause-meanwhile
returns-then-acts-eq0-clause-meanwhile g c = passes_none

pub returns-clause-meanwhile : goal.returns-clause-meanwhile
returns-clause-meanwhile g c =
    let inside = c.self.inside in
    let is = c.new.ensures ∙ ap (λ l. record { machine = inside.machine; tuples = l; arrivals = inside.arrivals; since = inside.since }) c.tuples.ensures ∙ ap beside c.self.view_is in
    subst (λ b. Passes (g.W.WhileCommitting.passes b) c.args.other c.append-appended.new.other.other) is
    (lent_by (λ l. l.beside) (λ l. l.other) g.W.WhileCommitting.passes c.append-appended.ensures.commits.meanwhile)

pub returns-clause-call : goal.returns-clause-call
returns-clause-call g c =
    let runs = sym c.is_stopped.ensures ∙ c.if-is_stopped.false in
    let some = some_acts c.acts.result _ c.acts.ensures.value c.if-acts-eq0.false in
    let few = few_acts _ _ _ _ c.self.invariant.0.few c.self.invariant.0.capped (ap (λ (b : Bounds). b.acts) c.self.invariant.0.store_is) in
    let same = c.self.invariant.0.store_is in
    let range = c.table.ensures.at.moment in
    let kept = form_kept c.self.inside.store c.append-appended.new.self _ _ c.append-appended.result c.append-appended.ensures.framed c.append-appended.ensures.compacted c.append-appended.ensures.commits.stops in
    let same_version = version_kept c.self.inside.store c.append-appended.new.self _ _ c.append-appended.result c.append-appended.ensures.framed c.append-appended.ensures.compacted c.append-appended.ensures.commits.stops in
    let stages = rw (c.table.ensures.value, c.payload.ensures.value) at c.append-appended.ensures.stages in
    elim c.match-appended.branch [
      | in-Ok w ↦
          let worn = rw c.payload.ensures.value at w.in-Ok.ensures.commits.worn in
          let done = rw (c.table.ensures.value, c.payload.ensures.value) at w.in-Ok.ensures.done in
          rw w.written-is (done_at c.self.view_is (record {
            handed = refl;
            ok = refl;
            err = tt;
            runs = runs_on c.self.inside.store c.append-appended.new.self _ _ _ w.in-Ok.ensures.framed w.in-Ok.ensures.compacted runs;
            stops = tt;
            stopped = (λ e. absurd (done_never e), λ is. absurd (not_both _ is runs));
            unchanged = λ is. absurd (not_both _ is runs);
            nothing = λ _ none. absurd (not_none _ some none);
            uses = uses_as (λ e. absurd (done_never e)) (λ e. absurd (done_never e)) w.in-Ok.ensures.commits.uses;
            form = kept;
            version = same_version;
            worn = (λ e. absurd (done_never e), λ facts. absurd (done_never (worn.1 (facts.0, (facts.2, facts.3)))));
            untouched_worn = λ e. absurd (done_never e);
            stages = λ crash_model. batch_stages g.D.Disk _ c.append-appended.new.self same range some few (stages crash_model);
            stop = λ crash_model. batch_stop g.D.Disk _ c.append-appended.new.self same range some few (stages crash_model);
            stop_version = λ crash_model h k recovers. c.append-appended.ensures.commits.version crash_model recovers.stored.snapshot recovers.stored.payloads recovers.stored.shows;
            recovers = λ crash_model. batch_stored g.D.Disk _ c.append-appended.new.self same range some few (done crash_model);
          }))
      | in-Err w ↦
          let worn = rw c.payload.ensures.value at w.in-Err.ensures.commits.worn in
          rw w.written-is (failed_at c.self.view_is (record {
            handed = tt;
            ok = tt;
            err = refl;
            runs = tt;
            stops = ap (λ s. s.stopped) w.in-Err.ensures.commits.stops;
            stopped = (λ e. w.in-Err.ensures.commits.stopped.0 (fault_as e), λ is. absurd (not_both _ is runs));
            unchanged = λ is. absurd (not_both _ is runs);
            nothing = λ _ none. absurd (not_none _ some none);
            uses = uses_as fault_as fault_as w.in-Err.ensures.commits.uses;
            form = kept;
            version = same_version;
            worn = (λ e. let is = worn.0 (fault_as e) in (is.0, some, is.1.0, is.1.1), λ facts. fault_as (worn.1 (facts.0, (facts.2, facts.3))));
            untouched_worn = λ e. w.in-Err.ensures.commits.untouched_worn (fault_as e);
            stages = λ crash_model. batch_stages g.D.Disk _ c.append-appended.new.self same range some few (stages crash_model);
            stop = λ crash_model. batch_stop g.D.Disk _ c.append-appended.new.self same range some few (stages crash_model);
            stop_version = λ crash_model h k recovers. c.append-appended.ensures.commits.version crash_model recovers.stored.snapshot recovers.stored.payloads recovers.stored.shows;
            recovers = λ crash_model h k recovers. tt;
          }))
    ]
