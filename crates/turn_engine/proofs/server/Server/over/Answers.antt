use Rattle.std.proofs.Common.{◌∷◌, [], ℕ, Bool, List, map, ap, ◌∙◌}
use Rattle.turn_step.specs.Prelude.{Sent, MachineState, is_reserved, sent_of}
use Rattle.turn_store.specs.declared.error.OpenError.TheVariants.{Memory}
use Rattle.turn_engine.specs.Prelude.{Staged, ServerState, has_pairs}
use Rattle.turn_engine.proofs.Opened.{fresh_sound, made, spent}
use Rattle.turn_engine.proofs.server.Server.over.Goals as goal

pub invariant_of-result : goal.invariant_of-result
invariant_of-result g c = (
  fresh_sound c.args.config.limits _ _ _ _ _ _ _ c.in-Ok-new.machine.table c.args.opened.table (ap (λ m. m.config.limits) c.in-Ok-new.ensures.ok) (ap (λ m. m.table) c.in-Ok-new.ensures.ok)
      c.requires.bounds.0 (ap (λ b. b.bounds) c.in-Ok.ensures ∙ c.limits.ensures.value) c.requires.bounds.1 (ap (λ b. b.version) c.in-Ok.ensures ∙ c.info-version.ensures.version) (ap (λ b. b.acts) c.in-Ok.ensures)
      (ap (λ m. m.pairs) c.in-Ok-new.ensures.ok ∙ c.pairs_of.ensures ∙ ap has_pairs c.info-version.ensures.version) c.requires.holds,
  λ none. record { payload_is = ap (λ b. b.payload) c.in-Ok.ensures; tuples_are = ap (λ b. b.tuples) c.in-Ok.ensures; outs_are = ap (map sent_of) c.new-in-Ok-new.ensures.items },
)

pub returns-in-Ok-new-clause-ok : goal.returns-in-Ok-new-clause-ok
returns-in-Ok-new-clause-ok g c =
    let made : MachineState _ _ → List Sent → Staged → ℕ → ServerState _ _ _ = λ m l b t. record {
      store = c.args.opened.store;
      machine = m;
      payload = b.payload;
      acts = b.acts;
      tuples = b.tuples;
      outs = l;
      arrivals = 0;
      since = t;
    } in
    let with : Bool → MachineState _ _ = λ pairs. record {
      config = c.args.config;
      handler = c.args.handler;
      ports = c.args.ports;
      table = c.args.opened.table;
      pairs = pairs;
    } in
    let empty : Staged = record { bounds = c.limits.result; version = c.info-version.result.version; payload = 0 ∷ []; acts = 0; tuples = [] } in
    ap (λ (m : MachineState _ _). made m (map sent_of c.new-in-Ok-new.result.items) c.in-Ok.batch c.moment-since.result) c.in-Ok-new.ensures.ok
    ∙ ap (λ (b : Staged). made (with (is_reserved c.pairs_of.result)) (map sent_of c.new-in-Ok-new.result.items) b c.moment-since.result) c.in-Ok.ensures
    ∙ ap (λ (l : List _). made (with (is_reserved c.pairs_of.result)) (map sent_of l) empty c.moment-since.result) c.new-in-Ok-new.ensures.items
    ∙ ap (λ (pairs : Bool). made (with pairs) [] empty c.moment-since.result) (c.pairs_of.ensures ∙ ap has_pairs c.info-version.ensures.version)
    ∙ ap (λ (t : ℕ). made (with (has_pairs c.args.opened.store.version)) [] empty t) c.moment-since.ensures.value

pub returns-in-Ok-new-clause-call : goal.returns-in-Ok-new-clause-call
returns-in-Ok-new-clause-call g c old carry is = made g.D.Disk old c.args.config c.args.handler c.args.ports carry c.args.opened is _ (returns-in-Ok-new-clause-ok g c)

pub returns-in_default-clause-call : goal.returns-in_default-clause-call
returns-in_default-clause-call g c old carry is =
    spent g.D.Disk old c.args.config c.args.handler c.args.ports carry c.args.opened is _
    (λ j. record { fault = Memory; disk = c.into_disk.ensures j; handler = c.args.handler; ports = c.args.ports })

pub returns-in-Err-clause-call : goal.returns-in-Err-clause-call
returns-in-Err-clause-call g c old carry is =
    let same = c.in-Err.ensures.err in
    spent g.D.Disk old c.args.config c.args.handler c.args.ports carry c.args.opened is _
    (λ j. record { fault = Memory; disk = c.into_disk-in-Err.ensures j; handler = (same j).handler; ports = (same j).ports })
