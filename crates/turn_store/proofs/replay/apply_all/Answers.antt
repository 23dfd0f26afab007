use Rattle.std.proofs.Common.{◌≡◌, ◌<◌, ◌↔◌, List, [], ◌∷◌, ◌∙◌, length, refl, sym, subst, ap, arith, rules, slice_index_or, remove}
use Rattle.std.proofs.lemmas.Result.{err_from_is_err_and}
use Rattle.std.specs.List.{AllByRecursion}
use Rattle.turn_history.specs.Prelude.{event_of, Event, Bounds, IsInRange}
use Rattle.turn_record.specs.Prelude.{events_of}
use Rattle.turn_store.specs.Prelude.{Snapshot, IsNext, GoOn, after, after_all, snapshot_of}
use Rattle.turn_store.proofs.replay.apply_all.Goals as goal

first_and_rest : {A : Type 0} (xs rest : List A) (x : A) → 0 < length xs → x ≡ slice_index_or xs 0 x → rest ≡ remove xs 0 → xs ≡ x ∷ rest
first_and_rest [] rest x some is cut = absurd (omega (arith, some))
first_and_rest (y ∷ ys) rest x some is cut = ap (λ z. z ∷ ys) (sym is) ∙ ap (λ zs. x ∷ zs) (sym cut)

-- an event that is the next, and the events after it
one_on : (b : Bounds) (s t : Snapshot) (e : Event) (es all : List Event) → all ≡ e ∷ es → IsNext b s e → t ≡ after s e → (GoOn b s all ↔ GoOn b t es) × (after_all s all ≡ after_all t es)
one_on b s t e es all is next there =
    rw is (rw there (((λ goes. goes.1), (λ goes. (next, goes))), refl))

pub apply_next-requires : goal.apply_next-requires
apply_next-requires g c =
    let inv = c.loop-events.invariant in
    let split = ap events_of (first_and_rest c.loop-events.events.items c.remove-event.new.self.items c.remove-event.result (search rules) c.remove-event.ensures.value c.remove-event.ensures.items) in
    subst (λ (b : Bounds). IsInRange b (event_of c.remove-event.result)) (sym inv.bounds) (subst (AllByRecursion (IsInRange c.args.table.now.bounds)) split inv.range).0

pub loop-events-preserved : goal.loop-events-preserved
loop-events-preserved g c =
    let inv = c.loop-events.invariant in
    let start = c.args.table.now.bounds in
    let e = event_of c.remove-event.result in
    let left = events_of c.remove-event.new.self.items in
    let next = c.in_ok-apply_next.ensures in
    let split : events_of c.loop-events.events.items ≡ e ∷ left = ap events_of (first_and_rest c.loop-events.events.items c.remove-event.new.self.items c.remove-event.result (search rules) c.remove-event.ensures.value c.remove-event.ensures.items) in
    let more = one_on start (snapshot_of c.loop-events.table) (snapshot_of c.apply_next.new.table) e left (events_of c.loop-events.events.items) split (subst (λ (b : Bounds). IsNext b (snapshot_of c.loop-events.table) e) inv.bounds next.ok) next.after in
    record {
      bounds = next.bounds ∙ inv.bounds;
      range = (subst (AllByRecursion (IsInRange start)) split inv.range).1;
      goes = ((λ goes. more.0.0 (inv.goes.0 goes)), (λ goes. inv.goes.1 (more.0.1 goes)));
      ends = inv.ends ∙ more.1;
    }

pub returns-in_err-apply_next : goal.returns-in_err-apply_next
returns-in_err-apply_next g c =
    let p = err_from_is_err_and c.from_residual.result c.from_residual.ensures.1 in
    let inv = c.loop-events.invariant in
    let is = c.in_err-apply_next.ensures in
    let split = ap events_of (first_and_rest c.loop-events.events.items c.remove-event.new.self.items c.remove-event.result (search rules) c.remove-event.ensures.value c.remove-event.ensures.items) in
    rw (p.1, p.2) (record { bounds = is.bounds ∙ inv.bounds; no_device = is.no_device; ok = tt; after = tt; bad = λ bad goes. is.bad bad (subst (λ (b : Bounds). IsNext b (snapshot_of c.loop-events.table) (event_of c.remove-event.result)) (sym inv.bounds) (subst (GoOn c.args.table.now.bounds (snapshot_of c.loop-events.table)) split (inv.goes.0 goes)).0) })
