-- Machines after histories.
use Rattle.std.proofs.Common.{◌≡◌, ◌≤◌, ◌<◌, ◌++◌, ◌∷◌, [], ℕ, Bool, Option, option_map, Some, None, Result, refl, sym, ap, subst, ◌∙◌, inl, inr, arith, IfOk, IfSome}
use Rattle.std.proofs.Math.Nat.{eq-or-lt_of_le}
use Rattle.std.proofs.lemmas.Option.{IfSome_then}
use Rattle.std.proofs.lemmas.Result.{IfOk-weaker}
use Rattle.turn_types.specs.Prelude.{Config, end_of_moments}
use Rattle.turn_history.specs.Prelude.{Bounds, Fits, Follows, IsActInRange, IsFitting, IsTuple, History, PlainAct, clock, purged, table, FiveTuple}
use Rattle.turn_history.proofs.Histories.{clock-push, fitting-join}
use Rattle.turn_history.proofs.Steps.{table-later}
use Rattle.turn_cred.specs.Prelude.{Keys}
use Rattle.turn_ports.specs.Ports.{has_failed}
use Rattle.turn_table.specs.Prelude.{State, Agrees, room_for}
use Rattle.turn_step.specs.Prelude.{AnswersArrival, Setting, Arrives, Change, StepOutcome, added, change_of, event_at, IsAfter, IsPurged, IsReady, IsSameTable, MachineState, MayBeNext, setting_of}

-- ---- A later moment

pub agrees_later : (old new : State) (h : History) (t : ℕ) → old.moment ≤ t → IsPurged t old new → Agrees old h → Agrees new h
agrees_later old new h t le later agrees = elim (eq-or-lt_of_le le) [
  | inl e ↦ later.same e ∙ agrees ∙ ap (table h) (e ∙ sym later.moment)
  | inr lt ↦ later.later lt ∙ ap (purged t) agrees ∙ table-later h old.moment t le ∙ ap (table h) (sym later.moment)
]

pub purged_same : (t : ℕ) (old mid new : State) → IsPurged t old mid → IsSameTable mid new → IsPurged t old new
purged_same t old mid new later same = record {
  moment = ap (λ (s : State). s.moment) same ∙ later.moment;
  bounds = ap (λ (s : State). s.bounds) same ∙ later.bounds;
  same = λ e. ap (λ (s : State). s.contents) same ∙ later.same e;
  later = λ lt. ap (λ (s : State). s.contents) same ∙ later.later lt;
}

pub after_later : {H G : Type 0} (m n : MachineState H G) (h : History) (t : ℕ) → m.table.moment ≤ t → n.config ≡ m.config → IsPurged t m.table n.table
    → IsAfter m h → IsAfter n h
after_later m n h t le config later after = record {
  fitting = subst (λ c. IsFitting c.limits h) (sym config) after.fitting;
  late = let bound = after.late in let is = later.moment in omega arith;
  agrees = agrees_later m.table n.table h t le later after.agrees;
}

-- ---- A change

pub follows_next : (s : State) (b : Bounds) (h : History) (t : ℕ) (c : Change) → s.bounds ≡ b → s.moment ≡ t → clock h ≤ t → Agrees s h → MayBeNext s c → Follows b h (event_at t c)
follows_next s b h t c bounds moment late agrees next = rw (← bounds, ← moment) (record { later = rw (← moment) at late; in_range = next.in_range; fits = rw agrees at next.fits })

-- the change of an outcome that a machine is ready for follows the history
pub follows_outcome : {H G E : Type 0} (m : MachineState H G) (b : Bounds) (h : History) (t : ℕ) (r : Result StepOutcome E) → m.table.bounds ≡ b → m.table.moment ≡ t
    → IsAfter m h → IfOk r (IsReady m) → IfOk r (λ o. IfSome o.change (λ c. Follows b h (event_at t c)))
follows_outcome m b h t r bounds moment after = IfOk-weaker r (IsReady m) (λ o. IfSome o.change (λ c. Follows b h (event_at t c))) (λ o ready.
    IfSome_then o.change ready.next (λ c. follows_next m.table b h t c bounds moment (rw moment at after.late) after.agrees))

pub after_change : {H G : Type 0} (m n : MachineState H G) (h : History) (change : Option Change) (c : Change) → change ≡ Some c → m.table.bounds ≡ m.config.limits
    → IfSome change (MayBeNext m.table) → n.config ≡ m.config → n.table.moment ≡ m.table.moment
    → (Follows m.table.bounds h (event_at m.table.moment c) → Agrees m.table h → Agrees n.table (h ++ event_at m.table.moment c ∷ []))
    → IsAfter m h → IsAfter n (h ++ added m.table.moment change)
after_change m n h change c is limits next config moment applies after =
    let may : MayBeNext m.table c = subst (λ o. IfSome o (MayBeNext m.table)) is next in
    let follows : Follows m.table.bounds h (event_at m.table.moment c) = follows_next m.table m.table.bounds h m.table.moment c refl refl after.late after.agrees may in
    let within : Follows n.config.limits h (event_at m.table.moment c) = subst (λ b. Follows b h (event_at m.table.moment c)) (limits ∙ ap (λ (x : Config). x.limits) (sym config)) follows in
    let fits : IsFitting n.config.limits h = subst (λ x. IsFitting x.limits h) (sym config) after.fitting in
    subst (λ o. IsAfter n (h ++ added m.table.moment o)) (sym is) (record {
      fitting = fitting-join n.config.limits h _ fits (within, tt);
      late = let last = clock-push h (event_at m.table.moment c) after.late in omega arith;
      agrees = applies follows after.agrees;
    })

-- ---- Answers

pub setting_is : {H G : Type 0} (keys : H → Keys) (range : G → ℕ × ℕ) (m : MachineState H G) (config : Config) (handler : H) (ports : G) (pairs : Bool)
    → config ≡ m.config → handler ≡ m.handler → range ports ≡ range m.ports → pairs ≡ m.pairs
    → ◌≡◌ {A = Setting} (record { config = config; keys = keys handler; range = range ports; pairs = pairs }) (setting_of keys range m)
setting_is keys range m config handler ports pairs same_config same_handler same_range same_pairs =
    λ j. record { config = same_config j; keys = keys (same_handler j); range = same_range j; pairs = same_pairs j }

pub answers_along : {E : Type 0} (s z : Setting) (h : History) (t u x y n : ℕ) (a b : Arrives) (r : Result StepOutcome E) → s ≡ z → t ≡ u → x ≡ y → a ≡ b
    → IfOk r (AnswersArrival s h t (has_failed x n) a) → IfOk r (AnswersArrival z h u (has_failed y n) b)
answers_along s z h t u x y n a b r same_s same_t same_x same_a answers = rw (← same_s, ← same_t, ← same_x, ← same_a) answers

-- a change for which a table was made ready
pub may_be_next : (b : Bounds) (s new : State) (f : FiveTuple) (act : Option PlainAct) → s.bounds ≡ b → s.moment < end_of_moments → IfSome act (Fits s.bounds s.contents f) → IfSome act (IsActInRange b) → ((a : PlainAct) → act ≡ Some a → (new ≡ record s { room = Some (room_for f a) }) × IsTuple f) → IfSome (option_map (change_of f) act) (MayBeNext new)
may_be_next b s new f None bounds moment fits in_range made = tt
may_be_next b s new f (Some a) bounds moment fits in_range made =
    subst (λ x. MayBeNext x (change_of f a)) (sym (made a refl).0)
    (record {
      room = refl;
      fits = fits;
      in_range = record { moment = moment; tuple = (made a refl).1; act = subst (λ x. IsActInRange x a) (sym bounds) in_range };
    })
