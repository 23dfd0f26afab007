use Rattle.std.proofs.Common.{◌≡◌, ℕ, ◌||◌, IfSome, Option, Some, None, option_map, refl, subst, sym, ap, ◌∙◌}
use Rattle.std.proofs.lemmas.Option.{same_Some}
use Rattle.turn_history.specs.Prelude.{act_of, FiveTuple, IsTuple, is_taken, ReservesNone, PlainAct}
use Rattle.turn_rules.specs.Prelude.{Decided, decided_of, verdict_in, is_picked, takes_if_any}
use Rattle.turn_rules.proofs.Taking.{decision_takes}
use Rattle.turn_table.specs.Prelude.{room_for}
use Rattle.turn_step.specs.Prelude.{ports_with, takes_in, StepOutcome, change_of, decided_for, MayBeNext, sent_of}
use Rattle.turn_step.proofs.Machines.{may_be_next}
use Rattle.turn_step.proofs.request.settle.Given.{Over}
use Rattle.turn_step.proofs.request.settle.Goals as goal
use Rattle.turn_step.proofs.request.settle.Goals.{in-Some+in_ok-reserve_for-in-Some+in_ok-new-in-Some, in-None}

step_is : (g : Over) (c : goal.After-new-2 g) → c.new-2.result ≡ decided_for c.args.request.now.five_tuple (decided_of c.in_ok-decision.decision)
step_is g c =
    let f = c.args.request.now.five_tuple in
    let d = c.in_ok-decision.decision in
    let change_is : option_map (λ b. change_of b.value.0 (act_of b.value.1)) c.match-act.act ≡ option_map (change_of f) (option_map act_of d.act) = elim c.match-act.branch [
      | in-Some+in_ok-reserve_for-in-Some+in_ok-new-in-Some w ↦
          ap (option_map (λ b. change_of b.value.0 (act_of b.value.1))) w.act-is
          ∙ ap (λ p. Some (change_of p.0 (act_of p.1))) w.in_ok-new-in-Some.ensures.ok
          ∙ ap (λ a. option_map (change_of f) (option_map act_of a)) (sym w.in-Some.is)
      | in-None w ↦ ap (option_map (λ b. change_of b.value.0 (act_of b.value.1))) w.act-is ∙ ap (λ a. option_map (change_of f) (option_map act_of a)) (sym w.in-None.is)
    ] in
    c.new-2.ensures ∙ ap (λ x. record { change = x; sent = option_map sent_of c.reply_to.result }) change_is
    ∙ ap (λ x. record { change = option_map (change_of f) (option_map act_of d.act); sent = x }) c.reply_to.ensures.sent

pub returns-clause-answers : goal.returns-clause-answers
returns-clause-answers g c = λ pairs h range failed assessed agrees picked. (decided_of c.in_ok-decision.decision, c.in_ok-decision.ensures.answers pairs h range failed assessed agrees picked, step_is g c)

pub returns-clause-ready : goal.returns-clause-ready
returns-clause-ready g c = λ pairs assessed bounds bytes names picked.
    let d = c.in_ok-decision.decision in
    let act_in_range = c.in_ok-decision.ensures.in_range pairs assessed bytes names picked in
    let fits = c.in_ok-decision.ensures.fits pairs assessed bounds picked in
    let made : (a : PlainAct) → option_map act_of d.act ≡ Some a → (c.match-act.table ≡ record c.args.table.now { room = Some (room_for c.args.request.now.five_tuple a) }) × IsTuple c.args.request.now.five_tuple = elim c.match-act.branch [
      | in-Some+in_ok-reserve_for-in-Some+in_ok-new-in-Some w ↦ λ a is.
          let same : Some (act_of w.in-Some.act) ≡ Some a = ap (option_map act_of) (sym w.in-Some.is) ∙ is in
          (w.table-is ∙ w.in_ok-reserve_for-in-Some.ensures.ok ∙ ap (λ x. record c.args.table.now { room = Some (room_for c.args.request.now.five_tuple x) }) (same_Some (act_of w.in-Some.act) a same), c.reply_to.ensures.range)
      | in-None w ↦ λ a is.
          let none : None ≡ Some a = ap (option_map act_of) (sym w.in-None.is) ∙ is in
          absurd cc
    ] in
    subst (λ s. IfSome s.change (MayBeNext c.match-act.table)) (sym (step_is g c))
    (may_be_next c.args.config.now.limits c.args.table.now c.match-act.table c.args.request.now.five_tuple (decided_of d).act bounds c.moment.ensures.at.moment fits act_in_range made)

pub returns-clause-no_pairs : goal.returns-clause-no_pairs
returns-clause-no_pairs g c = λ without.
    subst (λ s. IfSome s.change (λ x. ReservesNone x.act)) (sym (step_is g c))
    (changes_none c.args.request.now.five_tuple (decided_of c.in_ok-decision.decision).act (c.in_ok-decision.ensures.no_pairs without))
  where
    changes_none : (f : FiveTuple) (act : Option PlainAct) → IfSome act ReservesNone → IfSome (option_map (change_of f) act) (λ x. ReservesNone x.act)
    changes_none f None none = tt
    changes_none f (Some a) none = none

pub returns-clause-takes : goal.returns-clause-takes
returns-clause-takes g c pairs assessed only = λ q.
    let r = c.args.request.now in
    let t = c.args.table.now.contents in
    ap (λ (o : StepOutcome). ports_with t o.change q) (step_is g c)
    ∙ ap (λ b. b || is_taken t q) (change_takes r.five_tuple (decided_of c.in_ok-decision.decision).act q)
    ∙ ap (λ (d : Decided). takes_if_any d.act q || is_taken t q) (c.in_ok-decision.ensures.value pairs assessed)
    ∙ decision_takes pairs c.args.config.now t r.five_tuple c.args.table.now.moment r.message (verdict_in r) c.args.port (λ none. only (assessed.need ∙ none)) q
    ∙ ap (λ n. is_picked n c.args.port q || is_taken t q) (sym assessed.need)
  where
    change_takes : (f : FiveTuple) (act : Option PlainAct) (q : ℕ) → takes_in (option_map (change_of f) act) q ≡ takes_if_any act q
    change_takes f None q = refl
    change_takes f (Some a) q = refl
