use Rattle.std.proofs.Common.{◌≡◌, ℕ, List, IfSome, false, sym, subst, ◌∙◌, ap, Option}
use Rattle.std.specs.FinMap as fin
use Rattle.turn_codec.specs.Prelude.{Content}
use Rattle.turn_history.specs.Prelude.{Fits, IsActInRange, PlainAct, ReservesNone}
use Rattle.turn_history.proofs.Live.{some_is}
use Rattle.turn_rules.specs.declared.outcome.Outcome.{Outcome}
use Rattle.turn_rules.specs.Prelude.{outcome_of, user_of, decision, verdict_in, IsPicked, act_by}
use Rattle.turn_rules.proofs.Acts.{decided_fits, decided_in_range, none_reserved}
use Rattle.turn_rules.proofs.decision.decide.Goals as goal

-- what holds of the act of an outcome holds of the act that is made of an equal one
of_act : (P : PlainAct → Type 0) (m : Content) (user other : List ℕ) (o p : Outcome) (act : Option PlainAct) → IfSome (act_by other m p) P → act ≡ act_by user m o → user ≡ other → o ≡ p → IfSome act P
of_act P m user other o p act holds is same_user same_outcome =
    subst (λ a. IfSome a P) (sym (is ∙ ap (λ u. act_by u m o) same_user ∙ ap (act_by other m) same_outcome)) holds

pub returns-clause-fits : goal.returns-clause-fits
unfolding decision
returns-clause-fits g c = λ pairs assessed same picked.
    let table = c.args.table.now in
    let s = c.args.config.now in
    let request = c.args.request.now in
    let v = verdict_in request in
    of_act (Fits table.bounds table.contents request.five_tuple) request.message.content c.user_of.result.now (user_of v) c.outcome-outcome.result
    (outcome_of pairs s table.contents request.five_tuple table.moment request.message v c.args.port) _
    (subst (λ b. IfSome (act_by (user_of v) request.message.content (outcome_of pairs s table.contents request.five_tuple table.moment request.message v c.args.port)) (Fits b table.contents request.five_tuple)) (sym same)
    (decided_fits pairs s table.contents request.five_tuple table.moment request.message v c.args.port c.moment-moment.ensures.at.reserved_apart (subst (λ n. IsPicked table.contents n c.args.port) assessed.need picked)))
    c.in_ok-make_act.ensures c.user_of.ensures (cc (assessed.outcome c.args.port))

pub returns-clause-in_range : goal.returns-clause-in_range
unfolding decision
returns-clause-in_range g c = λ pairs assessed bytes names picked.
    let table = c.args.table.now in
    let s = c.args.config.now in
    let request = c.args.request.now in
    let v = verdict_in request in
    of_act (IsActInRange s.limits) request.message.content c.user_of.result.now (user_of v) c.outcome-outcome.result
    (outcome_of pairs s table.contents request.five_tuple table.moment request.message v c.args.port) _
    (decided_in_range pairs s table.contents request.five_tuple table.moment request.message v c.args.port bytes
    (λ port reserved. let found = some_is (fin.get table.contents.reserved port) reserved in (c.moment-moment.ensures.at.reserved port found.0 found.1).port.0)
    (subst (λ n. IsPicked table.contents n c.args.port) assessed.need picked) names)
    c.in_ok-make_act.ensures c.user_of.ensures (cc (assessed.outcome c.args.port))

pub returns-clause-no_pairs : goal.returns-clause-no_pairs
unfolding decision
returns-clause-no_pairs g c = λ assessed.
    let table = c.args.table.now in
    let s = c.args.config.now in
    let request = c.args.request.now in
    let v = verdict_in request in
    of_act ReservesNone request.message.content c.user_of.result.now (user_of v) c.outcome-outcome.result
    (outcome_of false s table.contents request.five_tuple table.moment request.message v c.args.port) _
    (none_reserved s table.contents request.five_tuple table.moment request.message v c.args.port)
    c.in_ok-make_act.ensures c.user_of.ensures (cc (assessed.outcome c.args.port))
