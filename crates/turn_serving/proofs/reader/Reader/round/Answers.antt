use Rattle.std.proofs.Common.{Some, ap, refl, sym, ◌∙◌}
use Rattle.turn_serving.proofs.Visiting.{none_visited, not_ok, not_put_back, one_visit, put_back, visits_done, visits_failed}
use Rattle.turn_serving.proofs.reader.Reader.round.Goals as goal

pub loop-token-init : goal.loop-token-init
loop-token-init g c = none_visited _ _ _

pub loop-token-preserved-in-Continue-1 : goal.loop-token-preserved-in-Continue-1
loop-token-preserved-in-Continue-1 g c =
    let v = c.visit.ensures in
    one_visit v.0 c.loop-token.invariant (c.in-Some.ensures.next ∙ ap (λ n. Some (n, c.next.new.self)) (sym v.1)) v.3 (put_back c.next.new.self v.0 (v.2 ∙ c.if-visit.true) v.1 c.in_ok-put_back.ensures.ok)

pub returns-in_err-put_back : goal.returns-in_err-put_back
returns-in_err-put_back g c = visits_failed c.visit.ensures.0 (not_ok _ c.from_residual.result c.from_residual.ensures.1) c.loop-token.invariant c.visit.ensures.3

pub loop-token-preserved : goal.loop-token-preserved
loop-token-preserved g c =
    let v = c.visit.ensures in
    one_visit v.0 c.loop-token.invariant (c.in-Some.ensures.next ∙ ap (λ n. Some (n, c.next.new.self)) (sym v.1)) v.3 (not_put_back v.0 (v.2 ∙ c.if-visit.false) refl)
