use Rattle.std.proofs.Common.{rules, inl, inr}
use Rattle.std.proofs.lemmas.Bool.{cases_lt}
use Rattle.turn_sockets.proofs.Finding.{left_at, left_keeps, within}
use Rattle.turn_sockets.proofs.binder.Binder.search.Goals as goal
use Rattle.turn_sockets.proofs.binder.Binder.search.Goals.{else-loop-port-test, then-loop-port-test+in_ok-bind_wanted+else-port-to, in-None, in-Some-Unavailable}

pub returns-then-has_failed-clause-left : goal.returns-then-has_failed-clause-left
returns-then-has_failed-clause-left g c = elim c.loop-port-test.branch [
  | else-loop-port-test w ↦ rw (w.asked-is) (search (rules, within))
  | then-loop-port-test+in_ok-bind_wanted+else-port-to w ↦ rw (w.asked-is) (λ port free. elim (cases_lt port c.loop-port.port) [
    | inl below ↦ left_keeps _ _ c.args.sockets.now c.args.wanted port w.bind_wanted.ensures.keeps (c.loop-port.invariant.4 port below free)
    | inr above ↦ left_at _ c.args.sockets.now c.loop-port.sockets (c.args.from, c.args.to) _ c.args.wanted c.loop-port.port port _ (elim w.match-branch-2.branch [ in-None t ↦ inl (search rules) | in-Some-Unavailable t ↦ inr (search rules) ]) c.loop-port.invariant.0 w.in_ok-bind_wanted.ensures.tried w.in_ok-bind_wanted.ensures.left above (search rules) free
  ])
]

pub returns-then-has_failed-clause-keeps : goal.returns-then-has_failed-clause-keeps
returns-then-has_failed-clause-keeps g c = elim c.loop-port-test.branch [
  | else-loop-port-test w ↦ rw (w.asked-is) c.loop-port.invariant.1
  | then-loop-port-test+in_ok-bind_wanted+else-port-to w ↦ rw (w.asked-is) (λ one there. w.bind_wanted.ensures.keeps one (c.loop-port.invariant.1 one there))
]

pub returns-else-has_failed-clause-keeps : goal.returns-else-has_failed-clause-keeps
returns-else-has_failed-clause-keeps g c = elim c.loop-port-test.branch [
  | else-loop-port-test w ↦ rw (w.asked-is) c.loop-port.invariant.1
  | then-loop-port-test+in_ok-bind_wanted+else-port-to w ↦ rw (w.asked-is) (λ one there. w.bind_wanted.ensures.keeps one (c.loop-port.invariant.1 one there))
]
