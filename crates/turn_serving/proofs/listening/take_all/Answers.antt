use Rattle.std.proofs.Common.{sym, ◌∙◌}
use Rattle.turn_serving.proofs.Sockets.{bound_same, bound_sockets, found_sockets}
use Rattle.turn_serving.proofs.listening.take_all.Goals as goal

pub returns-in_ok-sockets-in-Bound-clause-sockets : goal.returns-in_ok-sockets-in-Bound-clause-sockets
returns-in_ok-sockets-in-Bound-clause-sockets g c = bound_sockets _ _ c.in_ok-sockets-in-Bound.ensures.sockets

pub returns-then-are_at-clause-sockets : goal.returns-then-are_at-clause-sockets
returns-then-are_at-clause-sockets g c = found_sockets _ _ (rw (← c.deref.ensures.value, ← c.as_slice.ensures.value) (sym c.are_at.ensures ∙ c.if-are_at.true))

pub returns-then-are_at-clause-bound : goal.returns-then-are_at-clause-bound
returns-then-are_at-clause-bound g c = bound_same _
