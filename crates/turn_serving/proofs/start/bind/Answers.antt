use Rattle.std.proofs.Common.{Ok, sym, ap, ◌∙◌}
use Rattle.turn_serving.proofs.Held.{bound_already, bound_now, found_one}
use Rattle.turn_serving.proofs.start.bind.Goals as goal

pub returns-then-is_some-clause-bound : goal.returns-then-is_some-clause-bound
returns-then-is_some-clause-bound g c =
    bound_already c.args.sockets.now.sockets c.loop-attempt.sockets.sockets c.args.port c.loop-attempt.invariant.same
    (found_one _ c.socket.result _ c.socket.ensures.found (sym c.is_some.ensures ∙ c.if-is_some.true))

pub returns-in-Done-clause-bound : goal.returns-in-Done-clause-bound
returns-in-Done-clause-bound g c =
    bound_now c.args.sockets.now.sockets c.loop-attempt.sockets.sockets c.args.port c.loop-attempt.invariant.same c.bind.new.self.sockets
    (c.bind.ensures.bound (c.in_ok-bind.was ∙ ap Ok c.in-Done.is))
