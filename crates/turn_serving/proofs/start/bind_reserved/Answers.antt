use Rattle.std.proofs.Common.{arith}
use Rattle.std.proofs.lemmas.List.{drop_all}
use Rattle.turn_serving.proofs.Held.{bound_all, bound_next}
use Rattle.turn_serving.proofs.start.bind_reserved.Goals as goal

pub loop-port-preserved : goal.loop-port-preserved
loop-port-preserved g c =
    let old = c.args.sockets.now.sockets in
    let mid = c.loop-port.sockets.sockets in
    let new = c.bind.new.sockets.sockets in
    let binding = bound_next (λ s. s.0) old mid new c.args.reserved.now c.loop-port.port-index _ c.loop-port-test.true c.loop-port.invariant.binding c.in_ok-bind.ensures.bound in
    record { ip = search; first = search; last = search; draws = search; binding = binding }

pub returns-clause-bound : goal.returns-clause-bound
returns-clause-bound g c =
    bound_all (λ s. s.0) c.args.sockets.now.sockets c.loop-port.sockets.sockets _ c.args.reserved.now
    (drop_all c.loop-port.port-index c.args.reserved.now (let ends = c.loop-port-test.false in omega arith)) c.loop-port.invariant.binding
