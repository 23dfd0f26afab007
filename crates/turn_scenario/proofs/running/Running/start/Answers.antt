use Rattle.turn_scenario.proofs.Lives.{refused, starts}
use Rattle.turn_scenario.proofs.Refusals.{by_outcome}
use Rattle.turn_scenario.proofs.running.Running.start.Goals as goal

pub returns : goal.returns
returns g c = by_outcome c.in_ok-disk.outcome _ _
    (λ done. c.in_ok-open.ensures.lives done (starts _ _ _ (record { bounds = c.limits.result; area = c.args.area }) _ c.args.configured.config
    c.in_ok-disk.disk _ c.args.configured.ports c.new-2.ensures c.limits.ensures.value tt (c.in_ok-disk.ensures.done done)))
    (λ err. refused c.args.version c.args.area _ _ c.args.configured.config c.in_ok-disk.disk _ c.args.configured.ports c.new-2.ensures
    (c.in_ok-open.ensures.same err) (rw c.limits.ensures.value at c.in_ok-disk.ensures.refused err))
