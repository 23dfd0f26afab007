use Rattle.std.proofs.Common.{subst}
use Rattle.turn_history.specs.Prelude.{PortsApart}
use Rattle.turn_engine.proofs.Besides.{behind_at, needs_no_wait, not_both}
use Rattle.turn_engine.specs.Prelude.{is_behind, is_later}
use Rattle.turn_engine.proofs.beside.Beside.relays_at.Goals as goal

pub returns-then-is_at_clock-clause-answers : goal.returns-then-is_at_clock-clause-answers
returns-then-is_at_clock-clause-answers g c = λ yes from bytes id.
    needs_no_wait _ _ c.args.self.now c.args.port from _ bytes id _ _ (subst (λ v. PortsApart v.machine.table.contents) c.self.view_is c.table-table.ensures.at.ports) (c.is_at_clock.ensures.0 c.if-is_at_clock.true) (c.is_apart.ensures.apart yes)

pub returns-then-is_at_clock-clause-waits : goal.returns-then-is_at_clock-clause-waits
returns-then-is_at_clock-clause-waits g c = λ no from bytes id. is_behind (behind_at from bytes id (c.is_apart.ensures.behind no))

pub returns-else-is_at_clock-clause-waits : goal.returns-else-is_at_clock-clause-waits
returns-else-is_at_clock-clause-waits g c = λ no from bytes id. is_later (λ at. not_both _ c.if-is_at_clock.false (c.is_at_clock.ensures.1 at))
