use Rattle.std.proofs.Common.{◌≡◌, Some, None}
use Rattle.turn_history.specs.Prelude.{is_taken, Allocates}
use Rattle.turn_step.specs.Prelude.{Change, change_of}
use Rattle.turn_step.proofs.Holding.{alone_released, change_by, even_picked, held_change, next_change}
use Rattle.turn_step.proofs.machine.Machine.abandon.Goals as goal

pub returns-then-is_none-clause-held : goal.returns-then-is_none-clause-held
returns-then-is_none-clause-held g c ready held =
    let holds = g.G.RelayAddressGenerator.holds in
    let s = c.self.inside.table in
    let a = c.in-Alloc in
    let p = c.into_inner.result in
    let change : Change = change_of p.0 (Allocates a.user a.port a.granted a.tx None) in
    let is : c.args.step.change ≡ Some change =
    change_by c.args.step _ c.into_parts-act.result.0 c.in-Some.change p _ c.into_parts-act.ensures c.in-Some.is c.into_inner.ensures a.is in
    let next = next_change c.args.self.now _ c.args.step.change change c.self.view_is is ready.next in
    alone_released (holds c.self.inside.ports) (holds c.release.new.ports) s.contents a.port c.reserved.result next.fits.1 c.reserved.ensures c.if-is_none.ensures c.release.ensures.held
    (held_change c.args.self.now _ c.args.step.change change c.self.view_is is holds held)

pub returns-in-AllocEven-clause-held : goal.returns-in-AllocEven-clause-held
returns-in-AllocEven-clause-held g c ready held =
    let holds = g.G.RelayAddressGenerator.holds in
    let s = c.self.inside.table in
    let a = c.in-AllocEven in
    let p = c.into_inner.result in
    let change : Change = change_of p.0 (Allocates a.user a.port a.granted a.tx (Some a.token)) in
    let is : c.args.step.change ≡ Some change =
    change_by c.args.step _ c.into_parts-act.result.0 c.in-Some.change p _ c.into_parts-act.ensures c.in-Some.is c.into_inner.ensures a.is in
    let next = next_change c.args.self.now _ c.args.step.change change c.self.view_is is ready.next in
    c.release_for.ensures.held (is_taken s.contents) (even_picked s.bounds s.moment s.contents p.0 a.user a.port a.granted a.tx a.token c.moment.ensures.at.reserved next.fits next.in_range.act)
    (held_change c.args.self.now _ c.args.step.change change c.self.view_is is holds held)
