use Rattle.std.proofs.Common.{false, sym, true}
use Rattle.turn_sockets.proofs.Listing.{can_list_is, ready_at}
use Rattle.turn_sockets.proofs.schedule.Schedule.add.Goals as goal

pub returns-then-not-is_unlisted-clause-ok : goal.returns-then-not-is_unlisted-clause-ok
returns-then-not-is_unlisted-clause-ok g c =
    rw (← c.self.view_is)
    (sym (ready_at _ c.args.token false (can_list_is c.args.token _ _ c.self.invariant c.deref.ensures.value c.is_unlisted.ensures c.if-not-is_unlisted.true)))

pub returns-clause-ok : goal.returns-clause-ok
returns-clause-ok g c =
    let can = can_list_is c.args.token _ _ c.self.invariant c.deref.ensures.value c.is_unlisted.ensures c.if-not-is_unlisted.false in
    rw (← c.self.view_is) (rw c.in_ok-push_back.ensures.items (sym (ready_at _ c.args.token true can)))
