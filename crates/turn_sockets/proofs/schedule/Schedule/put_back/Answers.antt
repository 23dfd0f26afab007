use Rattle.std.proofs.Common.{false, refl, sym, true, le-ltb, lt-ltb}
use Rattle.turn_sockets.proofs.Listing.{can_list_is, more_at}
use Rattle.turn_sockets.proofs.schedule.Schedule.put_back.Goals as goal
use Rattle.turn_sockets.proofs.schedule.Schedule.put_back.Goals.{then-token-lt-LISTENING+in_ok-push_back, else-token-lt-LISTENING+in_ok-push_back-2}

pub returns-then-not-is_unlisted-clause-ok : goal.returns-then-not-is_unlisted-clause-ok
returns-then-not-is_unlisted-clause-ok g c =
    rw (← c.self.view_is)
    (sym (more_at _ c.args.token false _ (can_list_is c.args.token _ _ c.self.invariant c.deref.ensures.value c.is_unlisted.ensures c.if-not-is_unlisted.true) refl))

pub returns-clause-ok : goal.returns-clause-ok
returns-clause-ok g c =
    let can = can_list_is c.args.token _ _ c.self.invariant c.deref.ensures.value c.is_unlisted.ensures c.if-not-is_unlisted.false in
    elim c.if-token-lt-LISTENING.branch [
      | then-token-lt-LISTENING+in_ok-push_back w ↦ rw (w.self-inside-is, ← c.self.view_is) (rw w.in_ok-push_back.ensures.items (sym (more_at _ c.args.token true true can (lt-ltb _ _ w.if-token-lt-LISTENING.true))))
      | else-token-lt-LISTENING+in_ok-push_back-2 w ↦ rw (w.self-inside-is, ← c.self.view_is) (rw w.in_ok-push_back-2.ensures.items (sym (more_at _ c.args.token true false can (le-ltb _ _ w.if-token-lt-LISTENING.false))))
    ]
