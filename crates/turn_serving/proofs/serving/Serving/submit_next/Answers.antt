use Rattle.std.proofs.Common.{arith, refl}
use Rattle.turn_serving.proofs.Events.{does_nothing, submits_next, takes_none}
use Rattle.turn_serving.proofs.serving.Serving.submit_next.Goals as goal

pub returns-then-room-eq0-clause-does : goal.returns-then-room-eq0-clause-does
returns-then-room-eq0-clause-does g c = does_nothing refl

pub returns-in_default-clause-does : goal.returns-in_default-clause-does
returns-in_default-clause-does g c = takes_none c.self.view_is refl (c.pop.ensures.none c.in_default.is)

pub returns-clause-does : goal.returns-clause-does
returns-clause-does g c = submits_next c.self.view_is refl c.submit.ensures.call c.as_slice.ensures.value c.room.ensures (λ none. let some = c.if-room-eq0.false in omega (arith, none, some)) c.in-Some.ensures.order refl
