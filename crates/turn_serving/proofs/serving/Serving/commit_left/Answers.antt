use Rattle.std.proofs.Common.{ap, map, refl}
use Rattle.turn_step.specs.Prelude.{sent_of}
use Rattle.turn_serving.proofs.Events.{commit_fails, commit_sends, does_from, does_nothing}
use Rattle.turn_serving.proofs.serving.Serving.commit_left.Goals as goal

pub returns-then-is_stopped-clause-does : goal.returns-then-is_stopped-clause-does
returns-then-is_stopped-clause-does g c = does_nothing refl

pub returns-then-is_idle-clause-does : goal.returns-then-is_idle-clause-does
returns-then-is_idle-clause-does g c = does_nothing refl

pub returns-in_err-outgoing-clause-does : goal.returns-in_err-outgoing-clause-does
returns-in_err-outgoing-clause-does g c = does_from c.self.view_is (commit_fails _ c.in_err-outgoing.ensures.call refl)

pub returns-clause-does : goal.returns-clause-does
returns-clause-does g c = commit_sends c.self.view_is c.in_ok-outgoing.ensures.call (ap (map sent_of) c.deref.ensures.value) c.send_all.ensures refl
