use Rattle.std.proofs.Common.{ap, is_none, map, refl}
use Rattle.std.specs.Result.{result_map_both}
use Rattle.turn_step.specs.Prelude.{sent_of}
use Rattle.turn_serving.proofs.Events.{fails_beside, sends_beside}
use Rattle.turn_serving.proofs.Visiting.{not_ok}
use Rattle.turn_serving.proofs.serving.Serving.commit_staged.Goals as goal

pub returns-in_err-outgoing-clause-does : goal.returns-in_err-outgoing-clause-does
returns-in_err-outgoing-clause-does g c =
    fails_beside c.requires.runs c.requires.current (not_ok _ c.from_residual.result c.from_residual.ensures.1) c.commit_beside-committed.ensures.reads c.commit_beside-committed.ensures.call
    (ap (result_map_both (λ outs. map sent_of outs.items) (λ fault. fault)) c.in_err-outgoing.was) c.commit_beside-committed.ensures.rest

pub returns-in-Some-clause-does : goal.returns-in-Some-clause-does
returns-in-Some-clause-does g c =
    sends_beside c.requires.runs c.requires.current (λ d. absurd (cc)) c.commit_beside-committed.ensures.reads c.commit_beside-committed.ensures.call
    (ap (result_map_both (λ outs. map sent_of outs.items) (λ fault. fault)) c.in_ok-outgoing.was) c.commit_beside-committed.ensures.rest c.self.view_is
    (ap (map sent_of) c.deref.ensures.value) c.send_all.ensures refl c.note_commit.ensures

pub returns-clause-does : goal.returns-clause-does
returns-clause-does g c =
    sends_beside c.requires.runs c.requires.current (λ d. ap is_none c.in-None.is) c.commit_beside-committed.ensures.reads c.commit_beside-committed.ensures.call
    (ap (result_map_both (λ outs. map sent_of outs.items) (λ fault. fault)) c.in_ok-outgoing.was) c.commit_beside-committed.ensures.rest c.self.view_is
    (ap (map sent_of) c.deref.ensures.value) c.send_all.ensures refl c.note_commit.ensures
