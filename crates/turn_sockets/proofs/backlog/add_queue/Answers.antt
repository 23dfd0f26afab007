use Rattle.std.proofs.Common.{ap, ◌∙◌}
use Rattle.turn_sockets.specs.Backlog.{QueueState, has_queue}
use Rattle.turn_sockets.proofs.Waiting.{apart-append, empty-append, is_found, none_found, place_is}
use Rattle.turn_sockets.proofs.backlog.add_queue.Goals as goal

pub returns-in-Some-clause-queue : goal.returns-in-Some-clause-queue
returns-in-Some-clause-queue g c = is_found c.args.server c.args.queues.now.items c.in-Some.field-0 (place_is c.args.server _ _ c.deref.ensures.value c.place_of.ensures c.in-Some.is)

pub returns-in_ok-push-in-None-clause-apart : goal.returns-in_ok-push-in-None-clause-apart
returns-in_ok-push-in-None-clause-apart g c =
    let none = none_found c.args.server c.args.queues.now.items (place_is c.args.server _ _ c.deref.ensures.value c.place_of.ensures c.in-None.is) in
    rw c.in_ok-push-in-None.ensures.items (apart-append _ _ c.requires (ap (λ (q : QueueState). has_queue c.args.queues.now.items q.server) c.new.ensures ∙ none))

pub returns-in_ok-push-in-None-clause-empty : goal.returns-in_ok-push-in-None-clause-empty
returns-in_ok-push-in-None-clause-empty g c all e =
    rw c.in_ok-push-in-None.ensures.items (empty-append c.args.queues.now.items c.new.result e (ap (λ (q : QueueState). q.datagrams) c.new.ensures) (all e))
