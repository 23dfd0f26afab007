use Rattle.std.proofs.Common.{[], ap, subst, sym, ℕ, ◌++◌, ◌∷◌, ◌≤◌, ◌∙◌, length-set}
use Rattle.std.proofs.lemmas.Bool.{both_ways}
use Rattle.std.proofs.Math.Seq.{map-set_same}
use Rattle.turn_sockets.specs.Backlog.{BacklogState, QueueState, has_queue}
use Rattle.turn_sockets.proofs.Waiting.{apart-set, found, none_found, place_is, place_within, pushed, same_server}
use Rattle.turn_sockets.proofs.backlog.Backlog.push.Goals as goal

pub invariant_of-self : goal.invariant_of-self
invariant_of-self g c =
    let queues = c.self.inside.queues.items in
    let at = place_is c.args.five_tuple.server _ _ c.deref.ensures.value c.place_of.ensures c.in-Some.is in
    let same = same_server c.push.result c.index_mut-queue.result.now c.push.new.self _ c.push.ensures.done c.push.ensures.not_done ∙ ap (λ q. q.server) c.index_mut-queue.ensures.value in (
      apart-set queues c.in-Some.place c.index_mut-queue.result.now c.push.new.self (place_within c.args.five_tuple.server queues c.in-Some.place c.index_mut-queue.result.now at) same c.self.invariant.0,
      subst (λ (n : ℕ). c.self.inside.turn ≤ n) (sym (length-set queues c.in-Some.place c.push.new.self)) c.self.invariant.1,
    )

pub returns-in-Some-clause-order : goal.returns-in-Some-clause-order
returns-in-Some-clause-order g c done tuple =
    let at = place_is c.args.five_tuple.server _ _ c.deref.ensures.value c.place_of.ensures c.in-Some.is in
    rw (← c.self.view_is)
    (pushed c.self.inside.queues.items c.args.five_tuple c.in-Some.place c.index_mut-queue.result.now c.push.new.self c.args.bytes.now at
    (c.push.ensures.done done ∙ ap (λ (q : QueueState). record q { datagrams = q.datagrams ++ (c.args.five_tuple.client, c.args.bytes.now) ∷ [] }) c.index_mut-queue.ensures.value) tuple)

pub returns-in-Some-clause-room : goal.returns-in-Some-clause-room
returns-in-Some-clause-room g c done =
    let at = found c.args.five_tuple.server c.self.inside.queues.items c.in-Some.place c.index_mut-queue.result.now (place_is c.args.five_tuple.server _ _ c.deref.ensures.value c.place_of.ensures c.in-Some.is) in
    rw (← c.self.view_is) (rw (at, ← c.index_mut-queue.ensures.value) (c.push.ensures.room done))

pub returns-in-Some-clause-full : goal.returns-in-Some-clause-full
returns-in-Some-clause-full g c refused _ =
    let at = found c.args.five_tuple.server c.self.inside.queues.items c.in-Some.place c.index_mut-queue.result.now (place_is c.args.five_tuple.server _ _ c.deref.ensures.value c.place_of.ensures c.in-Some.is) in
    rw (← c.self.view_is) (rw (at, ← c.index_mut-queue.ensures.value) (c.push.ensures.full refused))

pub returns-in-Some-clause-same_addresses : goal.returns-in-Some-clause-same_addresses
returns-in-Some-clause-same_addresses g c =
    let same = same_server c.push.result c.index_mut-queue.result.now c.push.new.self _ c.push.ensures.done c.push.ensures.not_done ∙ ap (λ q. q.server) c.index_mut-queue.ensures.value in
    rw (← c.self.view_is) (map-set_same (λ (q : QueueState). q.server) c.self.inside.queues.items c.in-Some.place c.push.new.self c.index_mut-queue.result.now same)

pub returns-in-None-clause-full : goal.returns-in-None-clause-full
returns-in-None-clause-full g c _ there _ =
    both_ways (has_queue c.self.inside.queues.items c.args.five_tuple.server)
    (none_found c.args.five_tuple.server c.self.inside.queues.items (place_is c.args.five_tuple.server _ _ c.deref.ensures.value c.place_of.ensures c.in-None.is))
    (ap (λ (b : BacklogState). has_queue b.queues c.args.five_tuple.server) c.self.view_is ∙ there)
