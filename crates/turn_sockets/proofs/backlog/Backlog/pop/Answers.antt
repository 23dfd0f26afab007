use Rattle.std.proofs.Common.{List, ap, arith, false, length, subst, sym, ℕ, ◌<◌, ◌≡◌, ◌∙◌, length-set}
use Rattle.std.proofs.Math.Seq.{map-set_same}
use Rattle.turn_sockets.specs.Backlog.{BacklogState, IsNext, QueueState, has_some}
use Rattle.turn_sockets.proofs.Waiting.{popped, popped_apart, some_there, turns}
use Rattle.turn_sockets.proofs.backlog.Backlog.pop.Goals as goal

pub invariant_of-self-2 : goal.invariant_of-self-2
invariant_of-self-2 g c =
    let next = subst (λ (l : List QueueState). IsNext l c.self.inside.turn c.in_ok-place.place) c.deref.ensures.value c.in_ok-place.ensures.next in
    let within = next.within in (
      popped_apart c.self.inside.queues.items c.in_ok-place.place c.index_mut-queue.result.now c.pop.new.self c.in_ok-client.field-0.client c.in_ok-client.field-0.bytes.items c.self.invariant.0 within
          (sym c.index_mut-queue.ensures.value ∙ c.in_ok-client.ensures.first),
      rw (length-set c.self.inside.queues.items c.in_ok-place.place c.pop.new.self) (omega (arith, within)),
    )

pub returns-clause-order : goal.returns-clause-order
returns-clause-order g c tuple =
    let next = subst (λ (l : List QueueState). IsNext l c.self.inside.turn c.in_ok-place.place) c.deref.ensures.value c.in_ok-place.ensures.next in
    let server = ap (λ (q : QueueState). q.server) (c.queue.view_is ∙ c.index_mut-queue.ensures.value) in
    rw (← c.self.view_is)
    (rw server
    (popped c.self.inside.queues.items c.in_ok-place.place c.index_mut-queue.result.now c.pop.new.self c.in_ok-client.field-0.client c.in_ok-client.field-0.bytes.items c.self.invariant.0 next.within
    (sym c.index_mut-queue.ensures.value ∙ c.in_ok-client.ensures.first) tuple))

pub returns-clause-turns : goal.returns-clause-turns
returns-clause-turns g c =
    let next = subst (λ (l : List QueueState). IsNext l c.self.inside.turn c.in_ok-place.place) c.deref.ensures.value c.in_ok-place.ensures.next in
    rw (← c.self.view_is) (turns c.self.inside.queues.items c.self.inside.turn c.in_ok-place.place next c.self.invariant.1)

pub returns-clause-empty : goal.returns-clause-empty
returns-clause-empty g c =
    let next = subst (λ (l : List QueueState). IsNext l c.self.inside.turn c.in_ok-place.place) c.deref.ensures.value c.in_ok-place.ensures.next in (
      λ none. absurd (cc),
      λ all. absurd (some_there c.self.inside.queues.items c.in_ok-place.place c.index_mut-queue.result.now next.within _ _
          (ap (λ (q : QueueState). q.datagrams) (sym c.index_mut-queue.ensures.value ∙ c.in_ok-client.ensures.first))
          (subst (λ (b : BacklogState). (k : ℕ) → k < length b.queues → has_some b.queues k ≡ false) (sym c.self.view_is) all c.in_ok-place.place next.within)),
    )

pub returns-clause-same_addresses : goal.returns-clause-same_addresses
returns-clause-same_addresses g c =
    let same = ap (λ (q : QueueState). q.server) (sym (sym c.index_mut-queue.ensures.value ∙ c.in_ok-client.ensures.first)) in
    rw (← c.self.view_is) (map-set_same (λ (q : QueueState). q.server) c.self.inside.queues.items c.in_ok-place.place c.pop.new.self c.index_mut-queue.result.now same)
