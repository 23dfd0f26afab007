use Rattle.std.proofs.Common.{◌≡◌, All, arith, subst, take_all, true}
use Rattle.std.proofs.lemmas.List.Elements.{All-more}
use Rattle.turn_types.specs.declared.address.Endpoint.{Endpoint}
use Rattle.turn_sockets.specs.Backlog.{has_queue}
use Rattle.turn_sockets.proofs.backlog.Backlog.new.Goals as goal

pub loop-server-preserved : goal.loop-server-preserved
loop-server-preserved g c =
    let added = c.in_ok-add_queue.ensures in
    record {
      apart = added.apart;
      queues = All-more (λ (e : Endpoint). has_queue c.add_queue.new.queues.items e ≡ true) c.args.addresses.now c.loop-server.server-index (record { ip = 0; port = 0 }) c.loop-server-test.true
          (λ k d less. added.others _ (c.loop-server.invariant.queues k d less)) added.queue;
      empty = added.empty c.loop-server.invariant.empty;
    }

pub returns-clause-queues : goal.returns-clause-queues
returns-clause-queues g c =
    subst (All (λ (e : Endpoint). has_queue c.loop-server.queues.items e ≡ true)) (take_all c.loop-server.server-index c.args.addresses.now (let over = c.loop-server-test.false in omega arith)) c.loop-server.invariant.queues
