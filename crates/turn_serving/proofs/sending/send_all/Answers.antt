use Rattle.std.proofs.Common.{[], ◌++◌, append_assoc, append-nil, ap, map, refl, subst, sym, ◌∙◌, arith}
use Rattle.std.proofs.lemmas.List.{drop_all, drop_more}
use Rattle.turn_step.specs.Prelude.{sent_of}
use Rattle.turn_step.specs.declared.arrival.Outgoing.{Outgoing}
use Rattle.turn_serving.specs.Sending.{SendsEach, SendsOne, addresses_of, port_sockets}
use Rattle.turn_serving.proofs.sending.send_all.Goals as goal

pub loop-datagram-init : goal.loop-datagram-init
loop-datagram-init g c = ([], sym (append-nil c.args.record.now.passed), λ more sends. sends)

pub loop-datagram-preserved : goal.loop-datagram-preserved
loop-datagram-preserved g c =
    let before = c.loop-datagram.invariant in
    let one = c.send.ensures in
    let here = addresses_of c.args.listening.now.sockets.items c.args.listening.now.own in
    let relays = port_sockets g.G.RelaySockets.has_socket g.G.RelaySockets.bound in
    let ports = c.args.server.now.machine.ports in
    let place = c.loop-datagram.datagram-index in
    let all = c.args.outgoing.now in (
      before.0 ++ one.0,
      one.1 ∙ ap (λ l. l ++ one.0) before.1 ∙ append_assoc c.args.record.now.passed before.0 one.0,
      λ more sends. subst (SendsEach relays here ports (map sent_of all)) (sym (append_assoc before.0 one.0 more))
          (before.2 (one.0 ++ more)
          (subst (λ l. SendsEach relays here ports (map sent_of l) (one.0 ++ more)) (sym (drop_more all place c.datagram-item.result c.loop-datagram-test.true))
          (one.0, more, subst (λ (o : Outgoing _). SendsOne relays here ports (sent_of o) one.0) c.datagram-item.is (subst (λ p. SendsOne relays here p (sent_of c.datagram-item.result) one.0) c.ports.ensures one.2), sends, refl))),
    )

pub returns : goal.returns
returns g c =
    let before = c.loop-datagram.invariant in
    let here = addresses_of c.args.listening.now.sockets.items c.args.listening.now.own in
    let relays = port_sockets g.G.RelaySockets.has_socket g.G.RelaySockets.bound in
    let ports = c.args.server.now.machine.ports in
    let all = c.args.outgoing.now in (
      before.0,
      before.1,
      subst (SendsEach relays here ports (map sent_of all)) (append-nil before.0)
          (before.2 [] (subst (λ l. SendsEach relays here ports (map sent_of l) []) (sym (drop_all c.loop-datagram.datagram-index all (let ends = c.loop-datagram-test.false in omega arith))) refl)),
    )
