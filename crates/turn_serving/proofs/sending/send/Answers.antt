use Rattle.std.proofs.Common.{◌≡◌, ◌∷◌, [], append-nil, inl, inr, refl, subst, sym}
use Rattle.turn_sockets.specs.Own.{IsLost, MayBeLost, sent_to}
use Rattle.turn_sockets.specs.Wire.{Sent as sent}
use Rattle.turn_step.specs.Prelude.{sent_of}
use Rattle.turn_step.specs.declared.arrival.Outgoing.{Outgoing}
use Rattle.turn_types.specs.declared.address.Endpoint.{Endpoint}
use Rattle.turn_serving.specs.Sending.{SendsOne, addresses_of, port_sockets}
use Rattle.turn_serving.proofs.sending.send.Goals as goal

pub returns-then-is_lost : goal.returns-then-is_lost
returns-then-is_lost g c = (
  [],
  sym (append-nil c.args.record.now.passed),
  subst (λ (o : Outgoing _). SendsOne (port_sockets g.G.RelaySockets.has_socket g.G.RelaySockets.bound) (addresses_of c.args.listening.now.sockets.items c.args.listening.now.own) c.args.ports.now (sent_of o) []) (sym c.in-ToPeer.is)
      (inr (inr (subst (MayBeLost c.args.listening.now.own) c.sent_to-to.ensures (c.is_lost.ensures.only c.if-is_lost.true)), refl)),
)

pub returns-in-Some-socket : goal.returns-in-Some-socket
returns-in-Some-socket g c =
    let own = c.args.listening.now.own in
    let peer = c.in-ToPeer.peer in
    let kept : ¬ IsLost own c.sent_to-to.result = λ lost. let yes = c.is_lost.ensures.lost lost in let no = c.if-is_lost.false in cc in
    let reached : c.sent_to-to.result ≡ sent_to own peer = c.sent_to-to.ensures in
    let from = c.in-Some-socket.ensures.at in
    let bytes = c.as_slice-in-Some-socket.ensures.value in
    let out = sent c.in-Some-socket.socket.now c.sent_to-to.result c.as_slice-in-Some-socket.result.now ∷ [] in (
      out,
      c.send-refusal-in-Some-socket.ensures,
      subst (λ (o : Outgoing _). SendsOne (port_sockets g.G.RelaySockets.has_socket g.G.RelaySockets.bound) (addresses_of c.args.listening.now.sockets.items c.args.listening.now.own) c.args.ports.now (sent_of o) out) (sym c.in-ToPeer.is)
          (inl (sym c.in-Some-socket.ensures.found, subst (λ (to : Endpoint). ¬ IsLost own to) reached kept, rw (from, reached, bytes) refl)),
    )
