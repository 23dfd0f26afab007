use Rattle.std.proofs.Common.{Option, [], append-nil, option_map, refl, subst, sym}
use Rattle.std.specs.Option.{option_to_list}
use Rattle.turn_step.specs.Prelude.{sent_of}
use Rattle.turn_step.specs.declared.arrival.Outgoing.{Outgoing}
use Rattle.turn_serving.specs.Sending.{SendsEach, SendsOne, addresses_of, port_sockets}
use Rattle.turn_serving.proofs.sending.send_answer.Goals.{in-Some, in_default}
use Rattle.turn_serving.proofs.sending.send_answer.Goals as goal

pub returns : goal.returns
returns g c =
    let here = addresses_of c.args.listening.now.sockets.items c.args.listening.now.own in
    let relays = port_sockets g.G.RelaySockets.has_socket g.G.RelaySockets.bound in
    let ports = c.args.beside.now.machine.ports in
    elim c.match-answer.branch [
      | in-Some w ↦
          let one = w.send.ensures in (
            one.0,
            rw w.record-is one.1,
            subst (λ (o : Option (Outgoing _)). SendsEach relays here ports (option_to_list (option_map sent_of o)) one.0) (sym w.in-Some.is)
                (one.0, [], subst (λ p. SendsOne relays here p (sent_of w.in-Some.datagram) one.0) w.ports.ensures one.2, refl, sym (append-nil one.0)),
          )
      | in_default w ↦ (
        [],
        rw w.record-is (sym (append-nil c.args.record.now.passed)),
        subst (λ (o : Option (Outgoing _)). SendsEach relays here ports (option_to_list (option_map sent_of o)) []) (sym w.in_default.is) refl,
      )
    ]
