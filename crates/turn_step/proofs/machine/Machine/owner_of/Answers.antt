use Rattle.std.proofs.Common.{ap, subst, sym}
use Rattle.turn_history.specs.Prelude.{PortIsFree}
use Rattle.turn_step.specs.Prelude.{IsOwner, FromPeer, arrival_of}
use Rattle.turn_step.proofs.machine.Machine.owner_of.Goals as goal

pub returns-in_err-five_tuple-in-Peer-clause-none :
    goal.returns-in_err-five_tuple-in-Peer-clause-none
returns-in_err-five_tuple-in-Peer-clause-none g c none f of =
    let held = subst (λ a. IsOwner c.args.self.now.table.contents a f) (ap arrival_of c.in-Peer.is) of in
    subst (λ m. PortIsFree m.table.contents c.in-Peer.port) c.self.view_is c.in_err-five_tuple-in-Peer.ensures f held.0 held.1 held.2

pub returns-in_ok-five_tuple-in-Peer-clause-some :
    goal.returns-in_ok-five_tuple-in-Peer-clause-some
returns-in_ok-five_tuple-in-Peer-clause-some g c =
    let f = c.in_ok-five_tuple-in-Peer.five_tuple in
    let e = c.in_ok-five_tuple-in-Peer.field-0-1.now.entry in
    subst (λ a. IsOwner c.args.self.now.table.contents a f) (sym (ap arrival_of c.in-Peer.is))
    (subst (λ m. IsOwner m.table.contents (FromPeer c.in-Peer.port c.in-Peer.from c.in-Peer.bytes.now c.in-Peer.id.0) f) c.self.view_is
    (e, c.in_ok-five_tuple-in-Peer.ensures.0, c.in_ok-five_tuple-in-Peer.ensures.1))
