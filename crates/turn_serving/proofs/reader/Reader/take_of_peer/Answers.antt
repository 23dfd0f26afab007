use Rattle.std.proofs.Common.{ap, refl, sym, ◌∙◌}
use Rattle.turn_serving.proofs.Visiting.{takes_no_peers, takes_peers}
use Rattle.turn_serving.proofs.reader.Reader.take_of_peer.Goals as goal

pub returns-then-not-relays_at : goal.returns-then-not-relays_at
returns-then-not-relays_at g c = (ap (λ p. g.G.RelaySockets.has_socket p c.args.port) (sym c.ports.ensures) ∙ sym c.in-Some.ensures.found, c.relays_at.ensures.waits c.if-not-relays_at.true, refl)

pub unreachable-requires : goal.unreachable-requires
unreachable-requires g c = c.relays_at.ensures.answers c.if-not-relays_at.false _ _ _ c.in-Waits.ensures.0

pub returns-in-Sent : goal.returns-in-Sent
returns-in-Sent g c =
    takes_peers _ (ap (λ p. g.G.RelaySockets.has_socket p c.args.port) (sym c.ports.ensures) ∙ sym c.in-Some.ensures.found)
    (c.in-Some.ensures.at ∙ ap (λ p. record { ip = g.G.RelaySockets.bound p; port = c.args.port }) c.ports.ensures) c.come_from.ensures c.in-Datagram.ensures c.in-Sent.ensures

pub returns-in-Lost : goal.returns-in-Lost
returns-in-Lost g c =
    takes_no_peers _ (ap (λ p. g.G.RelaySockets.has_socket p c.args.port) (sym c.ports.ensures) ∙ sym c.in-Some.ensures.found)
    (c.in-Some.ensures.at ∙ ap (λ p. record { ip = g.G.RelaySockets.bound p; port = c.args.port }) c.ports.ensures) c.come_from.ensures c.in-Datagram.ensures c.in-Lost.ensures
