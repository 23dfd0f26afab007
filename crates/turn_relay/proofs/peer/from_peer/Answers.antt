use Rattle.std.proofs.Common.{Some, None, refl, subst}
use Rattle.turn_relay.specs.FromPeer.{SendsToClient}
use Rattle.turn_relay.proofs.Holders.{channel_for, not_too_long, too_long}
use Rattle.turn_relay.proofs.peer.from_peer.Goals as goal

pub returns-then-not-is_permitted-clause-sends : goal.returns-then-not-is_permitted-clause-sends
returns-then-not-is_permitted-clause-sends g c =
    SendsToClient.NoPermission c.in_ok-five_tuple.five_tuple c.in_ok-five_tuple.entry.now.entry c.in_ok-five_tuple.ensures (cc) refl

pub returns-then-not-is_permitted-clause-history : goal.returns-then-not-is_permitted-clause-history
returns-then-not-is_permitted-clause-history g c h agrees =
    subst (λ x. SendsToClient x c.args.port c.args.from c.args.datagram.now None) agrees
    (returns-then-not-is_permitted-clause-sends g c)

pub returns-then-not-fits_client-clause-sends : goal.returns-then-not-fits_client-clause-sends
returns-then-not-fits_client-clause-sends g c =
    SendsToClient.Relayed c.in_ok-five_tuple.five_tuple c.in_ok-five_tuple.entry.now.entry c.channel_to-channel.result c.in_ok-five_tuple.ensures (cc)
    (channel_for c.in_ok-five_tuple.entry.now.entry c.args.from c.channel_to-channel.result c.channel_to-channel.ensures)
    (too_long c.in_ok-five_tuple.five_tuple c.channel_to-channel.result c.args.from c.args.datagram.now c.fits_client.result c.fits_client.ensures (cc))

pub returns-then-not-fits_client-clause-history : goal.returns-then-not-fits_client-clause-history
returns-then-not-fits_client-clause-history g c h agrees =
    subst (λ x. SendsToClient x c.args.port c.args.from c.args.datagram.now None) agrees
    (returns-then-not-fits_client-clause-sends g c)

pub returns-clause-sends : goal.returns-clause-sends
returns-clause-sends g c =
    SendsToClient.Relayed c.in_ok-five_tuple.five_tuple c.in_ok-five_tuple.entry.now.entry c.channel_to-channel.result c.in_ok-five_tuple.ensures (cc)
    (channel_for c.in_ok-five_tuple.entry.now.entry c.args.from c.channel_to-channel.result c.channel_to-channel.ensures)
    (not_too_long c.in_ok-five_tuple.five_tuple c.channel_to-channel.result c.args.from c.args.datagram.now c.fits_client.result c.fits_client.ensures (cc))

pub returns-clause-history : goal.returns-clause-history
returns-clause-history g c h agrees =
    subst (λ x. SendsToClient x c.args.port c.args.from c.args.datagram.now
    (Some (record { five_tuple = c.in_ok-five_tuple.five_tuple; channel = c.channel_to-channel.result; peer = c.args.from; payload = c.args.datagram.now }))) agrees
    (returns-clause-sends g c)
