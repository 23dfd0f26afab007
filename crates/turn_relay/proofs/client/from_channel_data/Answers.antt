use Rattle.std.proofs.Common.{subst, option_map}
use Rattle.turn_relay.specs.FromClient.{SendsToPeer}
use Rattle.turn_relay.specs.Views.{peer_data}
use Rattle.turn_relay.proofs.Datagrams.{of_channel_data}
use Rattle.turn_relay.proofs.client.from_channel_data.Goals as goal

pub returns-clause-sends : goal.returns-clause-sends
returns-clause-sends g c = λ bytes found.
    of_channel_data c.args.table.now.contents c.args.five_tuple bytes c.args.channel_data.now.number c.args.channel_data.now.payload.now _ found c.by_channel_data.ensures.sends

pub returns-clause-history : goal.returns-clause-history
returns-clause-history g c = λ h bytes agrees found.
    subst (λ x. SendsToPeer x c.args.five_tuple bytes (option_map peer_data c.by_channel_data.result))
    agrees (returns-clause-sends g c bytes found)
