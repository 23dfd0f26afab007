use Rattle.std.proofs.Common.{subst, option_map}
use Rattle.turn_relay.specs.FromClient.{SendsToPeer}
use Rattle.turn_relay.specs.Views.{peer_data}
use Rattle.turn_relay.proofs.Datagrams.{of_message}
use Rattle.turn_relay.proofs.client.from_message.Goals as goal

pub returns-clause-sends : goal.returns-clause-sends
returns-clause-sends g c =
    of_message c.args.table.now.contents c.args.five_tuple c.args.message.now.bytes c.args.message.now.content _ c.as_bytes-bytes.ensures.encoded c.by_message.ensures.sends

pub returns-clause-history : goal.returns-clause-history
returns-clause-history g c = λ h agrees.
    subst (λ x. SendsToPeer x c.args.five_tuple c.args.message.now.bytes (option_map peer_data c.by_message.result))
    agrees (returns-clause-sends g c)
