use Rattle.std.proofs.Common.{None, subst, option_map}
use Rattle.turn_history.specs.Table as tables
use Rattle.turn_relay.specs.FromClient.{SendsToPeer}
use Rattle.turn_relay.specs.Views.{peer_data}
use Rattle.turn_relay.proofs.Datagrams.{of_neither}
use Rattle.turn_relay.proofs.client.from_client.Goals as goal

pub returns-in-Some-clause-sends : goal.returns-in-Some-clause-sends
returns-in-Some-clause-sends g c = c.from_channel_data.ensures.sends c.args.datagram.now c.in-Some.ensures.found

pub returns-in-Some-clause-history : goal.returns-in-Some-clause-history
returns-in-Some-clause-history g c h agrees = c.from_channel_data.ensures.history h c.args.datagram.now agrees c.in-Some.ensures.found

pub returns-in-Ok-clause-sends : goal.returns-in-Ok-clause-sends
returns-in-Ok-clause-sends g c =
    subst (λ x. SendsToPeer c.args.table.now.contents c.args.five_tuple x (option_map peer_data c.from_message.result)) c.in-Ok.ensures.found.0 c.from_message.ensures.sends

pub returns-in-Ok-clause-history : goal.returns-in-Ok-clause-history
returns-in-Ok-clause-history g c h agrees =
    subst (λ x. SendsToPeer (tables.table h c.args.table.now.moment) c.args.five_tuple x (option_map peer_data c.from_message.result)) c.in-Ok.ensures.found.0 (c.from_message.ensures.history h agrees)

pub returns-in-Err-clause-sends : goal.returns-in-Err-clause-sends
returns-in-Err-clause-sends g c =
    of_neither c.args.table.now.contents c.args.five_tuple c.args.datagram.now
    (λ m s. let is = c.in-Err.ensures.only m s in cc)
    (λ n p s. c.in_default.ensures.only n p s)

pub returns-in-Err-clause-history : goal.returns-in-Err-clause-history
returns-in-Err-clause-history g c h agrees =
    subst (λ x. SendsToPeer x c.args.five_tuple c.args.datagram.now None) agrees (returns-in-Err-clause-sends g c)
