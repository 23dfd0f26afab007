use Rattle.std.proofs.Common.{rules}
use Rattle.turn_relay.specs.FromClient.{sent_by_message}
use Rattle.turn_relay.proofs.client.by_message.Goals as goal

pub returns-clause-sends : goal.returns-clause-sends
unfolding sent_by_message
returns-clause-sends g c = search rules
