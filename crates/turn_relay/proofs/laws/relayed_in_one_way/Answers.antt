use Rattle.turn_history.specs.Prelude.{table}
use Rattle.turn_history.proofs.Channels.{peers-apart}
use Rattle.turn_history.proofs.Histories.{ports-apart}
use Rattle.turn_relay.proofs.Holders.{one_way}
use Rattle.turn_relay.proofs.laws.relayed_in_one_way.Goals as goal

pub returns : goal.returns
returns c b h t port peer payload o p fits now = one_way (table h t) port peer payload o p (ports-apart b h t fits now) (peers-apart b h t fits now)
