use Rattle.turn_relay.proofs.Sent.{relayed_by, sent_by, sent_over}
use Rattle.turn_relay.proofs.laws.sends_as_permitted.Goals as goal

pub returns-clause-message : goal.returns-clause-message
returns-clause-message c b h t f bytes m d fits encodes sends = sent_by b h t f fits (record { bytes = bytes; content = m }) d (sends.message m encodes)

pub returns-clause-channel_data : goal.returns-clause-channel_data
returns-clause-channel_data c b h t f bytes number payload d fits now encodes sends = sent_over b h t f fits number payload d now (sends.channel_data number payload encodes)

pub returns-clause-peer : goal.returns-clause-peer
returns-clause-peer c b h t port peer payload d fits now sends = relayed_by b h t port peer payload d fits now sends
