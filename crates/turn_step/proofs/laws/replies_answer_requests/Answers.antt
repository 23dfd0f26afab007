use Rattle.turn_step.proofs.Exclusion.{no_message_no_reply, other_no_reply, request_relays_nothing, unreadable_nothing}
use Rattle.turn_step.proofs.laws.replies_answer_requests.Goals as goal

pub returns-clause-requests : goal.returns-clause-requests
returns-clause-requests c = request_relays_nothing

pub returns-clause-others : goal.returns-clause-others
returns-clause-others c = other_no_reply

pub returns-clause-no_message : goal.returns-clause-no_message
returns-clause-no_message c = no_message_no_reply

pub returns-clause-unreadable : goal.returns-clause-unreadable
returns-clause-unreadable c = unreadable_nothing
