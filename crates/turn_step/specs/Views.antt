-- What contracts see of the code's data.
use Rattle.std.specs.Prelude.{Bool, false, true, Option, Some, None, option_map}
use Rattle.turn_step.specs.declared.answer.Answer.{Answer}
use Rattle.turn_step.specs.declared.answer.Answer.TheVariants.{Request, Reply, Data}
use Rattle.turn_step.specs.declared.arrival.Arrival.{Arrival}
use Rattle.turn_step.specs.declared.arrival.Arrival.TheVariants as arrivals
use Rattle.turn_step.specs.declared.arrival.Outgoing.{Outgoing}
use Rattle.turn_step.specs.declared.arrival.Outgoing.TheVariants as outgoing
use Rattle.turn_step.specs.declared.pairs.Pairs.{Pairs}
use Rattle.turn_step.specs.declared.pairs.Pairs.TheVariants.{Refused, Reserved}
use Rattle.turn_step.specs.Outcome.{Arrives, Sent, StepOutcome}

-- an arrival of the code as the definitions have it
abbrev pub arrival_of : Arrival → Arrives
arrival_of (arrivals.Client five_tuple bytes) = Arrives.FromClient five_tuple bytes.now
arrival_of (arrivals.Peer port from bytes id) = Arrives.FromPeer port from bytes.now id.0

-- a datagram of the code as the definitions have it
abbrev pub sent_of : {A : Type 0} → Outgoing A → Sent
sent_of (outgoing.ToClient five_tuple bytes) = Sent.ToClient five_tuple bytes.items
sent_of (outgoing.ToPeer port peer bytes) = Sent.ToPeer port peer bytes.items

-- a datagram, if there is one, as an outcome that does nothing
abbrev pub sends_only : {A : Type 0} → Option (Outgoing A) → StepOutcome
sends_only outgoing = record { change = None; sent = option_map sent_of outgoing }

-- the reply to a request whose answer is the same for every table, as an outcome; there is none else
abbrev pub reply_outcome : {A : Type 0} → Answer A → Option StepOutcome
reply_outcome Request = None
reply_outcome (Reply outgoing) = Some (sends_only outgoing)
reply_outcome (Data outgoing) = None

-- an answer to data as an outcome; there is none of a request
abbrev pub data_outcome : {A : Type 0} → Answer A → Option StepOutcome
data_outcome Request = None
data_outcome (Reply outgoing) = None
data_outcome (Data outgoing) = Some (sends_only outgoing)

-- whether a machine reserves ports
abbrev pub is_reserved : Pairs → Bool
is_reserved Refused = false
is_reserved Reserved = true
