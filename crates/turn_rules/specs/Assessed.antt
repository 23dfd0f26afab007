-- What is known of a client's message before a port is picked for it.
use Rattle.std.specs.Prelude.{◌≡◌, ℕ, Bool, Option, Some, None}
use Rattle.turn_types.specs.Prelude.{Config}
use Rattle.turn_history.specs.Prelude.{FiveTuple, Contents}
use Rattle.turn_codec.specs.Prelude.{Content}
use Rattle.turn_rules.specs.Allocate.{with_port}
use Rattle.turn_rules.specs.Answer.{outcome_of, port_needed}
use Rattle.turn_rules.specs.Decided.{verdict_in}
use Rattle.turn_rules.specs.declared.assessment.Assessment.{Assessment}
use Rattle.turn_rules.specs.declared.assessment.Stage.{Stage}
use Rattle.turn_rules.specs.declared.assessment.Stage.TheVariants.{Settled, NeedsPort}
use Rattle.turn_rules.specs.declared.decision.ClientMessage.{ClientMessage}
use Rattle.turn_rules.specs.declared.need.Need.{Need}
use Rattle.turn_rules.specs.declared.outcome.Outcome.{Outcome}

-- which port is needed at a stage, if one is
abbrev pub needed_at : Stage → Option Need
needed_at (Settled outcome) = None
needed_at (NeedsPort need) = Some need

-- the outcome that a stage comes to, with the port that was picked, if one was
abbrev pub outcome_at : Config → FiveTuple → ℕ → Content → Stage → Option ℕ → Outcome
outcome_at s f t m (Settled outcome) port = outcome
outcome_at s f t m (NeedsPort need) port = with_port s f t m port

-- which port an assessed message needs, if it needs one
abbrev pub needed_by : Assessment → Option Need
needed_by a = needed_at a.stage

-- a message was assessed at a moment and a table: the port that it needs is known, and its outcome by what is picked
pub record IsAssessed (pairs : Bool) (s : Config) (c : Contents) (request : ClientMessage) (t : ℕ) (a : Assessment) : Type 0 where
  pub need : needed_by a ≡ port_needed pairs s c request.five_tuple t request.message (verdict_in request)
  pub outcome : (port : Option ℕ) → outcome_at s request.five_tuple t request.message.content a.stage port ≡ outcome_of pairs s c request.five_tuple t request.message (verdict_in request) port
