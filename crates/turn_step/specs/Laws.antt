-- Words of the laws.
use Rattle.std.specs.Prelude.{◌≡◌, ◌≢◌, ℕ, List, Some, None, false}
use Rattle.turn_history.specs.Prelude.{FiveTuple, Contents}
use Rattle.turn_codec.specs.Prelude.{Content, Encodes}
use Rattle.turn_rules.specs.Prelude.{is_allocate, credential_outcome, user_of, SameForOthers}
use Rattle.turn_step.specs.Answer.{Setting}
use Rattle.turn_step.specs.Outcome.{StepOutcome}
use Rattle.turn_step.specs.Outcome.Sent.{ToClient}

-- nothing is done, and nothing is sent to a client
pub record HasNoReply (o : StepOutcome) : Type 0 where
  pub change : o.change ≡ None
  pub sent : (f : FiveTuple) (bytes : List ℕ) → o.sent ≢ Some (ToClient f bytes)

-- the bytes encode no Allocate request
abbrev pub EncodesNoAllocate : List ℕ → Type 0
EncodesNoAllocate bytes = (m : Content) → Encodes bytes m → is_allocate (record { bytes = bytes; content = m }) ≡ false

-- if the bytes encode a message, two tables have as many allocations of its user, as many of all, the same taken ports, and the same reserved
-- ports
abbrev pub SameForAllocates : Setting → FiveTuple → ℕ → List ℕ → Contents → Contents → Type 0
SameForAllocates s f t bytes c k =
    (m : Content) → Encodes bytes m → SameForOthers s.range (user_of (credential_outcome s.config s.keys f.client t (record { bytes = bytes; content = m }))) c k
