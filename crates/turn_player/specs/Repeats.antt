-- Allocate requests that come again.
use Rattle.std.specs.Prelude.{◌≡◌, ◌++◌, ◌∷◌, ℕ, Bool, true, List, Some}
use Rattle.turn_history.specs.Prelude.{FiveTuple, Allocates, Allocation, History, IsLive, made}
use Rattle.turn_codec.specs.Prelude.{Datagram, Encodes}
use Rattle.turn_cred.specs.Prelude.{policy_of, IsSentBy, NonceHolds}
use Rattle.turn_cred.specs.declared.key.Key.{Key}
use Rattle.turn_rules.specs.Prelude.{is_allocate}
use Rattle.turn_step.specs.Prelude.{AnswersArrival, Setting, StepOutcome, change_of, FromClient}
use Rattle.turn_engine.specs.Prelude.{Taken}
use Rattle.turn_player.specs.Lives.{Input, Lasting, Life, NeverFall, Point, Said, formatted, sure_of}

-- a life from a formatted disk on leads to the point q, where x lasts, after the arrivals before it
pub record LastsAfter (s : Setting) (q : Point) (before : List Lasting) (x : Lasting) : Type 0 where
  pub may_fail : Bool
  pub inputs : List Input
  pub said : List Said
  pub life : Life s may_fail formatted inputs said q
  pub never_fall : NeverFall 0 inputs
  pub after : List Lasting
  pub sure : sure_of q ≡ before ++ x ∷ after

-- the five-tuple has this allocation at the moment t
pub record Has (h : History) (t : ℕ) (f : FiveTuple) (a : Allocation) : Type 0 where
  -- its last Alloc made this allocation
  pub made : made h f ≡ Some a
  pub live : IsLive h t f

-- the arrival was a message of the five-tuple, and was answered by making this allocation
pub record Makes (x : Taken) (f : FiveTuple) (d : Datagram) (a : Allocation) : Type 0 where
  pub arrival : x.arrival ≡ FromClient f d.bytes
  pub encodes : Encodes d.bytes d.content
  pub change : x.outcome.change ≡ Some (change_of f (Allocates a.user a.port a.granted a.tx a.token))

-- the arrival was an Allocate of a user after the history h, when the five-tuple had this allocation already
pub record MadeBefore (s : Setting) (h : History) (x : Taken) (f : FiveTuple) (d : Datagram) (a : Allocation) : Type 0 where
  pub arrival : x.arrival ≡ FromClient f d.bytes
  pub encodes : Encodes d.bytes d.content
  pub is_allocate : is_allocate d ≡ true
  pub user : List ℕ
  pub key : Key
  pub sent_by : IsSentBy (policy_of s.config) s.keys d f.client x.moment user key
  pub had : Has h x.moment f a

-- The message comes again at the moment t after the history h, and is answered so, by a server that reserves ports or doesn't. Its
-- nonce holds, and the five-tuple has this allocation.
pub record ComesAgain (s : Setting) (h : History) (t : ℕ) (f : FiveTuple) (d : Datagram) (a : Allocation) (o : StepOutcome) : Type 0 where
  pub failed : Bool
  pub pairs : Bool
  pub answers : AnswersArrival (record s { pairs = pairs }) h t failed (FromClient f d.bytes) o
  pub nonce : NonceHolds (policy_of s.config) d f.client t
  pub has : Has h t f a
