-- What turns do with the server.
use Rattle.std.specs.Prelude.{◌≡◌, ℕ, List, [], ◌∷◌}
use Rattle.turn_cred.specs.declared.handler.AuthHandler as handlers
use Rattle.turn_disk.specs.declared.disk.Disk as disks
use Rattle.turn_engine.specs.Prelude.{Advance, Commit, Relay, Serves, ServerCall, Submit, last_of, ServerState, now_of}
use Rattle.turn_ports.specs.declared.generator.RelayAddressGenerator as generators

-- each arrival is submitted, and the clock brought, at a moment that is one by the clock before it; what is answered beside what is staged is
-- answered at such a moment that the clock is at
abbrev pub AreAt : {D H G : Type 0} → (ℕ → ℕ → Type 0) → ServerState D H G → List (ServerCall D H G) → Type 0
AreAt IsOne server [] = Unit {0}
AreAt IsOne server (Submit moment arrival result after ∷ steps) = IsOne (now_of server) moment × AreAt IsOne after steps
AreAt IsOne server (Commit result after ∷ steps) = AreAt IsOne after steps
AreAt IsOne server (Relay arrival sent after ∷ steps) = IsOne (now_of server) (now_of server) × AreAt IsOne after steps
AreAt IsOne server (Advance moment after ∷ steps) = IsOne (now_of server) moment × AreAt IsOne after steps

-- a moment that is this one, whatever the clock
abbrev pub At : ℕ → ℕ → ℕ → Type 0
At moment clock other = other ≡ moment

-- no moment
abbrev pub Never : ℕ → ℕ → Type 0
Never clock moment = ⊥

-- calls of a server in a row, each of which does what its contract says, led from one state of it to another, and each arrival was
-- submitted at such a moment
pub record Served {D H G : Type 0} (disk : disks.Ghosts D) (handler : handlers.Ghosts H) (ports : generators.Ghosts G) (IsOne : ℕ → ℕ → Type 0) (old new : ServerState D H G) : Type 0 where
  pub steps : List (ServerCall D H G)
  pub serves : Serves disk handler ports old steps
  pub moments : AreAt IsOne old steps
  pub last : last_of old steps ≡ new
