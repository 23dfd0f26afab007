-- What passes over a stream: each byte, with whether it was sent.
use Rattle.std.specs.Prelude.{ℕ, Bool, true, false, List, map}

-- these bytes, sent or received
abbrev pub passing : Bool → List ℕ → List (Bool × ℕ)
passing is_sent bytes = map (λ byte. (is_sent, byte)) bytes

-- these bytes, sent to the server
abbrev pub sent : List ℕ → List (Bool × ℕ)
sent bytes = passing true bytes

-- these bytes, received from the server
abbrev pub received : List ℕ → List (Bool × ℕ)
received bytes = passing false bytes
