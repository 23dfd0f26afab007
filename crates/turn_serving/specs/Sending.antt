-- What is sent of a datagram that a call of the server hands out.
use Rattle.std.specs.Prelude.{◌≡◌, ◌≢◌, ◌⊎◌, ℕ, Bool, false, true, List, [], ◌∷◌, ◌++◌, All, Contains}
use Rattle.turn_sockets.specs.Own.{IsLost, MayBeLost, sent_to}
use Rattle.turn_sockets.specs.Wire.{Passed}
use Rattle.turn_sockets.specs.Wire.{Sent as sent}
use Rattle.turn_sockets.specs.declared.own.OwnAddresses.{OwnAddresses}
use Rattle.turn_step.specs.Prelude.{Sent, ToClient, ToPeer}
use Rattle.turn_types.specs.declared.address.Endpoint.{Endpoint}

-- The addresses of the listening sockets, and those that are the server's own.
pub record Addresses : Type 0 where
  pub sockets : List Endpoint
  pub own : OwnAddresses

-- these sockets, of a server with these addresses of its own
abbrev pub addresses_of : List Endpoint → OwnAddresses → Addresses
addresses_of sockets own = record { sockets = sockets; own = own }

-- The sockets of the relay ports of generators: which ports have one, and the IP address at which it is bound.
pub record PortSockets (G : Type 0) : Type 0 where
  pub has_socket : G → ℕ → Bool
  pub bound : G → ℕ

-- these sockets
abbrev pub port_sockets : {G : Type 0} → (G → ℕ → Bool) → (G → ℕ) → PortSockets G
port_sockets has_socket bound = record { has_socket = has_socket; bound = bound }

-- What is sent of a datagram that a call hands out, once: to a client from the socket of its five-tuple's server, or nothing if no socket
-- has that address; to a peer from the socket of the relay port, or nothing if the port has none, or if it would come to the server itself or
-- to another program at an address of the server's own, where nothing is ever sent. A relay port of the server is reached where it is bound.
abbrev pub SendsOne : {G : Type 0} → PortSockets G → Addresses → G → Sent → List Passed → Type 0
SendsOne relays here ports (ToClient f bytes) out =
    (Contains here.sockets f.server × (out ≡ sent f.server f.client bytes ∷ [])) ⊎ (All (λ at. at ≢ f.server) here.sockets × (out ≡ []))
SendsOne relays here ports (ToPeer port peer bytes) out =
    ((relays.has_socket ports port ≡ true) × ¬ IsLost here.own (sent_to here.own peer)
    × (out ≡ sent (record { ip = relays.bound ports; port = port }) (sent_to here.own peer) bytes ∷ []))
    ⊎ (((relays.has_socket ports port ≡ false) ⊎ MayBeLost here.own (sent_to here.own peer)) × (out ≡ []))

-- what is sent of several, in their order
abbrev pub SendsEach : {G : Type 0} → PortSockets G → Addresses → G → List Sent → List Passed → Type 0
SendsEach relays here ports [] out = out ≡ []
SendsEach relays here ports (o ∷ os) out =
    (first : List Passed) × (rest : List Passed) × SendsOne relays here ports o first × SendsEach relays here ports os rest × (out ≡ first ++ rest)
