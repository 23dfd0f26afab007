-- What sockets receive and send.
use Rattle.std.specs.Prelude.{ℕ, List}
use Rattle.turn_types.specs.declared.address.Endpoint.{Endpoint}

-- What passed at a socket, by the address at which it is bound: what a read of it found, or a datagram that it sent.
pub data Passed : Type 0 where
  -- a datagram, and who sent it
  Received : (at from : Endpoint) (bytes : List ℕ) → Passed
  -- a read found that no datagram waits
  NoneLeft : (at : Endpoint) → Passed
  -- a read failed, or the sender has no IPv4 address; more may wait
  ReadFailed : (at : Endpoint) → Passed
  -- a datagram, and to whom it was sent
  Sent : (at to : Endpoint) (bytes : List ℕ) → Passed
