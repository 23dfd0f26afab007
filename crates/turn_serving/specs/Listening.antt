-- The sockets of the addresses that clients send to.
use Rattle.std.specs.Prelude.{◌≡◌, ◌/◌, ◌⊎◌, List, All, Contains, length, max}
use Rattle.std.specs.List.{AllZip}
use Rattle.turn_sockets.specs.declared.backlog.Room.{Room}
use Rattle.turn_sockets.specs.declared.own.OwnAddresses.{OwnAddresses}
use Rattle.turn_types.specs.declared.address.Endpoint.{Endpoint}

-- Sockets, by their addresses, of these addresses: each socket is at one of them, and each of them has one. Several may be at one address,
-- where a supervisor hands them over.
pub record HasSockets (sockets addresses : List Endpoint) : Type 0 where
  pub known : All (λ at. Contains addresses at) sockets
  pub each : All (λ at. Contains sockets at) addresses

-- an address was bound for one that was asked for: the same, but for port 0, in whose place is the port that the system chose
abbrev pub IsBoundFor : Endpoint → Endpoint → Type 0
IsBoundFor asked bound = (bound.ip ≡ asked.ip) × ((asked.port ≡ 0) ⊎ (bound.port ≡ asked.port))

-- the same of addresses, each at its place
abbrev pub AreBoundFor : List Endpoint → List Endpoint → Type 0
AreBoundFor asked bound = AllZip IsBoundFor asked bound

-- The addresses of a server that was to have such ones of its own: these, and at the listening ones those that were bound for them.
pub record AreOwnAs (asked own : OwnAddresses) : Type 0 where
  pub listening : AreBoundFor asked.listening own.listening
  pub relay : own.relay ≡ asked.relay
  pub bound : own.bound ≡ asked.bound
  pub ports : own.ports ≡ asked.ports
  pub local_peers : own.local_peers ≡ asked.local_peers

-- How much may wait of what was sent to each of these addresses: 1,024 datagrams and 2^20 bytes, shared out, and 64 datagrams of one
-- five-tuple.
abbrev pub room_of : List Endpoint → Room
room_of addresses = record { datagrams = 1_024 / max (length addresses) 1; of_one = 64; bytes = 1_048_576 / max (length addresses) 1 }
