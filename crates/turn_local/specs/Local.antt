-- Peers on a server's own machine.
use Rattle.std.specs.Prelude.{◌&&◌, Bool, nat_eq, List}
use Rattle.std.specs.List.{list_any}
use Rattle.turn_local.specs.declared.local.LocalPeer.{LocalPeer}
use Rattle.turn_types.specs.Prelude.{is_between}
use Rattle.turn_types.specs.declared.address.Endpoint.{Endpoint}

-- an endpoint is at the address, with a port of the range
abbrev pub is_of : LocalPeer → Endpoint → Bool
is_of local peer = nat_eq peer.ip local.ip && is_between local.first local.last peer.port

-- an endpoint is of one of these
abbrev pub is_local_peer : List LocalPeer → Endpoint → Bool
is_local_peer locals peer = list_any (λ local. is_of local peer) locals
