-- The ranges, the bytes and the order of five-tuples.
use Rattle.std.specs.Prelude.{◌≡◌, ℕ, ◌^◌, ◌<◌, Bool, List, ◌++◌}
use Rattle.std.specs.declared.cmp.Ordering.{Ordering}
use Rattle.std.specs.Cmp.Lexicographic.{slice_cmp}
use Rattle.std.specs.Int.{to_be_bytes, w16, w32}
use Rattle.std.specs.Ordering.{nat_cmp, ordering_then, eq_by_cmp}
use Rattle.turn_types.specs.declared.address.Endpoint.{Endpoint}
use Rattle.turn_types.specs.declared.address.FiveTuple.{FiveTuple}

-- an IPv4 address has 32 bits, and a port 16
pub record IsEndpoint (a : Endpoint) : Type 0 where
  pub ip : a.ip < 2 ^ 32
  pub port : a.port < 2 ^ 16

-- the client's and the server's endpoints are in range
pub record IsTuple (f : FiveTuple) : Type 0 where
  pub client : IsEndpoint f.client
  pub server : IsEndpoint f.server

-- the six bytes of an address and a port, in network byte order
unfoldable pub endpoint_bytes : Endpoint → List ℕ
endpoint_bytes a = to_be_bytes w32 a.ip ++ to_be_bytes w16 a.port

-- the twelve bytes of a five-tuple: the client's six and the server's
unfoldable pub tuple_bytes : FiveTuple → List ℕ
tuple_bytes f = endpoint_bytes f.client ++ endpoint_bytes f.server

-- the order of endpoints: by the address, then by the port
abbrev pub endpoint_cmp : Endpoint → Endpoint → Ordering
endpoint_cmp a b = ordering_then (nat_cmp a.ip b.ip) (nat_cmp a.port b.port)

-- the order of five-tuples: by the client's address and port, then by the server's
abbrev pub tuple_cmp : FiveTuple → FiveTuple → Ordering
tuple_cmp f g = ordering_then (endpoint_cmp f.client g.client) (endpoint_cmp f.server g.server)

-- two five-tuples are the same, as a test
abbrev pub same_tuple : FiveTuple → FiveTuple → Bool
same_tuple f g = eq_by_cmp tuple_cmp f g

-- the order of five-tuples in range is that of their twelve bytes
abbrev pub TuplesGoByBytes : Type 0
TuplesGoByBytes = (f g : FiveTuple) → IsTuple f → IsTuple g → tuple_cmp f g ≡ slice_cmp nat_cmp (tuple_bytes f) (tuple_bytes g)
