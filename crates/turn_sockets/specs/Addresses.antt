-- Endpoints as the addresses of sockets.
use Rattle.std.specs.Prelude.{◌≡◌}
use Rattle.std.specs.Net.Addr.{ipv4_bits}
use Rattle.std.specs.Net.Socket.{v4_ip, v4_port}
use Rattle.std.specs.declared.net.socket_addr.SocketAddr.{SocketAddr}
use Rattle.std.specs.declared.net.socket_addr.SocketAddr.TheVariants.{V4, V6}
use Rattle.turn_types.specs.declared.address.Endpoint.{Endpoint}

-- an IPv4 address with the endpoint's bits and port
abbrev pub IsAddressOf : Endpoint → SocketAddr → Type 0
IsAddressOf endpoint (V4 address) = (ipv4_bits (v4_ip address) ≡ endpoint.ip) × (v4_port address ≡ endpoint.port)
IsAddressOf endpoint (V6 address) = ⊥
