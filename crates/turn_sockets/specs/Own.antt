-- The addresses of a server itself.
use Rattle.std.specs.Prelude.{ℕ, ◌≡◌, ◌≢◌, ◌≤◌, ◌⊎◌, ◌&&◌, ◌||◌, Bool, true, not, nat_eq, if◌then◌else◌, List, AllPairs, Any, length}
use Rattle.std.specs.List.{list_all, list_any}
use Rattle.turn_local.specs.Local.{is_local_peer}
use Rattle.turn_types.specs.Prelude.{is_between}
use Rattle.turn_types.specs.declared.address.Endpoint.{Endpoint}
use Rattle.turn_sockets.specs.declared.own.OwnAddresses.{OwnAddresses}

-- addresses that a server may listen on: at most nine, each once
abbrev pub AreListened : List Endpoint → Type 0
AreListened addresses = (length addresses ≤ 9) × AllPairs (λ a b. a ≢ b) addresses

-- an address that clients are told, at which relay ports are bound, or that clients send to
abbrev pub IsServerIp : OwnAddresses → ℕ → Type 0
IsServerIp own ip = (ip ≡ own.relay) ⊎ ((ip ≡ own.bound) ⊎ Any (λ a. ip ≡ a.ip) own.listening)

-- a relayed transport address: an address of the server with a port of the range
abbrev pub IsRelay : OwnAddresses → Endpoint → Type 0
IsRelay own from = (own.ports.0 ≤ from.port) × (from.port ≤ own.ports.1) × IsServerIp own from.ip

-- an address that clients send to
abbrev pub IsNamed : OwnAddresses → Endpoint → Type 0
IsNamed own peer = Any (λ a. (peer.port ≡ a.port) × (peer.ip ≡ a.ip)) own.listening

-- an address that clients send to, where 0.0.0.0 is any
abbrev pub IsListening : OwnAddresses → Endpoint → Type 0
IsListening own peer = Any (λ a. (peer.port ≡ a.port) × ((a.ip ≡ 0) ⊎ (peer.ip ≡ a.ip))) own.listening

-- An address of the server, or 0.0.0.0: what a socket sends there goes to its own machine.
abbrev pub IsOwnIp : OwnAddresses → ℕ → Type 0
IsOwnIp own ip = (ip ≡ 0) ⊎ IsServerIp own ip

-- relay ports are bound at 0.0.0.0, or clients send to it, so that each address of the machine may be the server's
abbrev pub has_any : OwnAddresses → Bool
has_any own = nat_eq own.bound 0 || list_any (λ a. nat_eq a.ip 0) own.listening

-- no relay port has this port, and no local peer is at this endpoint
abbrev pub is_closed : OwnAddresses → Endpoint → Bool
is_closed own to = not (is_between own.ports.0 own.ports.1 to.port) && not (is_local_peer own.local_peers to)

-- What a relay port sends there is lost: an address that clients send to, and one of the server's own at a closed port.
abbrev pub IsLost : OwnAddresses → Endpoint → Type 0
IsLost own to = IsNamed own to ⊎ (IsOwnIp own to.ip × (is_closed own to ≡ true))

-- Nothing else that it sends may be lost so: where 0.0.0.0 is one of the server's addresses, any may be one of the machine.
abbrev pub MayBeLost : OwnAddresses → Endpoint → Type 0
MayBeLost own to = IsListening own to ⊎ ((is_closed own to ≡ true) × (IsOwnIp own to.ip ⊎ (has_any own ≡ true)))

-- each socket, by its address, is at one of these addresses, and each address has a socket
abbrev pub are_at : List Endpoint → List Endpoint → Bool
are_at sockets addresses =
    list_all (λ s. list_any (λ a. nat_eq a.ip s.ip && nat_eq a.port s.port) addresses) sockets
    && list_all (λ a. list_any (λ s. nat_eq s.ip a.ip && nat_eq s.port a.port) sockets) addresses

-- ---- One relay port, two addresses

-- a port of the range of the relay ports
abbrev pub is_relay_port : OwnAddresses → ℕ → Bool
is_relay_port own port = is_between own.ports.0 own.ports.1 port

-- a relay port at the address that clients are told, which the system translates to the address that is bound
abbrev pub is_told : OwnAddresses → Endpoint → Bool
is_told own at = nat_eq at.ip own.relay && (is_relay_port own at.port && not (nat_eq own.bound 0))

-- a relay port at the address that is bound, if that is one address
abbrev pub is_bound : OwnAddresses → Endpoint → Bool
is_bound own at = nat_eq at.ip own.bound && (is_relay_port own at.port && not (nat_eq own.bound 0))

-- where a relay port sends what is for a peer
abbrev pub sent_to : OwnAddresses → Endpoint → Endpoint
sent_to own peer = if is_told own peer then record { ip = own.bound; port = peer.port } else peer

-- which peer something comes from that a relay port receives
abbrev pub come_from : OwnAddresses → Endpoint → Endpoint
come_from own from = if is_bound own from then record { ip = own.relay; port = from.port } else from

-- what relay ports send to one another comes from where it was sent to, in the addresses that clients are told
pub record RelayPortsAreOneAddress : Type 0 where
  pub there : (own : OwnAddresses) (peer : Endpoint) → is_told own peer ≡ true → come_from own (sent_to own peer) ≡ peer
  pub back : (own : OwnAddresses) (from : Endpoint) → is_bound own from ≡ true → sent_to own (come_from own from) ≡ from
