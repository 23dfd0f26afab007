-- How a text names an export: the NBD URI specification without its encodings, over a Unix socket or over TCP and IPv4.
use Rattle.std.specs.Prelude.{ℕ, ◌≡◌, ◌≢◌, ◌⊎◌, List, [], ◌∷◌, ◌++◌, All, codes}
use Rattle.std.specs.Net.Addr.{ipv4_bits}
use Rattle.std.specs.Net.Grammar.{IsIpv4Text, IsSocketV4Text}
use Rattle.std.specs.Net.Socket.{v4_ip, v4_port}
use Rattle.std.specs.declared.net.ipv4_addr.Ipv4Addr.{Ipv4Addr}
use Rattle.std.specs.declared.net.socket_addr.SocketAddrV4.{SocketAddrV4}
use Rattle.turn_types.specs.declared.address.Endpoint.{Endpoint}
use Rattle.turn_nbd.specs.declared.uri.Place.{Place}
use Rattle.turn_nbd.specs.declared.uri.Place.TheVariants.{Unix, Tcp}

-- a text begins with this one
abbrev pub Begins : List ℕ → List ℕ → Type 0
Begins front text = (rest : List ℕ) × (text ≡ front ++ rest)

-- a text begins with a scheme of NBD
abbrev pub IsUri : List ℕ → Type 0
IsUri text =
    Begins (codes "nbd:") text ⊎ (Begins (codes "nbd+") text ⊎ (Begins (codes "nbds:") text ⊎ Begins (codes "nbds+") text))

-- no NUL, number sign, percent sign or question mark
abbrev pub IsPlain : ℕ → Type 0
IsPlain byte = (byte ≢ 0) × (byte ≢ 35) × (byte ≢ 37) × (byte ≢ 63)

-- "nbd+unix:///NAME?socket=/PATH"
pub record IsUnix (text name path : List ℕ) : Type 0 where
  pub encoded : text ≡ codes "nbd+unix:///" ++ (name ++ (codes "?socket=" ++ path))
  pub name_plain : All IsPlain name
  pub path_plain : All IsPlain path
  pub absolute : Begins (codes "/") path

-- the endpoint is this address with this port
abbrev pub IsAt : Endpoint → Ipv4Addr → ℕ → Type 0
IsAt at address port = (at.ip ≡ ipv4_bits address) × (at.port ≡ port)

-- an IPv4 address with its port, or alone, with the port that is registered for NBD
abbrev pub IsHost : List ℕ → Endpoint → Type 0
IsHost host at =
    ((a : SocketAddrV4) × IsSocketV4Text host a × IsAt at (v4_ip a) (v4_port a)) ⊎ ((a : Ipv4Addr) × IsIpv4Text host a × IsAt at a 10809)

-- "nbd://IP:PORT/NAME" or "nbd://IP/NAME"
pub record IsTcp (text name : List ℕ) (at : Endpoint) : Type 0 where
  pub host : List ℕ
  pub encoded : text ≡ codes "nbd://" ++ (host ++ 47 ∷ name)
  pub server : IsHost host at
  pub name_plain : All IsPlain name

-- a text names the export of this name at this place
abbrev pub Names : List ℕ → List ℕ → Place → Type 0
Names text name (Unix path) = IsUnix text name path.now
Names text name (Tcp at) = IsTcp text name at
