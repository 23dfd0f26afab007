-- Sockets that a supervisor hands over.
use Rattle.std.specs.Prelude.{ℤ, ◌≡◌, ◌&&◌, Bool, true, false, not, nat_eq, List, find, Option, Some, None, option_map}
use Rattle.std.specs.Option.{option_or}
use Rattle.std.specs.List.{list_any}
use Rattle.turn_types.specs.declared.address.Endpoint.{Endpoint}
use Rattle.turn_sockets.specs.declared.held.HeldFault.{HeldFault}
use Rattle.turn_sockets.specs.declared.held.HeldFault.TheVariants as faults

-- what is at fault with a descriptor, by whether it is a datagram socket, and whether it is connected
abbrev pub descriptor_fault : ℤ → Bool → Bool → Option HeldFault
descriptor_fault descriptor false connected = Some (faults.NotUdp descriptor)
descriptor_fault descriptor true true = Some (faults.Connected descriptor)
descriptor_fault descriptor true false = None

-- a fault of this descriptor
abbrev pub IsOfDescriptor : ℤ → HeldFault → Type 0
IsOfDescriptor descriptor faults.NotHanded = ⊥
IsOfDescriptor descriptor faults.TooMany = ⊥
IsOfDescriptor descriptor (faults.NotUdp own) = own ≡ descriptor
IsOfDescriptor descriptor (faults.Connected own) = own ≡ descriptor
IsOfDescriptor descriptor (faults.Missing address) = ⊥
IsOfDescriptor descriptor (faults.Elsewhere address) = ⊥
IsOfDescriptor descriptor faults.Memory = ⊥

-- the socket, by its address, is at one of the addresses
abbrev is_listed : List Endpoint → Endpoint → Bool
is_listed addresses socket = list_any (λ a. nat_eq a.ip socket.ip && nat_eq a.port socket.port) addresses

-- one of the sockets is at the address
abbrev has_socket : List Endpoint → Endpoint → Bool
has_socket sockets address = list_any (λ s. nat_eq s.ip address.ip && nat_eq s.port address.port) sockets

-- the first socket that is at none of the addresses, or else the first address without a socket
abbrev pub place_fault : List Endpoint → List Endpoint → Option HeldFault
place_fault sockets addresses =
    option_or (option_map faults.Elsewhere (find (λ s. not (is_listed addresses s)) sockets))
    (option_map faults.Missing (find (λ a. not (has_socket sockets a)) addresses))
