-- The addresses of a machine.
use Rattle.std.specs.Prelude.{ℕ, ◌-◌, ◌/◌, ◌^◌, ◌||◌, Bool, nat_eq, List}
use Rattle.std.specs.List.{list_any}
use Rattle.turn_sockets.specs.declared.machine.Prefix.{Prefix}

-- an address is of 127.0.0.0/8
abbrev pub is_loopback : ℕ → Bool
is_loopback ip = nat_eq (ip / 2 ^ 24) 127

-- the first bits of an address of 32 bits
abbrev pub head : ℕ → ℕ → ℕ
head ip bits = ip / 2 ^ (32 - bits)

-- an address begins with a prefix
abbrev pub is_in : Prefix → ℕ → Bool
is_in prefix ip = nat_eq (head ip prefix.bits) (head prefix.address prefix.bits)

-- an address is the machine's: of 127.0.0.0/8, or of one of its prefixes
abbrev pub is_of_machine : List Prefix → ℕ → Bool
is_of_machine prefixes ip = is_loopback ip || list_any (λ prefix. is_in prefix ip) prefixes
