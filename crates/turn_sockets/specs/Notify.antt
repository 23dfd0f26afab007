-- How a supervisor is named that is told when a server is ready.
use Rattle.std.specs.Prelude.{ℕ, ◌+◌, ◌-◌, ◌++◌, ◌∷◌, ◌&&◌, ◌||◌, Bool, nat_eq, nat_le, if◌then◌else◌, List, [], Option, Some, None, length, replicate}
use Rattle.turn_sockets.specs.declared.notify.UnixAddress.{UnixAddress}

-- `@`, with which an abstract name begins
abbrev at_sign : ℕ
at_sign = 64

-- `/`, with which a path from the root on does
abbrev slash : ℕ
slash = 47

-- how many bytes of the address count: the family, the name, and for a path the zero that ends it
abbrev counted : ℕ → List ℕ → ℕ
counted first rest = if nat_eq first at_sign then 3 + length rest else 4 + length rest

-- an abstract name or a path, neither of which is empty, and which fits the 108 bytes beside the family
abbrev is_name : ℕ → List ℕ → Bool
is_name first rest = (nat_eq first at_sign || nat_eq first slash) && (nat_le 1 (length rest) && nat_le (counted first rest) 110)

-- the address that a name is: the family 1 in two bytes, the name, in which `@` is a zero, and zeros up to 128 bytes
abbrev pub unix_address : List ℕ → Option UnixAddress
unix_address [] = None
unix_address (first ∷ rest) =
    if is_name first rest then Some (record {
      bytes = 1 ∷ 0 ∷ (if nat_eq first at_sign then 0 else first) ∷ rest ++ replicate (125 - length rest) 0;
      length = counted first rest;
    })
    else None
