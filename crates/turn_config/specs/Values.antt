-- How values are written in the words of a command line.
use Rattle.std.specs.Prelude.{ℕ, ◌≡◌, ◌<◌, ◌≤◌, ◌^◌, List, [], ◌∷◌, ◌++◌, length, map}
use Rattle.std.specs.Int.{w32, from_be_bytes}
use Rattle.std.specs.List.{join_with_byte}
use Rattle.std.specs.Str.Parse.{IsNumeral, digits_value}
use Rattle.turn_types.specs.declared.address.Endpoint.{Endpoint}

-- the value of decimal digits
abbrev pub number_of : List ℕ → ℕ
number_of text = digits_value 10 text

-- 1 to 20 decimal digits, whose value is below the bound
pub record IsNumberBelow (bound : ℕ) (text : List ℕ) : Type 0 where
  pub digits : IsNumeral 10 text
  pub few : length text ≤ 20
  pub below : number_of text < bound

-- four numbers below 256 with dots between, which are the bytes of the address
pub record IsIp (text : List ℕ) (ip : ℕ) : Type 0 where
  pub a : List ℕ
  pub b : List ℕ
  pub c : List ℕ
  pub d : List ℕ
  pub numbers : IsNumberBelow 256 a × IsNumberBelow 256 b × IsNumberBelow 256 c × IsNumberBelow 256 d
  pub encoded : text ≡ join_with_byte 46 (a ∷ b ∷ c ∷ d ∷ [])
  pub bytes : ip ≡ from_be_bytes w32 (map number_of (a ∷ b ∷ c ∷ d ∷ []))

-- an address, a colon, and a port below 2^16
pub record IsEndpoint (text : List ℕ) (endpoint : Endpoint) : Type 0 where
  pub ip : List ℕ
  pub port : List ℕ
  pub address : IsIp ip endpoint.ip
  pub number : IsNumberBelow (2 ^ 16) port
  pub encoded : text ≡ ip ++ 58 ∷ port
  pub value : endpoint.port ≡ number_of port
