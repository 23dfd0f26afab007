-- The names of time-limited credentials.
use Rattle.std.specs.Prelude.{◌≡◌, ◌≢◌, ◌≤◌, ◌<◌, ◌-◌, ◌^◌, ℕ, List, [], ◌∷◌, ◌++◌, Option, Some, None, slice_index}
use Rattle.std.specs.Str.Parse.{IsNumeral, digits_value}
use Rattle.turn_mac.specs.Hmac.{auth_key}
use Rattle.turn_cred.specs.Shared.{password_of}
use Rattle.turn_cred.specs.declared.key.Key.{Key}
use Rattle.turn_types.specs.Prelude.{end_of_moments}

-- nothing, or a colon and what comes after it
abbrev pub colon_and : Option (List ℕ) → List ℕ
colon_and None = []
colon_and (Some bytes) = 58 ∷ bytes

-- the name is the decimal numeral of its expiry time, without a sign or a leading zero, and then nothing or a colon and anything
pub record HasExpiry (name : List ℕ) (expiry : ℕ) : Type 0 where
  pub digits : List ℕ
  -- what comes after the colon, if there is one
  pub rest : Option (List ℕ)
  pub encoded : name ≡ digits ++ colon_and rest
  pub numeral : IsNumeral 10 digits
  pub no_leading_zero : slice_index digits 0 ≢ 48
  pub value : expiry ≡ digits_value 10 digits
  pub range : (1 ≤ expiry) × (expiry < end_of_moments)

-- the key of a name under a secret in a realm: the name has an expiry time, and the password is that of the whole name
pub record IsSharedKey (secret name realm : List ℕ) (key : Key) : Type 0 where
  pub expiry : ℕ
  pub has_expiry : HasExpiry name expiry
  pub key_is : key ≡ record { bytes = auth_key name realm (password_of secret name); expiry = Some expiry }
