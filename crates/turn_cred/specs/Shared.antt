-- Time-limited credentials: names that begin with their expiry time, with passwords made from a secret that is shared with a web
-- service.
use Rattle.std.specs.Prelude.{ℕ, ◌+◌, ◌-◌, ◌*◌, ◌==◌, nat_le, nat_lt, ◌&&◌, List, [], ◌∷◌, Option, Some, None, option_map, if◌then◌else◌}
use Rattle.std.specs.Option.{option_or, option_and_then}
use Rattle.std.specs.FinMap as map
use Rattle.sha1.specs.Sha1.{sha1}
use Rattle.base64.specs.Engines.{standard}
use Rattle.base64.specs.GeneralPurpose.{encode_of}
use Rattle.turn_mac.specs.Hmac.{auth_key, hmac}
use Rattle.turn_cred.specs.Users.{KeyMap}
use Rattle.turn_cred.specs.declared.key.Key.{Key}

-- ---- Names

-- a number, if it is a moment: below 2^40 - 3600 seconds
abbrev pub as_moment : ℕ → Option ℕ
as_moment n = if nat_lt n 1099511624176 then Some n else None

-- the number that goes on with the digits up to the first colon or the end, if it is a moment
unfoldable pub moment_from : ℕ → List ℕ → Option ℕ
moment_from n [] = as_moment n
moment_from n (b ∷ bytes) =
    if b == 58 then as_moment n
    else if nat_le 48 b && nat_le b 57 && nat_lt n 1099511624176 then moment_from (n * 10 + (b - 48)) bytes
    else None

-- the expiry time of a name: the moment that its digits up to the first colon or the end are, of which the first isn't 0
unfoldable pub expiry_of : List ℕ → Option ℕ
expiry_of [] = None
expiry_of (b ∷ bytes) = if nat_le 49 b && nat_le b 57 then moment_from (b - 48) bytes else None

-- ---- Keys

-- the password of a name: the base64, with padding, of HMAC-SHA1 of the whole name under the secret
unfoldable pub password_of : List ℕ → List ℕ → List ℕ
password_of secret name = encode_of standard (hmac sha1 secret name)

-- the key of a name with an expiry time
abbrev pub expiring_key : List ℕ → List ℕ → List ℕ → ℕ → Key
expiring_key secret name realm expiry = record { bytes = auth_key name realm (password_of secret name); expiry = Some expiry }

-- the key of a name under a secret, if the name has an expiry time
unfoldable pub shared_key : List ℕ → List ℕ → List ℕ → Option Key
shared_key secret name realm = option_map (expiring_key secret name realm) (expiry_of name)

-- a key that doesn't expire, of these bytes
abbrev pub lasting : Option (List ℕ) → Option Key
lasting bytes = option_map (λ b. record { bytes = b; expiry = None }) bytes

-- ---- Both kinds

-- users with keys of their own, and the secret of all other names, if there is one
pub record Sources : Type 0 where
  pub users : KeyMap
  -- the secret that is shared with a web service
  pub secret : Option (List ℕ)

-- the key of a name in a realm: the user's own, else that of the name under the secret
unfoldable pub key_in : Sources → List ℕ → List ℕ → Option Key
key_in sources name realm = option_or (lasting (map.get sources.users name)) (option_and_then (λ s. shared_key s name realm) sources.secret)
