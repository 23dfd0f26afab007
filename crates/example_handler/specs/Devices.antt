-- The keys of a maker's devices.
use Rattle.std.specs.Prelude.{ℕ, ◌==◌, List, length, Some, None, if◌then◌else◌}
use Rattle.sha1.specs.Sha1.{sha1}
use Rattle.turn.specs.Credential.{Keys}
use Rattle.turn.specs.Hmac.{auth_key, hmac}

-- A device's name is its serial number, of eight bytes, and its password the HMAC-SHA1 of the name under the maker's secret. No other
-- name has a key. The realm is whatever the server has.
abbrev pub device_key : List ℕ → Keys
device_key secret name realm =
    if length name == 8 then Some (record { bytes = auth_key name realm (hmac sha1 secret name); expiry = None }) else None
