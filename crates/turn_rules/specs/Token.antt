-- Tokens of reserved ports (RFC 8656, sections 7.2 and 18.10).
use Rattle.std.specs.Prelude.{ℕ, ◌%◌, ◌^◌, List, ◌++◌, take}
use Rattle.std.specs.Int.{w16, w64, to_be_bytes}
use Rattle.sha2.specs.Sha256.{sha256}
use Rattle.turn_mac.specs.Hmac.{hmac}
use Rattle.turn_types.specs.Prelude.{tuple_bytes}
use Rattle.turn_types.specs.declared.address.FiveTuple.{FiveTuple}
use Rattle.turn_types.specs.declared.message.Token.{Token}

-- what the digest of a token is taken of: the moment, the five-tuple and the transaction id of the Allocate
unfoldable pub token_input : ℕ → FiveTuple → List ℕ → List ℕ
token_input t f tx = to_be_bytes w64 t ++ tuple_bytes f ++ tx

-- the token of a reserved port: the port in two bytes, and six bytes of the HMAC-SHA256 under the secret
unfoldable pub token_for : List ℕ → ℕ → FiveTuple → List ℕ → ℕ → Token
token_for secret t f tx port = record { 0 = to_be_bytes w16 (port % 2 ^ 16) ++ take 6 (hmac sha256 secret (token_input t f tx)) }
