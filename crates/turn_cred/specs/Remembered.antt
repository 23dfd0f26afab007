-- What is remembered of a request that passed.
use Rattle.std.specs.Prelude.{◌≡◌, ℕ, ◌<◌, ◌^◌, List, true}
use Rattle.turn_types.specs.declared.address.Endpoint.{Endpoint}
use Rattle.turn_codec.specs.Prelude.{Content, Encodes}
use Rattle.turn_mac.specs.Integrity.{has_right_integrity}
use Rattle.turn_cred.specs.Nonce.{nonce_of}

-- a nonce of some second for a client
pub record IsIssued (secret nonce : List ℕ) (client : Endpoint) : Type 0 where
  -- the second of issue
  pub issued : ℕ
  pub fits : issued < 2 ^ 64
  pub text : nonce ≡ nonce_of secret issued client

-- the bytes encode a message whose MESSAGE-INTEGRITY is right under the key
abbrev pub AreSigned : List ℕ → List ℕ → Type 0
AreSigned key bytes = (m : Content) → Encodes bytes m → has_right_integrity key (record { bytes = bytes; content = m }) ≡ true

-- the client, the secret and the nonce that is made with it, the user's key, and the request's bytes
pub record Request : Type 0 where
  pub client : Endpoint
  pub secret : List ℕ
  pub nonce : List ℕ
  pub key : List ℕ
  pub bytes : List ℕ
