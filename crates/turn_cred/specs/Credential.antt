-- Long-term credentials (RFC 8489, section 9.2.4, in this project's profile).
use Rattle.std.specs.Prelude.{ℕ, ◌==◌, nat_le, nat_lt, not, ◌&&◌, Bool, false, List, [], ◌∷◌, length, Option, None, is_some, is_none, unwrap_or, if◌then◌else◌, bytes_eq}
use Rattle.std.specs.Option.{option_map_or}
use Rattle.turn_types.specs.declared.address.Endpoint.{Endpoint}
use Rattle.turn_types.specs.Prelude.{Config, first_row}
use Rattle.turn_codec.specs.Prelude.{username, message_integrity, realm, nonce, Datagram, value_of, seen_value, is_seen}
use Rattle.turn_mac.specs.Integrity.{has_right_integrity}
use Rattle.turn_cred.specs.Nonce.{is_fresh}
use Rattle.turn_cred.specs.declared.key.Key.{Key}

-- what credentials are checked by: the realm, the secret of the nonces, and how long a user's name may be
pub record Policy : Type 0 where
  pub realm : List ℕ
  -- the 32 bytes that nonces are made with
  pub secret : List ℕ
  -- how many bytes a user's name has at most
  pub name_bytes : ℕ

-- the policy of a configuration
abbrev pub policy_of : Config → Policy
policy_of c = record { realm = c.realm; secret = c.secret; name_bytes = c.limits.name_bytes }

-- the key where there is none, which counts nowhere
abbrev pub no_key : Key
no_key = record { bytes = []; expiry = None }

-- a key by user name and realm, where there is one: what an `AuthHandler` answers
abbrev pub Keys : Type 0
Keys = List ℕ → List ℕ → Option Key

-- from its expiry time on a key makes no new allocation
abbrev pub has_expired : ℕ → Key → Bool
has_expired t key = option_map_or (λ expiry. nat_le expiry t) key.expiry false

-- the outcome of the credential check of a request (RFC 8489, section 9.2.4): 401, 400 or 438, or the credentials hold
pub data Verdict : Type 0 where
  Challenge401 : Verdict
  Bad400 : Verdict
  Stale438 : Verdict
  -- the user whose credentials hold, and the key
  Passed : (user : List ℕ) (key : Key) → Verdict

-- a message has a MESSAGE-INTEGRITY
abbrev pub has_integrity : Datagram → Bool
has_integrity d = is_some (value_of message_integrity d.content.attributes)

-- the realm is the policy's, and the name isn't empty and not longer than the limit
abbrev pub may_be_known : Policy → List ℕ → List ℕ → Bool
may_be_known p user its_realm = bytes_eq its_realm p.realm && not (length user == 0) && not (nat_lt p.name_bytes (length user))

-- the key of a user name in a realm: none where the realm isn't the policy's, the name is empty or longer than the limit, or
-- the user isn't known
unfoldable pub user_key : Policy → Keys → List ℕ → List ℕ → Option Key
user_key p keys user its_realm = if may_be_known p user its_realm then keys user p.realm else None

-- The outcome of the credential check of a request, the first that applies (RFC 8489, section 9.2.4): no MESSAGE-INTEGRITY,
-- 401; USERNAME, REALM or NONCE not seen, 400; no known user of the realm, 401; a MESSAGE-INTEGRITY that isn't right under
-- the key, 401; a nonce that doesn't hold for the client, 438; else the credentials hold.
unfoldable pub verdict : Policy → Keys → Datagram → Endpoint → ℕ → Verdict
verdict p keys d client t =
    let user = unwrap_or (seen_value d.content username) [] in
    let key = user_key p keys user (unwrap_or (seen_value d.content realm) []) in
    first_row (
    (not (has_integrity d), Challenge401) ∷
    (not (is_seen d.content username && is_seen d.content realm && is_seen d.content nonce), Bad400) ∷
    (is_none key, Challenge401) ∷
    (not (option_map_or (λ k. has_right_integrity k.bytes d) key false), Challenge401) ∷
    (not (is_fresh p.secret (unwrap_or (seen_value d.content nonce) []) client t), Stale438) ∷ [])
    (Passed user (unwrap_or key no_key))
