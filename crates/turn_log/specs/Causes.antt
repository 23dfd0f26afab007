-- Why the credentials of a request didn't pass (RFC 8489, section 9.2.4), where they are all there.
use Rattle.std.specs.Prelude.{ℕ, not, ◌&&◌, ◌||◌, ◌==◌, Bool, false, List, [], ◌∷◌, Option, Some, None, is_none, unwrap_or, bytes_eq}
use Rattle.std.specs.Option.{option_map_or}
use Rattle.turn_codec.specs.Prelude.{username, realm, nonce, Datagram, seen_value, is_seen}
use Rattle.turn_cred.specs.Credential.Verdict.{Challenge401}
use Rattle.turn_cred.specs.Prelude.{Keys, Verdict, Bad400, Passed, Stale438, has_expired, has_integrity}
use Rattle.turn_mac.specs.Integrity.{has_right_integrity}
use Rattle.turn_types.specs.Prelude.{first_row}
use Rattle.turn_log.specs.declared.cause.Cause.{Cause}
use Rattle.turn_log.specs.declared.cause.Cause.TheVariants.{Realm, Unknown, Integrity, Expired}

-- a request has credentials: MESSAGE-INTEGRITY, and a name, a realm and a nonce before it
abbrev pub has_credentials : Datagram → Bool
has_credentials d = has_integrity d && (is_seen d.content username && is_seen d.content realm && is_seen d.content nonce)

-- The first that applies: another realm; a name without a key; a MESSAGE-INTEGRITY that isn't right under the key; and else the key
-- has expired.
abbrev pub cause_of : List ℕ → Keys → Datagram → Cause
cause_of its_realm keys d =
    let user = unwrap_or (seen_value d.content username) [] in
    let key = keys user its_realm in
    first_row (
    (not (bytes_eq (unwrap_or (seen_value d.content realm) []) its_realm), Realm) ∷
    (is_none key, Unknown) ∷
    (not (option_map_or (λ k. has_right_integrity k.bytes d) key false), Integrity) ∷ [])
    Expired

-- a request with credentials gets 401 at a moment: it doesn't have the realm, and a right integrity under a key that hasn't expired
abbrev pub gets_401 : ℕ → List ℕ → Keys → Datagram → Bool
gets_401 t its_realm keys d =
    let key = keys (unwrap_or (seen_value d.content username) []) its_realm in
    not (bytes_eq (unwrap_or (seen_value d.content realm) []) its_realm && option_map_or (λ k. has_right_integrity k.bytes d && not (has_expired t k)) key false)

-- The credentials of a request that was answered by an error passed. By 401 and 438 they didn't, nor by a 400 to one with a
-- MESSAGE-INTEGRITY and no name, realm or nonce before it. What is answered by another code has passed.
abbrev pub has_passed : ℕ → Datagram → Bool
has_passed code d = not ((code == 401) || (code == 438)) && (not (code == 400) || has_credentials d)

-- the code by which the credential check refuses a request, if it does
abbrev pub refusal : Verdict → Option ℕ
refusal Challenge401 = Some 401
refusal Bad400 = Some 400
refusal Stale438 = Some 438
refusal (Passed user key) = None
