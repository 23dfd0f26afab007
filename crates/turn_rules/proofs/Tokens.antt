-- A token is of its port.
use Rattle.std.proofs.Common.{◌≡◌, ℕ, zero, suc, ◌+◌, ◌^◌, ◌%◌, ◌<◌, arith, List, length, length-append, length-take-le, take, ap, ◌∙◌, All}
use Rattle.std.specs.Int.{w16, to_be_bytes, byte_at, bytes_high_first}
use Rattle.std.proofs.Math.Seq.{take-append_seam}
use Rattle.std.proofs.lemmas.List.Elements.{All-nil, All-cons, All-append, All-take}
use Rattle.sha2.specs.Sha256.{digest_bytes, sha256}
use Rattle.sha2.proofs.Facts256.{length-sha256}
use Rattle.turn_history.specs.Prelude.{IsTokenOf, FiveTuple}
use Rattle.turn_mac.specs.Hmac.{hmac}
use Rattle.turn_rules.specs.Prelude.{token_for, token_input}

abbrev AreBytes : List ℕ → Type 0
AreBytes xs = All (λ x. x < 256) xs

byte_is_small : (k n : ℕ) → byte_at k n < 256
byte_is_small zero n = omega arith
byte_is_small (suc k) n = omega arith

bytes_are_small : (k n : ℕ) → AreBytes (bytes_high_first k n)
bytes_are_small zero n = All-nil (λ x. x < 256)
bytes_are_small (suc k) n = All-cons (λ x. x < 256) (byte_at k n) (bytes_high_first k n) (byte_is_small k n) (bytes_are_small k n)

digest_is_bytes : (h : List ℕ) (n : ℕ) → AreBytes (digest_bytes h n)
unfolding digest_bytes
digest_is_bytes h zero = All-nil (λ x. x < 256)
digest_is_bytes h (suc n) = All-append (λ x. x < 256) (digest_bytes h n) _ (digest_is_bytes h n) (bytes_are_small 4 _)

hmac_size : (key text : List ℕ) → length (hmac sha256 key text) ≡ 32
unfolding hmac
hmac_size key text = length-sha256 _

hmac_is_bytes : (key text : List ℕ) → AreBytes (hmac sha256 key text)
unfolding hmac sha256
hmac_is_bytes key text = digest_is_bytes _ 8

pub token_is_of : (secret : List ℕ) (t : ℕ) (f : FiveTuple) (tx : List ℕ) (port : ℕ) → port < 2 ^ 16 → IsTokenOf port (token_for secret t f tx port)
unfolding token_for
token_is_of secret t f tx port is_port =
    let digest = hmac sha256 secret (token_input t f tx) in
    let front : List ℕ = to_be_bytes w16 (port % 2 ^ 16) in
    let size : length (take 6 digest) ≡ 6 = length-take-le 6 digest (omega (arith, hmac_size secret (token_input t f tx))) in
    record {
      size = length-append front (take 6 digest) ∙ ap (λ n. 2 + n) size;
      bytes = All-append (λ x. x < 256) front (take 6 digest) (bytes_are_small 2 (port % 2 ^ 16)) (All-take (λ x. x < 256) 6 digest (hmac_is_bytes secret (token_input t f tx)));
      begins = take-append_seam front (take 6 digest) ∙ ap (to_be_bytes w16) small_mod;
    }
  where
    small_mod : port % 2 ^ 16 ≡ port
    small_mod = omega (arith, is_port)
