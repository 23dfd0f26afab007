-- MESSAGE-INTEGRITY and FINGERPRINT (RFC 8489, sections 14.5 and 14.7).
use Rattle.std.specs.Prelude.{◌≡◌, ℕ, ◌+◌, ◌-◌, Bool, true, false, bit_xor, Some, List, ◌++◌, length, take, drop, bytes_eq}
use Rattle.std.specs.Option.{option_map_or}
use Rattle.std.specs.Int.{w16, w32, to_be_bytes}
use Rattle.sha1.specs.Sha1.{sha1}
use Rattle.turn_codec.specs.Prelude.{message_integrity, fingerprint, Content, Datagram, offset_of, value_of, from, FirstHas, canonical}
use Rattle.turn_mac.specs.Hmac.{hmac}
use Rattle.turn_mac.specs.Crc.{crc}

-- the front of a message, with this number in the header's length
abbrev pub with_length : List ℕ → ℕ → List ℕ
with_length front size = take 2 front ++ to_be_bytes w16 size ++ drop 4 front

-- the bytes of a datagram before the first attribute of a type
abbrev pub front_of : ℕ → Datagram → List ℕ
front_of kind d = take (offset_of kind d.content.attributes) d.bytes

-- the MESSAGE-INTEGRITY after such bytes: 20 bytes, and the header's length counts up to their end
abbrev pub integrity_of : List ℕ → List ℕ → List ℕ
integrity_of key front = hmac sha1 key (with_length front (length front + 4))

-- The first MESSAGE-INTEGRITY is the HMAC-SHA1, under the key, of the o bytes before it, with o + 4 in the header's length
-- (RFC 8489, section 14.5). So it has 20 bytes.
abbrev pub IntegrityHolds : List ℕ → Datagram → Type 0
IntegrityHolds key d = value_of message_integrity d.content.attributes ≡ Some (integrity_of key (front_of message_integrity d))

-- the same as `IntegrityHolds`, as a test: the law `integrity_is_decided`
abbrev pub has_right_integrity : List ℕ → Datagram → Bool
has_right_integrity key d =
    option_map_or (λ v. bytes_eq v (integrity_of key (front_of message_integrity d))) (value_of message_integrity d.content.attributes) false

-- the FINGERPRINT after such bytes: 4 bytes, and the header's length counts up to their end
abbrev pub fingerprint_of : List ℕ → List ℕ
fingerprint_of front = to_be_bytes w32 (bit_xor (crc (with_length front (length front - 12))) 0x5354554E)

-- The first FINGERPRINT is the last attribute, and the CRC-32 of the o bytes before it, with o - 12 in the header's length,
-- exclusive or 0x5354554E (RFC 8489, section 14.7). So it has 4 bytes.
abbrev pub FingerprintHolds : Datagram → Type 0
FingerprintHolds d = FirstHas (from fingerprint d.content.attributes) (fingerprint_of (front_of fingerprint d)) true

-- a message that is written, with its canonical encoding
abbrev pub canonical_datagram : Content → Datagram
canonical_datagram m = record { bytes = canonical m; content = m }
