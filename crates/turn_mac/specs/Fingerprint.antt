-- FINGERPRINT as a test (RFC 8489, section 14.7).
use Rattle.std.specs.Prelude.{◌==◌, ◌&&◌, ℕ, Bool, false, not, is_some, List, [], ◌∷◌, length, bytes_eq}
use Rattle.turn_codec.specs.Prelude.{fingerprint, Attribute, Content, Datagram, from, value_of}
use Rattle.turn_mac.specs.Integrity.{fingerprint_of, front_of}

-- a message has a FINGERPRINT
unfoldable pub has_fingerprint : Content → Bool
has_fingerprint m = is_some (value_of fingerprint m.attributes)

-- the first of these attributes has this value and is the last one
abbrev pub is_last_with : List Attribute → List ℕ → Bool
is_last_with [] value = false
is_last_with (a ∷ others) value = bytes_eq a.value value && (length others == 0)

-- the first FINGERPRINT is the last attribute and has the value that its place asks for
unfoldable pub is_fingerprint_right : Datagram → Bool
is_fingerprint_right d = is_last_with (from fingerprint d.content.attributes) (fingerprint_of (front_of fingerprint d))

-- a datagram whose FINGERPRINT is wrong
unfoldable pub has_wrong_fingerprint : Datagram → Bool
has_wrong_fingerprint d = has_fingerprint d.content && not (is_fingerprint_right d)
