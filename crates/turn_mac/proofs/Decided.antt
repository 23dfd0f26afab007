-- The tests of MESSAGE-INTEGRITY and FINGERPRINT as Booleans are the facts.
use Rattle.std.proofs.Common.{◌≡◌, ℕ, Bool, true, false, List, [], ◌∷◌, Option, Some, None, sym, ap, Decides, IsTrue, ◌↔◌, bytes_eq}
use Rattle.std.specs.Option.{option_map_or}
use Rattle.std.proofs.lemmas.Bool.Decides.{Decides-and, same_from_decides}
use Rattle.std.proofs.lemmas.Slice.Eq.{bytes_eq-Decides}
use Rattle.turn_codec.specs.Prelude.{fingerprint, message_integrity, Attribute, Datagram, FirstHas, from, value_of}
use Rattle.turn_mac.specs.Integrity.{IntegrityHolds, has_right_integrity, integrity_of, FingerprintHolds, fingerprint_of, front_of}
use Rattle.turn_mac.specs.Fingerprint.{is_last_with, is_fingerprint_right}

is_last_with-Decides : (attributes : List Attribute) (value : List ℕ) → Decides (is_last_with attributes value) (FirstHas attributes value true)
is_last_with-Decides [] value = (λ e. absurd cc, λ h. absurd h)
is_last_with-Decides (a ∷ others) value = Decides-and _ _ (bytes_eq-Decides a.value value) (λ e. sym e, λ e. sym e)

pub fingerprint_Decides : (d : Datagram) → Decides (is_fingerprint_right d) (FingerprintHolds d)
unfolding is_fingerprint_right
fingerprint_Decides d = is_last_with-Decides (from fingerprint d.content.attributes) (fingerprint_of (front_of fingerprint d))

pub fingerprint_when : (d : Datagram) (result : Bool) → IsTrue result ↔ FingerprintHolds d → result ≡ is_fingerprint_right d
fingerprint_when d result h = same_from_decides result (is_fingerprint_right d) (h.0, h.1) (fingerprint_Decides d)

pub integrity_Decides : (key : List ℕ) (d : Datagram) → Decides (has_right_integrity key d) (IntegrityHolds key d)
integrity_Decides key d = by_value (value_of message_integrity d.content.attributes)
  where
    right : List ℕ
    right = integrity_of key (front_of message_integrity d)

    by_value : (o : Option (List ℕ)) → Decides (option_map_or (λ v. bytes_eq v right) o false) (o ≡ Some right)
    by_value None = (λ e. absurd cc, λ e. absurd cc)
    by_value (Some v) = (λ e. ap (λ x. Some x) ((bytes_eq-Decides v right).0 e), λ e. (bytes_eq-Decides v right).1 (cc))

pub integrity_when : (key : List ℕ) (d : Datagram) (result : Bool) → IsTrue result ↔ IntegrityHolds key d → result ≡ has_right_integrity key d
integrity_when key d result h = same_from_decides result (has_right_integrity key d) (h.0, h.1) (integrity_Decides key d)
