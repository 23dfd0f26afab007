-- What an attribute that is added at the end leaves of the fronts of a message.
use Rattle.std.proofs.Common.{◌≡◌, ℕ, suc, ◌+◌, ◌-◌, ◌≤◌, true, List, [], ◌∷◌, ◌++◌, length, take, Option, Some, refl, sym, ap, subst, ◌∙◌, append_assoc, arith, bit_xor, sum_by, eq-eqb}
use Rattle.std.specs.Int.{w16, w32, to_be_bytes}
use Rattle.std.proofs.lemmas.List.{take_all, take-append-le}
use Rattle.std.proofs.lemmas.List.Sums.{sum_by-cons}
use Rattle.turn_codec.specs.Prelude.{Attribute, Content, cookie, type_number, size_of, before, from, value_of, FirstHas, canonical_attribute, canonical_attributes, canonical, with_attribute, body_size, message_integrity, fingerprint}
use Rattle.turn_codec.proofs.Building.{one_more}
use Rattle.turn_codec.proofs.Finding.{value_of-some}
use Rattle.sha1.specs.Sha1.{sha1}
use Rattle.turn_mac.specs.Hmac.{hmac}
use Rattle.turn_mac.specs.Crc.{crc}
use Rattle.turn_mac.specs.Integrity.{with_length, front_of, canonical_datagram, integrity_of, IntegrityHolds, fingerprint_of, FingerprintHolds}

-- ---- the first attribute of a type, where there was none before

from-append : (kind : ℕ) (value : List ℕ) (attributes : List Attribute) → from kind attributes ≡ [] → from kind (attributes ++ record { kind = kind; value = value } ∷ []) ≡ record { kind = kind; value = value } ∷ []
from-append kind value [] e = rw (eq-eqb kind kind refl) refl
from-append kind value (a ∷ others) e = grind (arith, from-append kind value others)

before-append : (kind : ℕ) (value : List ℕ) (attributes : List Attribute) → from kind attributes ≡ [] → before kind (attributes ++ record { kind = kind; value = value } ∷ []) ≡ attributes
before-append kind value [] e = rw (eq-eqb kind kind refl) refl
before-append kind value (a ∷ others) e = grind (arith, before-append kind value others)

-- ---- the first attribute of a type, where there was one before

value_of-kept : (kind : ℕ) (value : List ℕ) (attributes more : List Attribute) → value_of kind attributes ≡ Some value → value_of kind (attributes ++ more) ≡ Some value
value_of-kept kind value [] more e = absurd cc
value_of-kept kind value (a ∷ others) more e = grind (arith, value_of-kept kind value others more)

before-kept : (kind : ℕ) (value : List ℕ) (attributes more : List Attribute) → value_of kind attributes ≡ Some value → before kind (attributes ++ more) ≡ before kind attributes
before-kept kind value [] more e = absurd cc
before-kept kind value (a ∷ others) more e = grind (arith, before-kept kind value others more)

before_size : (kind : ℕ) (attributes : List Attribute) → sum_by size_of (before kind attributes) ≤ sum_by size_of attributes
before_size kind [] = omega arith
before_size kind (a ∷ others) = grind (arith, before_size kind others, sum_by-cons size_of a (before kind others), sum_by-cons size_of a others)

-- ---- the fronts of a message with one attribute more

after_cookie : ℕ → ℕ
after_cookie k = suc (suc (suc (suc (suc (suc (suc (suc k)))))))

same_rest : (m : Content) (a : Attribute) (k : ℕ) → after_cookie k ≤ length (canonical m)
    → take k (m.tx ++ canonical_attributes (m.attributes ++ a ∷ [])) ≡ take k (m.tx ++ canonical_attributes m.attributes)
unfolding canonical after_cookie
same_rest m a k fits =
    let body = canonical_attributes m.attributes in
    ap (λ (t : List ℕ). take k (m.tx ++ t)) (one_more m.attributes a)
    ∙ ap (take k) (sym (append_assoc m.tx body (canonical_attribute a)))
    ∙ take-append-le k (m.tx ++ body) (canonical_attribute a) (omega arith)

-- a front with a number in the header's length, computed from the front's size
sized : (ℕ → ℕ) → List ℕ → List ℕ
sized size front = with_length front (size (length front))

same_after_cookie : (size : ℕ → ℕ) (m : Content) (kind : ℕ) (value : List ℕ) (k : ℕ) → after_cookie k ≤ length (canonical m)
    → sized size (take (after_cookie k) (canonical (with_attribute m kind value))) ≡ sized size (take (after_cookie k) (canonical m))
unfolding canonical after_cookie sized
same_after_cookie size m kind value k fits =
    ap (λ (t : List ℕ). take 2 (to_be_bytes w16 (type_number m.class m.method)) ++ to_be_bytes w16 (size (suc (suc (suc (suc (suc (suc (suc (suc (length t)))))))))) ++ to_be_bytes w32 cookie ++ t)
    (same_rest m (record { kind = kind; value = value }) k fits)

same_front : (size : ℕ → ℕ) (m : Content) (kind : ℕ) (value : List ℕ) (offset : ℕ) → 8 ≤ offset → offset ≤ length (canonical m)
    → sized size (take offset (canonical (with_attribute m kind value))) ≡ sized size (take offset (canonical m))
unfolding after_cookie
same_front size m kind value offset long fits =
    let e : after_cookie (offset - 8) ≡ offset = omega arith in
    subst (λ (o : ℕ). sized size (take o (canonical (with_attribute m kind value))) ≡ sized size (take o (canonical m))) e (same_after_cookie size m kind value (offset - 8) (omega arith))

-- before an added attribute, the first of its type, the message is as it was
front_as_it_was : (size : ℕ → ℕ) (m : Content) (kind : ℕ) (value : List ℕ) → length (canonical m) ≡ 20 + body_size m → from kind m.attributes ≡ []
    → sized size (front_of kind (canonical_datagram (with_attribute m kind value))) ≡ sized size (canonical m)
front_as_it_was size m kind value length-is none =
    let offset : 20 + sum_by size_of (before kind (with_attribute m kind value).attributes) ≡ length (canonical m) =
    ap (λ (as' : List Attribute). 20 + sum_by size_of as') (before-append kind value m.attributes none) ∙ sym length-is in
    ap (λ (o : ℕ). sized size (take o (canonical (with_attribute m kind value)))) offset
    ∙ same_front size m kind value (length (canonical m)) (omega arith) (omega arith)
    ∙ ap (sized size) (take_all (length (canonical m)) (canonical m) (omega arith))

-- ---- integrity and fingerprint

some_list : List ℕ → Option (List ℕ)
some_list x = Some x

pub integrity_appended : (key : List ℕ) (m : Content) (v : List ℕ) → length (canonical m) ≡ 20 + body_size m → from message_integrity m.attributes ≡ [] → v ≡ integrity_of key (canonical m)
    → IntegrityHolds key (canonical_datagram (with_attribute m message_integrity v))
unfolding some_list sized
integrity_appended key m v length-is none v-is =
    value_of-some message_integrity (with_attribute m message_integrity v).attributes v true (rw (from-append message_integrity v m.attributes none) (refl, refl))
    ∙ ap some_list (v-is ∙ ap (hmac sha1 key) (sym (front_as_it_was (λ k. k + 4) m message_integrity v length-is none)))

pub integrity_kept : (key : List ℕ) (m : Content) (kind : ℕ) (v : List ℕ) → length (canonical m) ≡ 20 + body_size m → IntegrityHolds key (canonical_datagram m)
    → IntegrityHolds key (canonical_datagram (with_attribute m kind v))
unfolding some_list sized
integrity_kept key m kind v length-is holds =
    let a : Attribute = record { kind = kind; value = v } in
    let value = integrity_of key (front_of message_integrity (canonical_datagram m)) in
    let offset = 20 + sum_by size_of (before message_integrity m.attributes) in
    let fits = before_size message_integrity m.attributes in
    let same = same_front (λ k. k + 4) m kind v offset (omega arith) (omega (arith, fits, length-is)) in
    value_of-kept message_integrity value m.attributes (a ∷ []) holds
    ∙ ap some_list (ap (hmac sha1 key) (sym same)
    ∙ ap (λ (as' : List Attribute). integrity_of key (take (20 + sum_by size_of as') (canonical (with_attribute m kind v)))) (sym (before-kept message_integrity value m.attributes (a ∷ []) holds)))

pub fingerprint_appended : (m : Content) (v : List ℕ) → length (canonical m) ≡ 20 + body_size m → from fingerprint m.attributes ≡ [] → v ≡ fingerprint_of (canonical m)
    → FingerprintHolds (canonical_datagram (with_attribute m fingerprint v))
unfolding sized
fingerprint_appended m v length-is none v-is =
    let a : Attribute = record { kind = fingerprint; value = v } in
    let front = front_of fingerprint (canonical_datagram (with_attribute m fingerprint v)) in
    let value : v ≡ fingerprint_of front = v-is ∙ ap (λ (t : List ℕ). to_be_bytes w32 (bit_xor (crc t) 0x5354554E)) (sym (front_as_it_was (λ k. k - 12) m fingerprint v length-is none)) in
    let here : FirstHas (a ∷ []) (fingerprint_of front) true = (value, refl) in
    subst (λ (as' : List Attribute). FirstHas as' (fingerprint_of front) true) (sym (from-append fingerprint v m.attributes none)) here
