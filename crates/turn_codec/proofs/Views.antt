-- From the bytes of a message to what its contracts say.
use Rattle.std.proofs.Common.{◌≡◌, ℕ, ◌+◌, ◌-◌, ◌^◌, ◌<◌, ◌≤◌, Bool, List, [], ◌∷◌, length, take, drop, Option, Some, refl, sym, ap, subst, ◌∙◌, arith, sum_by, drop_at, take_all, length-drop}
use Rattle.turn_codec.specs.Prelude.{Attribute, Content, Datagram, Encodes, EncodesAttributes, size_of, before, from, offset_of, FirstHas, attributes_in, attributes_of, content_of, datagram_of, IsDatagram}
use Rattle.turn_codec.proofs.Walk.{count_le, in_complete}
use Rattle.turn_codec.proofs.Finding.{before_encoded, before_all}

-- the end of a slice, as the code takes it
pub body_is : (bytes : List ℕ) → take (length bytes - 20) (drop 20 bytes) ≡ drop 20 bytes
body_is bytes = take_all (length bytes - 20) (drop 20 bytes) (omega (arith, length-drop 20 bytes))

pub body_encoded : (bytes : List ℕ) (m : Content) → Encodes bytes m → EncodesAttributes (drop 20 bytes) m.attributes
body_encoded bytes m s = subst (λ (b : List ℕ). EncodesAttributes b m.attributes) (sym (ap (drop 20) s.is ∙ drop_at m.tx s.body 12 s.tx_size)) s.attributes

pub encodes_view : (bytes : List ℕ) (d : Datagram) → datagram_of bytes ≡ d → IsDatagram bytes → Encodes d.bytes d.content
unfolding datagram_of
encodes_view bytes d e h = subst (λ (x : Datagram). Encodes x.bytes x.content) e h.encodes

-- a message has fewer than 2^14 attributes
pub few_view : (bytes : List ℕ) (d : Datagram) → datagram_of bytes ≡ d → IsDatagram bytes → length d.content.attributes < 2 ^ 14
unfolding datagram_of
few_view bytes d e h =
    let m = content_of bytes in
    let body-size : length (drop 20 bytes) ≡ length h.encodes.body = ap length (ap (drop 20) h.encodes.is ∙ drop_at m.tx h.encodes.body 12 h.encodes.tx_size) in
    let fits = h.encodes.size_fits in
    let count = count_le m.attributes (drop 20 bytes) (body_encoded bytes m h.encodes) in
    let small : length m.attributes < 2 ^ 14 = omega arith in
    subst (λ (x : Datagram). length x.content.attributes < 2 ^ 14) e small

pub attributes_view : (bytes : List ℕ) (d : Datagram) → datagram_of bytes ≡ d → attributes_of (take (length bytes - 20) (drop 20 bytes)) ≡ d.content.attributes
unfolding datagram_of content_of
attributes_view bytes d e = ap attributes_of (body_is bytes) ∙ ap (λ (x : Datagram). x.content.attributes) e

pub before_le : (kind : ℕ) (attributes : List Attribute) → length (before kind attributes) ≤ length attributes
before_le kind [] = omega arith
before_le kind (a ∷ others) = grind (arith, before_le kind others)

pub record IsLocated (d : Datagram) (kind size : ℕ) (value : List ℕ) (is_last : Bool) : Type 0 where
  pub front : take (20 + size) d.bytes ≡ take (offset_of kind d.content.attributes) d.bytes
  pub within : offset_of kind d.content.attributes + 4 + length value ≤ length d.bytes
  pub there : FirstHas (from kind d.content.attributes) value is_last

pub located_view : (bytes : List ℕ) (d : Datagram) (kind size : ℕ) (value : List ℕ) (is_last : Bool) → datagram_of bytes ≡ d → 20 ≤ length bytes
    → (let body = take (length bytes - 20) (drop 20 bytes) in (size ≡ sum_by size_of (before kind (attributes_of body))) × (size + 4 + length value ≤ length body) × FirstHas (from kind (attributes_of body)) value is_last)
    → IsLocated d kind size value is_last
unfolding datagram_of content_of
located_view bytes d kind size value is_last e long found =
    let again = subst (λ (body : List ℕ). (size ≡ sum_by size_of (before kind (attributes_of body))) × (size + 4 + length value ≤ length body) × FirstHas (from kind (attributes_of body)) value is_last) (body_is bytes) found in
    let size-is = again.0 in
    let size-le = again.1 in
    let done : IsLocated (datagram_of bytes) kind size value is_last = record {
      front = ap (λ (k : ℕ). take (20 + k) bytes) size-is;
      within = omega (arith, length-drop 20 bytes);
      there = again.2;
    } in
    subst (λ (x : Datagram). IsLocated x kind size value is_last) e done

pub seen_in : (bytes : List ℕ) (kind : ℕ) → IsDatagram bytes → attributes_in (take (sum_by size_of (before kind (attributes_of (drop 20 bytes)))) (drop 20 bytes)) ≡ Some (before kind (attributes_of (drop 20 bytes)))
unfolding content_of
seen_in bytes kind h = in_complete _ _ (before_encoded kind (attributes_of (drop 20 bytes)) (drop 20 bytes) (body_encoded bytes (content_of bytes) h.encodes))

pub seen_view : (bytes : List ℕ) (d : Datagram) (kind size : ℕ) → datagram_of bytes ≡ d → IsDatagram bytes
    → (let body = take (length bytes - 20) (drop 20 bytes) in (size ≡ sum_by size_of (before kind (attributes_of body))) →
    attributes_in (take size body) ≡ Some (before kind d.content.attributes))
unfolding datagram_of content_of
seen_view bytes d kind size e h size-is =
    ap attributes_in (ap (λ (k : ℕ). take k (take (length bytes - 20) (drop 20 bytes))) size-is
    ∙ ap (λ (body : List ℕ). take (sum_by size_of (before kind (attributes_of body))) body) (body_is bytes))
    ∙ seen_in bytes kind h
    ∙ ap (λ (x : Datagram). let o : Option (List Attribute) = Some (before kind x.content.attributes) in o) e

pub attributes_of-in : (bytes : List ℕ) (x : List Attribute) → attributes_in bytes ≡ Some x → attributes_of bytes ≡ x
unfolding attributes_of
attributes_of-in bytes x e = rw e refl

pub unseen_view : (bytes : List ℕ) (d : Datagram) (kind : ℕ) → datagram_of bytes ≡ d
    → (let body = take (length bytes - 20) (drop 20 bytes) in from kind (attributes_of body) ≡ [] → attributes_of body ≡ before kind d.content.attributes)
unfolding datagram_of content_of
unseen_view bytes d kind e none =
    ap attributes_of (body_is bytes)
    ∙ sym (before_all kind (attributes_of (drop 20 bytes)) (ap (λ (b : List ℕ). from kind (attributes_of b)) (sym (body_is bytes)) ∙ none))
    ∙ ap (λ (x : Datagram). before kind x.content.attributes) e

pub none_view : (bytes : List ℕ) (d : Datagram) (kind : ℕ) → datagram_of bytes ≡ d
    → (let body = take (length bytes - 20) (drop 20 bytes) in from kind (attributes_of body) ≡ [] → from kind d.content.attributes ≡ [])
unfolding datagram_of content_of
none_view bytes d kind e none =
    sym (ap (λ (x : Datagram). from kind x.content.attributes) e) ∙ ap (λ (b : List ℕ). from kind (attributes_of b)) (sym (body_is bytes)) ∙ none
