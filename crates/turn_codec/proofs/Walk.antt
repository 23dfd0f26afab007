-- What the walk over the attributes finds is what the grammar says.
use Rattle.std.proofs.Common.{◌≡◌, ℕ, zero, suc, ◌+◌, ◌-◌, ◌*◌, ◌^◌, ◌<◌, ◌≤◌, Bool, true, false, cond, ltb, eqb, List, [], ◌∷◌, ◌++◌, length, get_or, take, drop, Option, Some, None, refl, sym, ap, subst, ◌∙◌, append_assoc, arith, inl, inr, option_map, option_and_then, unwrap_or, is_some, IsSome, ◌⊎◌, ltb-false, le-ltb, eqb-true}
use Rattle.std.specs.Int.{w16, from_be_bytes, to_be_bytes}
use Rattle.std.proofs.lemmas.List.{take_at, drop_at, take-append-drop, length-append, length-take, length-drop, get_or-drop, get_or-take, get_or_past, nil_from_length}
use Rattle.std.proofs.Math.Seq.{take-add}
use Rattle.std.proofs.lemmas.Option.{option_and_then_some, same_Some}
use Rattle.std.proofs.lemmas.Nat.{be_bytes_2, from_be_bytes-to_be_bytes_2}
use Rattle.turn_codec.specs.Prelude.{Attribute, EncodesAttribute, EncodesAttributes, size_of, padded, value_at, first_attribute, attributes_within, attributes_in, attributes_of}

abbrev pub IsBytes : List ℕ → Type 0
IsBytes bytes = (i : ℕ) → get_or bytes i 0 < 256

pub IsBytes-drop : (n : ℕ) (bytes : List ℕ) → IsBytes bytes → IsBytes (drop n bytes)
IsBytes-drop n bytes h i = rw get_or-drop (h (n + i))

pub IsBytes-take : (n : ℕ) (bytes : List ℕ) → IsBytes bytes → IsBytes (take n bytes)
IsBytes-take n bytes h i = let here = h i in grind (arith, get_or-take, get_or_past, length-take)

pub pairs : (k l m n : ℕ) (rest : List ℕ) → IsBytes (k ∷ l ∷ m ∷ n ∷ rest) → IsBytes (k ∷ l ∷ []) × IsBytes (m ∷ n ∷ [])
pairs k l m n rest h = (IsBytes-take 2 (k ∷ l ∷ m ∷ n ∷ rest) h, IsBytes-take 2 (m ∷ n ∷ rest) (IsBytes-drop 2 (k ∷ l ∷ m ∷ n ∷ rest) h))

pub number_fits : (m n : ℕ) → IsBytes (m ∷ n ∷ []) → from_be_bytes w16 (m ∷ n ∷ []) < 2 ^ 16
number_fits m n h = omega (arith, h 0, h 1)

pub pair_back : (m n : ℕ) → IsBytes (m ∷ n ∷ []) → to_be_bytes w16 (from_be_bytes w16 (m ∷ n ∷ [])) ≡ m ∷ n ∷ []
pair_back m n h = be_bytes_2 (m ∷ n ∷ []) _ refl h refl

pub take_both : (m n : ℕ) (xs : List ℕ) → m ≤ n → take n xs ≡ take m xs ++ take (n - m) (drop m xs)
take_both m n xs h = ap (λ k. take k xs) (let e : n ≡ m + (n - m) = omega arith in e) ∙ take-add m (n - m) xs

-- the attribute at the front, where there is one, has its type, its length, and its value with padding
first_found : (P : List ℕ → Attribute × List ℕ → Type 0)
    → ((k l m n : ℕ) (rest : List ℕ) → (let size = from_be_bytes w16 (m ∷ n ∷ []) in
    padded size ≤ length rest → P (k ∷ l ∷ m ∷ n ∷ rest) (record { kind = from_be_bytes w16 (k ∷ l ∷ []); value = take size rest }, drop (padded size) rest)))
    → (bytes : List ℕ) (x : Attribute × List ℕ) → first_attribute bytes ≡ Some x → P bytes x
unfolding first_attribute
first_found P each [] x e = absurd cc
first_found P each (k ∷ []) x e = absurd cc
first_found P each (k ∷ l ∷ []) x e = absurd cc
first_found P each (k ∷ l ∷ m ∷ []) x e = absurd cc
first_found P each (k ∷ l ∷ m ∷ n ∷ rest) x e = by_test (ltb (length rest) (padded (from_be_bytes w16 (m ∷ n ∷ [])))) (λ h. each k l m n rest (ltb-false _ _ h)) e
  where
    by_test : (t : Bool) {y : Attribute × List ℕ} → (t ≡ false → P (k ∷ l ∷ m ∷ n ∷ rest) y) → cond t None (Some y) ≡ Some x → P (k ∷ l ∷ m ∷ n ∷ rest) x
    by_test true h e = absurd cc
    by_test false {y} h e = subst (P (k ∷ l ∷ m ∷ n ∷ rest)) (same_Some y x e) (h refl)

-- what the walk takes off the front is an attribute
pub record Takes (bytes : List ℕ) (a : Attribute) (rest : List ℕ) : Type 0 where
  pub front : List ℕ
  pub is : bytes ≡ front ++ rest
  pub encodes : EncodesAttribute front a

pub first_sound : (bytes : List ℕ) (x : Attribute × List ℕ) → first_attribute bytes ≡ Some x → IsBytes bytes → Takes bytes x.0 x.1
first_sound = first_found (λ bytes x. IsBytes bytes → Takes bytes x.0 x.1) (λ k l m n rest long fits.
    let size = from_be_bytes w16 (m ∷ n ∷ []) in
    let size-is : length (take size rest) ≡ size = omega (arith, length-take size rest) in
    let two = pairs k l m n rest fits in
    let kind-back = pair_back k l two.0 in
    let size-back = pair_back m n two.1 in
    let both = take_both size (padded size) rest (omega arith) in
    record {
      front = k ∷ l ∷ m ∷ n ∷ take (padded size) rest;
      is = ap (λ (t : List ℕ). k ∷ l ∷ m ∷ n ∷ t) (sym (take-append-drop (padded size) rest));
      encodes = record {
        padding = take (padded size - size) (drop size rest);
        is = cc;
        short = omega (arith, length-take (padded size - size) (drop size rest));
        aligned = omega (arith, length-take (padded size) rest);
        kind_fits = number_fits k l two.0;
        value_fits = omega (arith, size-is, number_fits m n two.1);
      };
    })

pub first_size : (bytes : List ℕ) (x : Attribute × List ℕ) → first_attribute bytes ≡ Some x → length bytes ≡ length x.1 + size_of x.0
first_size = first_found (λ bytes x. length bytes ≡ length x.1 + size_of x.0) (λ k l m n rest long.
    let size = from_be_bytes w16 (m ∷ n ∷ []) in
    omega (arith, length-take size rest, length-drop (padded size) rest))

pub first_complete : (front rest : List ℕ) (a : Attribute) → EncodesAttribute front a → first_attribute (front ++ rest) ≡ Some (a, rest)
unfolding first_attribute
first_complete front rest a s =
    let v = a.value in
    let p = s.padding in
    let bytes = (v ++ p) ++ rest in
    let kind-again : from_be_bytes w16 (to_be_bytes w16 a.kind) ≡ a.kind = from_be_bytes-to_be_bytes_2 a.kind s.kind_fits in
    let size-again : from_be_bytes w16 (to_be_bytes w16 (length v)) ≡ length v = from_be_bytes-to_be_bytes_2 (length v) s.value_fits in
    let front-size : length front ≡ 4 + length v + length p = ap length s.is ∙ omega (arith, length-append v p) in
    let short = s.short in
    let aligned = s.aligned in
    let padded-size : padded (length v) ≡ length v + length p = omega arith in
    let both-size : length (v ++ p) ≡ padded (length v) = omega (arith, length-append v p) in
    let long : ltb (length bytes) (padded (length v)) ≡ false = le-ltb _ _ (omega (arith, length-append (v ++ p) rest, both-size)) in
    let value-is : take (length v) bytes ≡ v = ap (take (length v)) (append_assoc v p rest) ∙ take_at v (p ++ rest) (length v) refl in
    let rest-is : drop (padded (length v)) bytes ≡ rest = drop_at (v ++ p) rest (padded (length v)) both-size in
    let read : value_at a.kind (length v) bytes ≡ Some (a, rest) = rw (long, value-is, rest-is) refl in
    ap (λ (f : List ℕ). first_attribute (f ++ rest)) s.is
    ∙ ap (λ (k : ℕ). value_at k (from_be_bytes w16 (to_be_bytes w16 (length v))) bytes) kind-again
    ∙ ap (λ (k : ℕ). value_at a.kind k bytes) size-again
    ∙ read

pub attribute_size : (front : List ℕ) (a : Attribute) → EncodesAttribute front a → length front ≡ size_of a
attribute_size front a s = let e : length front ≡ 4 + length a.value + length s.padding = ap length s.is ∙ omega (arith, length-append a.value s.padding) in omega (arith, s.short, s.aligned)

-- ---- the whole walk

pub within_complete : (attributes : List Attribute) (n : ℕ) (bytes : List ℕ) → EncodesAttributes bytes attributes → length attributes ≤ n → attributes_within n bytes ≡ Some attributes
unfolding attributes_within
within_complete [] zero bytes s h = rw s refl
within_complete [] (suc n) bytes s h = rw s refl
within_complete (a ∷ others) zero bytes s h = absurd (omega arith)
within_complete (a ∷ others) (suc n) bytes s h =
    let front = s.0 in
    let rest = s.1 in
    let long : 0 < length bytes = omega (arith, ap length s.2, length-append front rest, attribute_size front a s.3) in
    let some-bytes : eqb (length bytes) 0 ≡ false = grind arith in
    let first : first_attribute bytes ≡ Some (a, rest) = ap first_attribute s.2 ∙ first_complete front rest a s.3 in
    let others-is : attributes_within n rest ≡ Some others = within_complete others n rest s.4 (omega arith) in
    rw (some-bytes, first, others-is) refl

ended : {A : Type 0} (b : Bool) (x : A) (y : Option A) (z : A) → cond b (Some x) y ≡ Some z → ((b ≡ true) × (x ≡ z)) ⊎ ((b ≡ false) × (y ≡ Some z))
ended true x y z e = inl (refl, cc)
ended false x y z e = inr (refl, e)

mapped : {A B : Type 0} (f : A → B) (o : Option A) (y : B) → option_map f o ≡ Some y → (x : A) × (o ≡ Some x) × (f x ≡ y)
mapped f None y e = absurd cc
mapped f (Some x) y e = (x, refl, cc)

nothing_encodes : (bytes : List ℕ) (attributes : List Attribute) → eqb (length bytes) 0 ≡ true → [] ≡ attributes → EncodesAttributes bytes attributes
nothing_encodes bytes attributes b e = subst (EncodesAttributes bytes) e (nil_from_length bytes (eqb-true _ _ b))

pub within_sound : (n : ℕ) (bytes : List ℕ) (attributes : List Attribute) → IsBytes bytes → attributes_within n bytes ≡ Some attributes → EncodesAttributes bytes attributes
unfolding attributes_within
within_sound zero bytes attributes fits e =
    elim (ended (eqb (length bytes) 0) [] None attributes e) [
      | inl w ↦ nothing_encodes bytes attributes w.0 w.1
      | inr w ↦ absurd (let h : None ≡ Some attributes = w.1 in cc)
    ]
within_sound (suc n) bytes attributes fits e =
    elim (ended (eqb (length bytes) 0) [] _ attributes e) [
      | inl w ↦ nothing_encodes bytes attributes w.0 w.1
      | inr w ↦ option_and_then_some _ (first_attribute bytes) attributes w.1 (λ x first more.
          let t = first_sound bytes x first fits in
          let m = mapped (λ others. x.0 ∷ others) (attributes_within n x.1) attributes more in
          let rest-fits : IsBytes x.1 = rest_bytes bytes t.front x.1 t.is fits in
          subst (EncodesAttributes bytes) m.2 (t.front, x.1, t.is, t.encodes, within_sound n x.1 m.0 rest-fits m.1))
    ]
  where
    rest_bytes : (bytes front rest : List ℕ) → bytes ≡ front ++ rest → IsBytes bytes → IsBytes rest
    rest_bytes bytes front rest e fits = rw (← drop_at front rest (length front) refl, ← e) (IsBytes-drop (length front) bytes fits)

same_step : (n m : ℕ) (o : Option (Attribute × List ℕ)) → ((x : Attribute × List ℕ) → o ≡ Some x → attributes_within n x.1 ≡ attributes_within m x.1)
    → option_and_then (λ x. option_map (λ others. x.0 ∷ others) (attributes_within n x.1)) o ≡ option_and_then (λ x. option_map (λ others. x.0 ∷ others) (attributes_within m x.1)) o
same_step n m None h = refl
same_step n m (Some x) h = ap (option_map (λ others. x.0 ∷ others)) (h x refl)

pub fuel : (n m : ℕ) (bytes : List ℕ) → length bytes ≤ n → length bytes ≤ m → attributes_within n bytes ≡ attributes_within m bytes
unfolding attributes_within
fuel zero zero bytes h k = refl
fuel zero (suc m) bytes h k = let e : length bytes ≡ 0 = omega arith in rw e refl
fuel (suc n) zero bytes h k = let e : length bytes ≡ 0 = omega arith in rw e refl
fuel (suc n) (suc m) bytes h k =
    ap (cond (eqb (length bytes) 0) (Some [])) (same_step n m (first_attribute bytes) (λ x e.
    let shorter = first_size bytes x e in
    fuel n m x.1 (omega arith) (omega arith)))

-- ---- what the code's loops use

pub in_nil : attributes_in [] ≡ Some []
unfolding attributes_in attributes_within
in_nil = refl

pub in_some : (bytes : List ℕ) (x : Attribute × List ℕ) → first_attribute bytes ≡ Some x → attributes_in bytes ≡ option_map (λ others. x.0 ∷ others) (attributes_in x.1)
unfolding attributes_in attributes_within
in_some bytes x e =
    let shorter = first_size bytes x e in
    let one : attributes_within (length bytes) bytes ≡ attributes_within (suc (length bytes)) bytes = fuel (length bytes) (suc (length bytes)) bytes (omega arith) (omega arith) in
    let some-bytes : eqb (length bytes) 0 ≡ false = grind arith in
    let rest : attributes_within (length bytes) x.1 ≡ attributes_within (length x.1) x.1 = fuel (length bytes) (length x.1) x.1 (omega arith) (omega arith) in
    one ∙ rw (some-bytes, e) (ap (option_map (λ others. x.0 ∷ others)) rest)

pub in_none : (bytes : List ℕ) → first_attribute bytes ≡ None → 0 < length bytes → attributes_in bytes ≡ None
unfolding attributes_in attributes_within
in_none bytes e h =
    let one : attributes_within (length bytes) bytes ≡ attributes_within (suc (length bytes)) bytes = fuel (length bytes) (suc (length bytes)) bytes (omega arith) (omega arith) in
    let some-bytes : eqb (length bytes) 0 ≡ false = grind arith in
    one ∙ rw (some-bytes, e) refl

pub in_sound : (bytes : List ℕ) (attributes : List Attribute) → IsBytes bytes → attributes_in bytes ≡ Some attributes → EncodesAttributes bytes attributes
unfolding attributes_in
in_sound bytes attributes fits e = within_sound (length bytes) bytes attributes fits e

-- an attribute has at least 4 bytes
pub count_le : (attributes : List Attribute) (bytes : List ℕ) → EncodesAttributes bytes attributes → 4 * length attributes ≤ length bytes
count_le [] bytes s = omega arith
count_le (a ∷ others) bytes s = omega (arith, ap length s.2, length-append s.0 s.1, attribute_size s.0 a s.3, count_le others s.1 s.4)

pub in_complete : (bytes : List ℕ) (attributes : List Attribute) → EncodesAttributes bytes attributes → attributes_in bytes ≡ Some attributes
unfolding attributes_in
in_complete bytes attributes s = within_complete attributes (length bytes) bytes s (omega (arith, count_le attributes bytes s))

-- ---- one step of the walk

pub is_some_step : (bytes : List ℕ) (a : Attribute) (rest : List ℕ) → first_attribute bytes ≡ Some (a, rest) → is_some (attributes_in rest) ≡ is_some (attributes_in bytes)
is_some_step bytes a rest e = rw (in_some bytes (a, rest) e) (sym (mapped_same (attributes_in rest)))
  where
    mapped_same : (o : Option (List Attribute)) → is_some (option_map (λ others. a ∷ others) o) ≡ is_some o
    mapped_same None = refl
    mapped_same (Some x) = refl

pub rest_whole : (bytes : List ℕ) (a : Attribute) (rest : List ℕ) → first_attribute bytes ≡ Some (a, rest) → IsSome (attributes_in bytes) → IsSome (attributes_in rest)
rest_whole bytes a rest e h = is_some_step bytes a rest e ∙ h

unwrap_mapped : (a : Attribute) (o : Option (List Attribute)) → IsSome o → unwrap_or (option_map (λ others. a ∷ others) o) [] ≡ a ∷ unwrap_or o []
unwrap_mapped a (Some x) h = refl
unwrap_mapped a None h = absurd cc

pub of_cons : (bytes : List ℕ) (a : Attribute) (rest : List ℕ) → first_attribute bytes ≡ Some (a, rest) → IsSome (attributes_in bytes) → attributes_of bytes ≡ a ∷ attributes_of rest
unfolding attributes_of
of_cons bytes a rest e h = rw (in_some bytes (a, rest) e) (unwrap_mapped a (attributes_in rest) (rest_whole bytes a rest e h))

pub of_end : (bytes : List ℕ) → first_attribute bytes ≡ None → attributes_of bytes ≡ []
unfolding attributes_of
of_end [] e = rw in_nil refl
of_end (b ∷ bytes) e = rw (in_none (b ∷ bytes) e (omega arith)) refl

pub rest_shorter : (bytes : List ℕ) (a : Attribute) (rest : List ℕ) → first_attribute bytes ≡ Some (a, rest) → length rest < length bytes
rest_shorter bytes a rest e = let size = first_size bytes (a, rest) e in omega arith

pub is_some_end : (bytes : List ℕ) → first_attribute bytes ≡ None → 0 < length bytes → is_some (attributes_in bytes) ≡ false
is_some_end bytes e h = rw (in_none bytes e h) refl

pub is_some_nil : (bytes : List ℕ) → length bytes ≡ 0 → is_some (attributes_in bytes) ≡ true
is_some_nil bytes e = rw (nil_from_length bytes e, in_nil) refl

pub ruleset steps = (rest_whole, of_cons, of_end, rest_shorter, is_some_step, is_some_end, is_some_nil)
