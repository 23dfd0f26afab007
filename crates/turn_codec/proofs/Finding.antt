-- Looking for the first attribute of a type.
use Rattle.std.proofs.Common.{◌≡◌, ◌≢◌, ℕ, suc, ◌+◌, ◌-◌, ◌≤◌, Bool, false, eqb, List, [], ◌∷◌, ◌++◌, length, take, Option, Some, None, refl, sym, ap, subst, ◌∙◌, arith, inl, inr, IsSome, sum_by, eq-eqb, ne_eqb}
use Rattle.std.proofs.lemmas.Bool.Decides.{eqb_tells}
use Rattle.std.proofs.lemmas.List.Sums.{sum_by-cons}
use Rattle.std.proofs.Math.Seq.{take-append-add}
use Rattle.turn_codec.specs.Prelude.{Attribute, EncodesAttributes, size_of, before, from, value_of, FirstHas, first_attribute, attributes_in, attributes_of}
use Rattle.turn_codec.proofs.Walk.{attribute_size, first_size, is_some_end, of_cons, of_end, rest_whole}

-- where there is no attribute of a type, there is none after one of another type is added
pub none_added : (kind other : ℕ) (value : List ℕ) (attributes : List Attribute) → other ≢ kind → from kind attributes ≡ []
    → from kind (attributes ++ record { kind = other; value = value } ∷ []) ≡ []
none_added kind other value [] h none = rw (ne_eqb other kind h) refl
none_added kind other value (a ∷ others) h none = grind (arith, none_added kind other value others)

-- what is left from some place on, where no attribute of the type is before it
pub record Looks (kind : ℕ) (body rest : List ℕ) : Type 0 where
  pub whole : IsSome (attributes_in rest)
  pub shorter : length rest ≤ length body
  pub from_same : from kind (attributes_of rest) ≡ from kind (attributes_of body)
  pub sizes : length body - length rest + sum_by size_of (before kind (attributes_of rest)) ≡ sum_by size_of (before kind (attributes_of body))

pub looks_more : (kind : ℕ) (body rest after : List ℕ) (a : Attribute) → Looks kind body rest → first_attribute rest ≡ Some (a, after) → a.kind ≢ kind → Looks kind body after
looks_more kind body rest after a l e h =
    let cons = of_cons rest a after e l.whole in
    let size = first_size rest (a, after) e in
    let sizes = l.sizes in
    let shorter = l.shorter in
    let step : sum_by size_of (before kind (attributes_of rest)) ≡ size_of a + sum_by size_of (before kind (attributes_of after)) =
    rw (cons, ne_eqb a.kind kind h) (sum_by-cons size_of a (before kind (attributes_of after))) in
    let from-rest : from kind (attributes_of rest) ≡ from kind (attributes_of after) = rw (cons, ne_eqb a.kind kind h) refl in
    record {
      whole = rest_whole rest a after e l.whole;
      shorter = omega arith;
      from_same = sym from-rest ∙ l.from_same;
      sizes = omega arith;
    }

suc_no : (n : ℕ) → false ≡ eqb (suc n) 0
suc_no n = grind arith

nothing : first_attribute [] ≡ None
unfolding first_attribute
nothing = refl

ended_both : (bytes : List ℕ) → IsSome (attributes_in bytes) → eqb (length bytes) 0 ≡ eqb (length (attributes_of bytes)) 0
ended_both [] h = rw (of_end [] nothing) refl
ended_both (b ∷ bytes) h = sym (suc_no (length bytes)) ∙ by_first (first_attribute (b ∷ bytes)) refl
  where
    by_first : (o : Option (Attribute × List ℕ)) → first_attribute (b ∷ bytes) ≡ o → false ≡ eqb (length (attributes_of (b ∷ bytes))) 0
    by_first None e = absurd (let none = is_some_end (b ∷ bytes) e (omega arith) in cc)
    by_first (Some x) e = suc_no (length (attributes_of x.1)) ∙ sym (ap (λ (as' : List Attribute). eqb (length as') 0) (of_cons (b ∷ bytes) x.0 x.1 e h))

pub looks_here : (kind : ℕ) (body rest after : List ℕ) (a : Attribute) → Looks kind body rest → first_attribute rest ≡ Some (a, after) → a.kind ≡ kind
    → (length body - length rest ≡ sum_by size_of (before kind (attributes_of body))) × (length body - length rest + 4 + length a.value ≤ length body) × FirstHas (from kind (attributes_of body)) a.value (eqb (length after) 0)
looks_here kind body rest after a l e h =
    let cons = of_cons rest a after e l.whole in
    let none : sum_by size_of (before kind (attributes_of rest)) ≡ 0 = rw (cons, eq-eqb a.kind kind h) refl in
    let sizes = l.sizes in
    let from-rest : from kind (attributes_of rest) ≡ a ∷ attributes_of after = rw (cons, eq-eqb a.kind kind h) refl in
    let here = sym from-rest ∙ l.from_same in
    let at : FirstHas (a ∷ attributes_of after) a.value (eqb (length after) 0) = (refl, ended_both after (rest_whole rest a after e l.whole)) in
    (omega arith, omega (arith, first_size rest (a, after) e, l.shorter), subst (λ (as' : List Attribute). FirstHas as' a.value (eqb (length after) 0)) here at)

pub looks_none : (kind : ℕ) (body rest : List ℕ) → Looks kind body rest → first_attribute rest ≡ None → from kind (attributes_of body) ≡ []
looks_none kind body rest l e = sym l.from_same ∙ ap (from kind) (of_end rest e)

-- ---- the value that is found, and the attributes before it

pub value_of-none : (kind : ℕ) (attributes : List Attribute) → from kind attributes ≡ [] → value_of kind attributes ≡ None
value_of-none kind [] e = refl
value_of-none kind (a ∷ others) e = grind (arith, value_of-none kind others)

pub value_of-some : (kind : ℕ) (attributes : List Attribute) (value : List ℕ) (is_last : Bool) → FirstHas (from kind attributes) value is_last → value_of kind attributes ≡ Some value
value_of-some kind [] value is_last s = absurd s
value_of-some kind (a ∷ others) value is_last s = grind (arith, value_of-some kind others value is_last)

pub before_all : (kind : ℕ) (attributes : List Attribute) → from kind attributes ≡ [] → before kind attributes ≡ attributes
before_all kind [] e = refl
before_all kind (a ∷ others) e = grind (arith, before_all kind others)

pub before_encoded : (kind : ℕ) (attributes : List Attribute) (bytes : List ℕ) → EncodesAttributes bytes attributes → EncodesAttributes (take (sum_by size_of (before kind attributes)) bytes) (before kind attributes)
before_encoded kind [] bytes s = refl
before_encoded kind (a ∷ others) bytes s =
    elim (eqb_tells a.kind kind) [
      | inl h ↦ rw h.0 refl
      | inr h ↦ rw h.0 (
        s.0,
        take (sum_by size_of (before kind others)) s.1,
        ap (take (sum_by size_of (a ∷ before kind others))) s.2
            ∙ ap (λ (k : ℕ). take k (s.0 ++ s.1)) (sum_by-cons size_of a (before kind others) ∙ ap (λ (k : ℕ). k + sum_by size_of (before kind others)) (sym (attribute_size s.0 a s.3)))
            ∙ take-append-add s.0 s.1 (sum_by size_of (before kind others)),
        s.3,
        before_encoded kind others s.1 s.4,
      )
    ]

pub ruleset values = (value_of-none, value_of-some)
