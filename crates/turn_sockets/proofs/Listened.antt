-- Lists of addresses, each once, and what is found in them.
use Rattle.std.proofs.Common.{arith, nat_eq, ◌&&◌, ◌||◌, inl, inr, ◌≡◌, ◌≢◌, ℕ, ◌<◌, ◌⊎◌, ⊎_elim, Bool, true, List, [], ◌∷◌, ◌++◌, length, take, get_or, AllPairs, Any, Contains, sym, subst, ◌∙◌, length-take, get_or-take}
use Rattle.std.specs.List.{list_any}
use Rattle.turn_types.specs.declared.address.Endpoint.{Endpoint}
use Rattle.std.proofs.lemmas.Bool.{and_from, and_parts, cases_lt, eq-eqb, eqb-true, or_cases, or_left, or_right}
use Rattle.std.proofs.lemmas.List.{get_or_append_left, get_or_default, get_or_push, length_push}
use Rattle.std.proofs.lemmas.List.Elements.{Contains-get_or}
use Rattle.std.proofs.lemmas.List.Folds.{Any-from_list_any, list_any-from_Any}

module _ {X : Type 0} where
  -- one that isn't there is added
  pub apart_push : (xs : List X) (x : X) → AllPairs (λ a b. a ≢ b) xs → ¬ Contains xs x → AllPairs (λ a b. a ≢ b) (xs ++ x ∷ [])
  apart_push xs x apart new i j d lt within =
      let long = length_push xs x in
      ⊎_elim
      (λ inside. λ same. apart i j d lt inside (sym (get_or_append_left xs (x ∷ []) d i (omega arith)) ∙ same ∙ get_or_append_left xs (x ∷ []) d j inside))
      (λ past. let last : length xs ≡ j = omega arith in let inside : i < length xs = omega arith in
      λ same. new (subst (Contains xs) (sym (get_or_append_left xs (x ∷ []) d i inside) ∙ same ∙ get_or_push xs x d j last) (Contains-get_or xs i d inside)))
      (cases_lt j (length xs))

  -- of elements that are each there once the next one isn't among those before
  pub not_twice : (xs : List X) (i : ℕ) (d : X) → AllPairs (λ a b. a ≢ b) xs → i < length xs → Contains (take i xs) (get_or xs i d) → ⊥
  not_twice xs i d apart lt found =
      let long = length-take i xs in
      let within = found.1 in
      let before : found.0 < i = omega arith in
      apart found.0 i (get_or xs i d) before lt (sym (get_or-take i xs found.0 (get_or xs i d) before) ∙ found.2 ∙ sym (get_or_default xs i (get_or xs i d) d lt))

  -- a test that decides a property finds an element exactly if there is one
  pub any_from_test : (p : X → Bool) (P : X → Type 0) → ((x : X) → p x ≡ true → P x) → (xs : List X) → list_any p xs ≡ true → Any P xs
  any_from_test p P tells xs found = let some = Any-from_list_any p xs found in (some.0, some.1, some.2, some.3, tells some.1 some.4)

  pub test_from_any : (p : X → Bool) (P : X → Type 0) → ((x : X) → P x → p x ≡ true) → (xs : List X) → Any P xs → list_any p xs ≡ true
  test_from_any p P tells xs some = list_any-from_Any p xs (some.0, some.1, some.2, some.3, tells some.1 some.4)

-- two numbers and two others are the same
pub both_same : (a b c d : ℕ) → (nat_eq a b && nat_eq c d) ≡ true → (b ≡ a) × (d ≡ c)
both_same a b c d e = let both = and_parts (nat_eq a b) (nat_eq c d) e in (sym (eqb-true a b both.0), sym (eqb-true c d both.1))

pub test_both : (a b c d : ℕ) → (b ≡ a) × (d ≡ c) → (nat_eq a b && nat_eq c d) ≡ true
test_both a b c d e = and_from (nat_eq a b) (nat_eq c d) (eq-eqb a b (sym e.0)) (eq-eqb c d (sym e.1))

-- the same, where the first of the second two may be 0
pub both_reach : (a b c d : ℕ) → (nat_eq a b && (nat_eq c 0 || nat_eq c d)) ≡ true → (b ≡ a) × ((c ≡ 0) ⊎ (d ≡ c))
both_reach a b c d e =
    let both = and_parts (nat_eq a b) (nat_eq c 0 || nat_eq c d) e in
    (sym (eqb-true a b both.0), ⊎_elim (λ any. inl (eqb-true c 0 any)) (λ same. inr (sym (eqb-true c d same))) (or_cases (nat_eq c 0) (nat_eq c d) both.1))

pub test_reach : (a b c d : ℕ) → (b ≡ a) × ((c ≡ 0) ⊎ (d ≡ c)) → (nat_eq a b && (nat_eq c 0 || nat_eq c d)) ≡ true
test_reach a b c d e =
    and_from (nat_eq a b) (nat_eq c 0 || nat_eq c d) (eq-eqb a b (sym e.0))
    (⊎_elim (λ any. or_left (nat_eq c 0) (nat_eq c d) (eq-eqb c 0 any)) (λ same. or_right (nat_eq c 0) (nat_eq c d) (eq-eqb c d (sym same))) e.1)

-- the test finds an address that is there
pub among : (addresses : List Endpoint) (address : Endpoint) → list_any (λ a. nat_eq a.ip address.ip && nat_eq a.port address.port) addresses ≡ true → Contains addresses address
among addresses address found =
    let some = Any-from_list_any (λ a. nat_eq a.ip address.ip && nat_eq a.port address.port) addresses found in
    let same = both_same some.1.ip address.ip some.1.port address.port some.4 in
    (some.0, some.2, get_or_default addresses some.0 address some.1 some.2 ∙ some.3 ∙ (λ i. record { ip = sym same.0 i; port = sym same.1 i }))
