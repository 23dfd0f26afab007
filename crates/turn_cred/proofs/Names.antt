-- Which names have an expiry time: what the definition reads, digit by digit.
use Rattle.std.proofs.Common.{◌≡◌, ◌≢◌, ℕ, ◌+◌, ◌-◌, ◌*◌, ◌≤◌, ◌<◌, ◌&&◌, List, [], ◌∷◌, ◌++◌, get_or, Option, Some, None, refl, sym, ap, ◌∙◌, subst, arith, inl, inr, ◌==◌, nat_le, nat_lt, if◌then◌else◌, option_map}
use Rattle.std.specs.Char.{digit_value}
use Rattle.std.specs.Str.Parse.{AllDigits, IsNumeral, digits_value, digits_value_after}
use Rattle.std.proofs.lemmas.Bool.Decides.{eqb_tells, nat_tests}
use Rattle.std.proofs.lemmas.Option.{same_Some}
use Rattle.std.proofs.lemmas.Str.{digit_value_digit}
use Rattle.std.proofs.lemmas.Str.Parse.{digit_from_value}
use Rattle.turn_cred.specs.Prelude.{HasExpiry, IsSharedKey, colon_and, as_moment, expiring_key, expiry_of, moment_from, shared_key}
use Rattle.turn_cred.specs.declared.key.Key.{Key}
use Rattle.turn_types.specs.Prelude.{end_of_moments}

-- ---- Tests

digit_test : (b n e : ℕ) (o : Option ℕ) → (if nat_le 48 b && nat_le b 57 && nat_lt n 1099511624176 then o else None) ≡ Some e → (48 ≤ b) × (b ≤ 57) × (o ≡ Some e)
digit_test b n e o h = (grind (arith, nat_tests), grind (arith, nat_tests), grind (arith, nat_tests))

is_digit_test : (b n : ℕ) (ends o : Option ℕ) → 48 ≤ b → b ≤ 57 → n < 1099511624176
    → (if b == 58 then ends else if nat_le 48 b && nat_le b 57 && nat_lt n 1099511624176 then o else None) ≡ o
is_digit_test b n ends o low high small = grind (arith, nat_tests)

first_test : (b e : ℕ) (o : Option ℕ) → (if nat_le 49 b && nat_le b 57 then o else None) ≡ Some e → (49 ≤ b) × (b ≤ 57) × (o ≡ Some e)
first_test b e o h = (grind (arith, nat_tests), grind (arith, nat_tests), grind (arith, nat_tests))

is_first_test : (b : ℕ) (o : Option ℕ) → 49 ≤ b → b ≤ 57 → (if nat_le 49 b && nat_le b 57 then o else None) ≡ o
is_first_test b o low high = grind (arith, nat_tests)

-- ---- Digits

digit : (b : ℕ) → 48 ≤ b → b ≤ 57 → digit_value b ≡ b - 48
digit b low high = let is = digit_value_digit b (low, high) in omega (arith, is)

is_digit : (b : ℕ) → 48 ≤ b → b ≤ 57 → digit_value b < 10
is_digit b low high = let is = digit_value_digit b (low, high) in omega (arith, is)

-- digits never make a number smaller
grows : (n : ℕ) (digits : List ℕ) → n ≤ digits_value_after 10 n digits
grows n [] = omega arith
grows n (b ∷ bs) = let more = grows (n * 10 + digit_value b) bs in omega (arith, more)

-- ---- From a number on

-- the digits up to a colon or the end go on with a number
record Reads (n : ℕ) (bytes : List ℕ) (e : ℕ) : Type 0 where
  digits : List ℕ
  rest : Option (List ℕ)
  encoded : bytes ≡ digits ++ colon_and rest
  all : AllDigits 10 digits
  value : e ≡ digits_value_after 10 n digits
  below : e < end_of_moments

moment_is : (n e : ℕ) → as_moment n ≡ Some e → (e ≡ n) × (n < 1099511624176)
moment_is n e h = (grind (arith, nat_tests), grind (arith, nat_tests))

ends : (n : ℕ) (rest : Option (List ℕ)) (e : ℕ) → as_moment n ≡ Some e → Reads n (colon_and rest) e
ends n rest e h =
    let is = moment_is n e h in
    record { digits = []; rest = rest; encoded = refl; all = tt; value = is.0; below = subst (λ k. k < end_of_moments) (sym is.0) is.1 }

more : (n b : ℕ) (bs : List ℕ) (e : ℕ) → 48 ≤ b → b ≤ 57 → Reads (n * 10 + (b - 48)) bs e → Reads n (b ∷ bs) e
more n b bs e low high is = record {
  digits = b ∷ is.digits;
  rest = is.rest;
  encoded = ap (λ xs. b ∷ xs) is.encoded;
  all = (is_digit b low high, is.all);
  value = is.value ∙ ap (λ k. digits_value_after 10 (n * 10 + k) is.digits) (sym (digit b low high));
  below = is.below;
}

reads : (n : ℕ) (bytes : List ℕ) (e : ℕ) → moment_from n bytes ≡ Some e → Reads n bytes e
unfolding moment_from
reads n [] e h = ends n None e h
reads n (b ∷ bs) e h =
    elim (eqb_tells b 58) [
      | inl colon ↦ rw colon.1 (ends n (Some bs) e (rw colon.0 at h))
      | inr other ↦ let is = digit_test b n e _ (rw other.0 at h) in more n b bs e is.0 is.1 (reads (n * 10 + (b - 48)) bs e is.2)
    ]

-- the other way round
moment_of : (n : ℕ) → n < end_of_moments → as_moment n ≡ Some n
moment_of n below = grind (arith, nat_tests)

read : (n : ℕ) (digits : List ℕ) (rest : Option (List ℕ)) → AllDigits 10 digits → digits_value_after 10 n digits < end_of_moments
    → moment_from n (digits ++ colon_and rest) ≡ Some (digits_value_after 10 n digits)
unfolding moment_from
read n [] None all below = moment_of n below
read n [] (Some bs) all below = moment_of n below
read n (b ∷ bs) rest all below =
    let range = digit_from_value b all.0 in
    let value : digit_value b ≡ b - 48 = digit b range.0 range.1 in
    let grown = grows (n * 10 + digit_value b) bs in
    is_digit_test b n _ _ range.0 range.1 (omega (arith, grown, below))
    ∙ ap (λ k. moment_from (n * 10 + k) (bs ++ colon_and rest)) (sym value)
    ∙ read (n * 10 + digit_value b) bs rest all.1 below

-- ---- Whole names

first_value : (b : ℕ) → 48 ≤ b → b ≤ 57 → b - 48 ≡ 0 * 10 + digit_value b
first_value b low high = let is = digit b low high in omega (arith, is)

-- the first digit isn't 0
first : (b : ℕ) (bs : List ℕ) (e : ℕ) → 49 ≤ b → b ≤ 57 → Reads (b - 48) bs e → HasExpiry (b ∷ bs) e
first b bs e low high is =
    let from_zero : digits_value_after 10 (b - 48) is.digits ≡ digits_value 10 (b ∷ is.digits) = ap (λ k. digits_value_after 10 k is.digits) (first_value b (omega (arith, low)) high) in
    let grown = grows (b - 48) is.digits in
    record {
      digits = b ∷ is.digits;
      rest = is.rest;
      encoded = ap (λ xs. b ∷ xs) is.encoded;
      numeral = (omega arith, (is_digit b (omega (arith, low)) high, is.all));
      no_leading_zero = λ zero. omega (arith, zero, low);
      value = is.value ∙ from_zero;
      range = (omega (arith, grown, is.value, low), is.below);
    }

pub expiry_is : (name : List ℕ) (e : ℕ) → expiry_of name ≡ Some e → HasExpiry name e
unfolding expiry_of
expiry_is [] e h = absurd cc
expiry_is (b ∷ bs) e h = let is = first_test b e _ h in first b bs e is.0 is.1 (reads (b - 48) bs e is.2)

read_first : (digits : List ℕ) (rest : Option (List ℕ)) → IsNumeral 10 digits → get_or digits 0 0 ≢ 48 → digits_value 10 digits < end_of_moments
    → expiry_of (digits ++ colon_and rest) ≡ Some (digits_value 10 digits)
unfolding expiry_of
read_first [] rest numeral other below = absurd (let no : ⊥ = omega (arith, numeral.0) in no)
read_first (b ∷ bs) rest numeral other below =
    let range = digit_from_value b numeral.1.0 in
    let value : b - 48 ≡ 0 * 10 + digit_value b = first_value b range.0 range.1 in
    is_first_test b _ (omega (arith, range.0, other)) range.1
    ∙ ap (λ k. moment_from k (bs ++ colon_and rest)) value
    ∙ read (0 * 10 + digit_value b) bs rest numeral.1.1 below

pub expiry_read : (name : List ℕ) (e : ℕ) → HasExpiry name e → expiry_of name ≡ Some e
expiry_read name e is =
    ap expiry_of is.encoded ∙ read_first is.digits is.rest is.numeral is.no_leading_zero (subst (λ k. k < end_of_moments) is.value is.range.1) ∙ ap (λ k. Some k) (sym is.value)

-- ---- Keys

pub shared_is : (secret name realm : List ℕ) (key : Key) → shared_key secret name realm ≡ Some key → IsSharedKey secret name realm key
unfolding shared_key
shared_is secret name realm key = by_expiry (expiry_of name) refl
  where
    by_expiry : (o : Option ℕ) → expiry_of name ≡ o → option_map (expiring_key secret name realm) o ≡ Some key → IsSharedKey secret name realm key
    by_expiry None is h = absurd cc
    by_expiry (Some e) is h = record { expiry = e; has_expiry = expiry_is name e is; key_is = sym (same_Some _ _ h) }

pub shared_read : (secret name realm : List ℕ) (key : Key) → IsSharedKey secret name realm key → shared_key secret name realm ≡ Some key
unfolding shared_key
shared_read secret name realm key is =
    ap (option_map (expiring_key secret name realm)) (expiry_read name is.expiry is.has_expiry) ∙ ap (λ k. Some k) (sym is.key_is)
