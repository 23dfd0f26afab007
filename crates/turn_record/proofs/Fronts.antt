-- What a reader answers of the front of bytes: it stays when bytes are added, a value with these after it, and a fault other than Short; only fewer bytes than it
-- takes at most can be too short for it.
use Rattle.std.proofs.Common.{◌≡◌, ℕ, zero, suc, ◌+◌, ◌*◌, ◌≤◌, ◌<◌, Bool, true, false, cond, ltb, List, [], ◌∷◌, ◌++◌, length, take, drop, Result, Ok, Err, refl, sym, ap, ◌∙◌, arith, le-ltb, ltb-false, ltb-true}
use Rattle.std.proofs.lemmas.List.{drop-append-le, length-append, length-drop, take-append-le}
use Rattle.turn_record.specs.Prelude.{is_short, ◌>>=◌, Field, checked, many}
use Rattle.turn_record.specs.declared.error.DecodeError.{DecodeError}
use Rattle.turn_record.specs.declared.error.DecodeError.TheVariants.{Short}

abbrev pub Grows : {A : Type 0} → Field A → List ℕ → Field A → Type 0
Grows (Ok x) more after = after ≡ Ok (x.0, x.1 ++ more)
Grows (Err e) more after = is_short e ≡ false → after ≡ Err e

-- what it answers stays when bytes are added; only fewer than n bytes are too short; what it reads has at most n bytes
pub record Front {A : Type 0} (read : List ℕ → Field A) (n : ℕ) : Type 0 where
  pub grows : (bytes more : List ℕ) → Grows (read bytes) more (read (bytes ++ more))
  pub short : (bytes : List ℕ) → read bytes ≡ Err Short → length bytes < n
  pub most : (bytes : List ℕ) (x : A) (rest : List ℕ) → read bytes ≡ Ok (x, rest) → length bytes ≤ length rest + n

-- what is known of a value that was read, whatever the bytes are
abbrev pub Passes : {A : Type 0} → (List ℕ → Field A) → (A → Type 0) → Type 0
Passes {A} read P = (bytes : List ℕ) (x : A) (rest : List ℕ) → read bytes ≡ Ok (x, rest) → P x

-- the value of a step that did not fail
pub bind_ok : {A B : Type 0} (r : Result A DecodeError) (f : A → Result B DecodeError) (y : B) → (r >>= f) ≡ Ok y → (x : A) × (r ≡ Ok x) × (f x ≡ Ok y)
bind_ok (Ok x) f y e = (x, refl, e)
bind_ok (Err d) f y e = absurd cc

pub guard_ok : {A : Type 0} (b : Bool) (d : DecodeError) (x y : A) → cond b (Err d) (Ok x) ≡ Ok y → (b ≡ false) × (x ≡ y)
guard_ok true d x y e = absurd cc
guard_ok false d x y e = (refl, cc)

pub checked_ok : {A : Type 0} (b : Bool) (d : DecodeError) (x y : A) → checked b d x ≡ Ok y → (b ≡ true) × (x ≡ y)
checked_ok true d x y e = (refl, cc)
checked_ok false d x y e = absurd cc

abbrev pub done : {A : Type 0} → A → Result A DecodeError
done x = Ok x

pub ok_is : {A : Type 0} (x y : A) → done x ≡ done y → x ≡ y
ok_is x y e = cc

-- ---- Atoms

guard_short : {A : Type 0} (b : Bool) (x : A) → cond b (Err Short) (Ok x) ≡ Err Short → b ≡ true
guard_short true x e = refl
guard_short false x e = absurd cc

guard_grows : {A : Type 0} (b c : Bool) (p q : A × List ℕ) (more : List ℕ) → (b ≡ false → (c ≡ false) × (q ≡ (p.0, p.1 ++ more))) → Grows (cond b (Err Short) (Ok p)) more (cond c (Err Short) (Ok q))
guard_grows true c p q more h = λ long. absurd cc
guard_grows false c p q more h = let k = h refl in rw (k.0, k.1) refl

-- what needs n bytes
pub front_needs : {A : Type 0} (n : ℕ) (value : List ℕ → A) → Front (λ bytes. cond (ltb (length bytes) n) (Err Short) (Ok (value (take n bytes), drop n bytes))) n
front_needs {A} n value = record {
  grows = λ bytes more. guard_grows (ltb (length bytes) n) (ltb (length (bytes ++ more)) n) (value (take n bytes), drop n bytes) (value (take n (bytes ++ more)), drop n (bytes ++ more)) more
      (λ e. let long : n ≤ length bytes = ltb-false _ _ e in
      (le-ltb _ _ (omega (arith, length-append bytes more)), rw (take-append-le n bytes more long, drop-append-le n bytes more long) refl));
  short = λ bytes e. ltb-true _ _ (guard_short (ltb (length bytes) n) (value (take n bytes), drop n bytes) e);
  most = λ bytes x rest e.
      let g = guard_ok (ltb (length bytes) n) Short (value (take n bytes), drop n bytes) (x, rest) e in
      let size : length (drop n bytes) ≡ length rest = ap (λ (p : A × List ℕ). length p.1) g.1 in
      omega (arith, size, length-drop n bytes);
}

-- ---- Readers put together

abbrev failed_by : {A : Type 0} → DecodeError → Result A DecodeError
failed_by e = Err e

same_fault : {B : Type 0} (e f : DecodeError) → failed_by {A = B} e ≡ failed_by f → e ≡ f
same_fault e f is = cc

bind_short : {A B : Type 0} (r : Field A) (k : A × List ℕ → Field B) {C : Type 0} → (r >>= k) ≡ Err Short → (r ≡ Err Short → C) → ((x : A) (rest : List ℕ) → r ≡ Ok (x, rest) → k (x, rest) ≡ Err Short → C) → C
bind_short {A} {B} (Err e) k h failed next = failed (ap (failed_by {A = A × List ℕ}) (same_fault e Short h))
bind_short (Ok x) k h failed next = next x.0 x.1 refl h

bind_grows : {A B : Type 0} (r s : Field A) (k : A × List ℕ → Field B) (more : List ℕ) → Grows r more s → ((x : A) (rest : List ℕ) → r ≡ Ok (x, rest) → Grows (k (x, rest)) more (k (x, rest ++ more))) → Grows (r >>= k) more (s >>= k)
bind_grows (Ok x) s k more h next = rw h (next x.0 x.1 refl)
bind_grows (Err e) s k more h next = λ long. rw (h long) refl

-- a field, and what follows it
pub bind : {A B : Type 0} {P : A → Type 0} {n m : ℕ} (r : List ℕ → Field A) (k : A × List ℕ → Field B) → Front r n → Passes r P → ((a : A) → P a → Front (λ bytes. k (a, bytes)) m) → Front (λ bytes. r bytes >>= k) (n + m)
bind r k first known next = record {
  grows = λ bytes more. bind_grows (r bytes) (r (bytes ++ more)) k more (first.grows bytes more) (λ x rest e. (next x (known bytes x rest e)).grows rest more);
  short = λ bytes e. bind_short (r bytes) k e (λ s. let lt = first.short bytes s in omega (arith, lt))
      (λ x rest ok s. let lt = (next x (known bytes x rest ok)).short rest s in omega (arith, first.most bytes x rest ok, lt));
  most = λ bytes y rest e.
      let a = bind_ok (r bytes) k (y, rest) e in
      omega (arith, first.most bytes a.0.0 a.0.1 a.1, (next a.0.0 (known bytes a.0.0 a.0.1 a.1)).most a.0.1 y rest a.2);
}

pub front_end : {B : Type 0} (y : B) → Front (λ bytes. Ok (y, bytes)) 0
front_end {B} y = record {
  grows = λ bytes more. refl;
  short = λ bytes e. absurd cc;
  most = λ bytes x rest e. let size : length bytes ≡ length rest = ap (λ (p : B × List ℕ). length p.1) (ok_is (y, bytes) (x, rest) e) in omega (arith, size);
}

-- nothing is known of it
abbrev pub Any : {A : Type 0} → A → Type 0
Any x = Unit {0}

-- said of a greater number
pub within : {A : Type 0} {n : ℕ} (r : List ℕ → Field A) (m : ℕ) → Front r n → n ≤ m → Front r m
within r m h le = record {
  grows = h.grows;
  short = λ bytes e. let lt = h.short bytes e in omega (arith, lt, le);
  most = λ bytes x rest e. omega (arith, h.most bytes x rest e, le);
}

front_test : {A : Type 0} (good : Bool) (d : DecodeError) (x : A) → is_short d ≡ false → Front (λ bytes. checked good d (x, bytes)) 0
front_test true d x long = front_end x
front_test {A} false d x long = record {
  grows = λ bytes more. λ fault. refl;
  short = λ bytes e. absurd (let short : is_short d ≡ true = ap is_short (same_fault {B = A × List ℕ} d Short e) in cc);
  most = λ bytes y rest e. absurd cc;
}

-- a field that is checked
pub front_checked : {A : Type 0} {n : ℕ} (r : List ℕ → Field A) (good : A → Bool) (d : DecodeError) → is_short d ≡ false → Front r n → Front (λ bytes. r bytes >>= λ x. checked (good x.0) d x) n
front_checked r good d long first = within _ _ (bind {P = Any} r (λ x. checked (good x.0) d x) first (λ bytes x rest e. tt) (λ a p. front_test (good a) d a long)) (omega arith)

-- what is checked is good
pub good_passes : {A : Type 0} (r : List ℕ → Field A) (good : A → Bool) (d : DecodeError) → Passes (λ bytes. r bytes >>= λ x. checked (good x.0) d x) (λ x. good x ≡ true)
good_passes {A} r good d bytes y rest e =
    let a = bind_ok (r bytes) (λ (x : A × List ℕ). checked (good x.0) d x) (y, rest) e in
    let j = checked_ok (good a.0.0) d a.0 (y, rest) a.2 in
    ap (λ (p : A × List ℕ). good p.0) (sym j.1) ∙ j.0

-- what is known of the value at the end
pub end_passes : {A B : Type 0} {P : B → Type 0} (r : List ℕ → Field A) (k : A → List ℕ → Field B) → ((a : A) → Passes (k a) P) → Passes (λ bytes. r bytes >>= λ x. k x.0 x.1) P
end_passes {A} r k next bytes y rest e = let a = bind_ok (r bytes) (λ (x : A × List ℕ). k x.0 x.1) (y, rest) e in next a.0.0 a.0.1 y rest a.2

-- elements one after the other
pub front_many : {A : Type 0} {s : ℕ} (item : List A → List ℕ → Field A) → ((before : List A) → Front (item before) s) → (n : ℕ) (before : List A) → Front (many item n before) (n * s)
unfolding many
front_many item h zero before = within _ _ (front_end before) (omega arith)
front_many item h (suc n) before = within _ _ (bind {P = Any} (item before) (λ x. many item n (before ++ x.0 ∷ []) x.1) (h before) (λ bytes x rest e. tt) (λ a p. front_many item h n (before ++ a ∷ []))) (omega arith)
