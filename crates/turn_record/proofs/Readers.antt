-- What a reader of one field and its encoding have to do with each other, and how readers are put together.
use Rattle.std.proofs.Common.{◌≡◌, ℕ, zero, suc, ◌+◌, ◌*◌, ◌^◌, ◌<◌, ◌≤◌, Bool, true, false, cond, ltb, eqb, List, [], ◌∷◌, ◌++◌, length, get_or, take, drop, Ok, Err, refl, sym, ap, subst, ◌∙◌, append_assoc, arith, inl, inr}
use Rattle.std.specs.Int.{w16, w32, w64, from_be_bytes, to_be_bytes}
use Rattle.std.proofs.Math.Nat.{mul-le-mul_right}
use Rattle.std.proofs.lemmas.Bool.{cases_lt, ltb-false, le-ltb, eqb-true}
use Rattle.std.proofs.lemmas.List.{take_at, drop_at, take-append-drop, length-append, length-take, get_or-drop, get_or-take, get_or_past, append-nil, nil_from_length}
use Rattle.std.proofs.lemmas.Nat.{be_bytes_2, be_bytes_4, be_bytes_8, from_be_bytes-to_be_bytes_2, from_be_bytes-to_be_bytes_4, from_be_bytes-to_be_bytes_8}
use Rattle.turn_record.specs.declared.error.DecodeError.{DecodeError}
use Rattle.turn_record.specs.declared.error.DecodeError.TheVariants.{Short, TrailingBytes}
use Rattle.turn_record.specs.Prelude.{each, is_short, ◌>>=◌, Field, checked, byte_at, number_at, bytes_at, many, whole}
use Rattle.turn_record.proofs.Fronts.{Any, Front, Passes, bind, bind_ok, done, front_end, front_checked, front_many, front_needs, guard_ok, checked_ok, ok_is, within}

-- each element meets what is asked of it after those before it
abbrev pub EachAfter : {A : Type 0} → (List A → A → Type 0) → List A → List A → Type 0
EachAfter P before [] = Unit {0}
EachAfter P before (x ∷ xs) = P before x × EachAfter P (before ++ x ∷ []) xs

abbrev pub IsBytes : List ℕ → Type 0
IsBytes bytes = (i : ℕ) → get_or bytes i 0 < 256

IsBytes-drop : (n : ℕ) (bytes : List ℕ) → IsBytes bytes → IsBytes (drop n bytes)
IsBytes-drop n bytes h i = rw get_or-drop (h (n + i))

IsBytes-take : (n : ℕ) (bytes : List ℕ) → IsBytes bytes → IsBytes (take n bytes)
IsBytes-take n bytes h i =
    elim (cases_lt i n) [
      | inl lt ↦ rw (get_or-take n bytes i 0 lt) (h i)
      | inr le ↦ rw (get_or_past (take n bytes) i 0 (omega (arith, length-take n bytes))) (omega arith)
    ]

-- what a reader took from the before
pub record Taken (bytes text rest : List ℕ) (F : Type 0) : Type 0 where
  pub parts : bytes ≡ text ++ rest
  pub left : IsBytes rest
  pub fits : F

-- a reader takes what the encoding of what it gives, and reads each encoding again, whatever follows it
pub record Reads {A : Type 0} (read : List ℕ → Field A) (encode : A → List ℕ) (fits : A → Type 0) : Type 0 where
  pub takes : (bytes : List ℕ) (x : A) (rest : List ℕ) → IsBytes bytes → read bytes ≡ Ok (x, rest) → Taken bytes (encode x) rest (fits x)
  pub again : (x : A) (rest : List ℕ) → fits x → read (encode x ++ rest) ≡ Ok (x, rest)

-- what is known of a format: where U holds, as that the limits are in range, its reader and its encoding agree; and, wherever, what its reader answers of the front
-- of bytes, of which it takes n at most
pub record Codec {A : Type 0} (U : Type 0) (read : List ℕ → Field A) (encode : A → List ℕ) (fits : A → Type 0) (n : ℕ) : Type 0 where
  pub reads : U → Reads read encode fits
  pub front : Front read n

-- ---- Atoms

-- what needs n bytes
codec_needs : {A U : Type 0} (n : ℕ) (value : List ℕ → A) (encode : A → List ℕ) (fits : A → Type 0) → ((bytes : List ℕ) → length bytes ≡ n → IsBytes bytes → (encode (value bytes) ≡ bytes) × fits (value bytes))
    → ((x : A) → fits x → (length (encode x) ≡ n) × (value (encode x) ≡ x)) → Codec U (λ bytes. cond (ltb (length bytes) n) (Err Short) (Ok (value (take n bytes), drop n bytes))) encode fits n
codec_needs {A} n value encode fits back again = record {
  reads = λ under. record {
    takes = λ bytes x rest all e.
        let g = guard_ok (ltb (length bytes) n) Short (value (take n bytes), drop n bytes) (x, rest) e in
        let long : n ≤ length bytes = ltb-false _ _ g.0 in
        let b = back (take n bytes) (omega (arith, length-take n bytes)) (IsBytes-take n bytes all) in
        subst (λ (p : A × List ℕ). Taken bytes (encode p.0) p.1 (fits p.0)) g.1 (record { parts = rw b.0 (sym (take-append-drop n bytes)); left = IsBytes-drop n bytes all; fits = b.1 });
    again = λ x rest h.
        let a = again x h in
        let long : ltb (length (encode x ++ rest)) n ≡ false = le-ltb _ _ (omega (arith, length-append (encode x) rest, a.0)) in
        rw (long, take_at (encode x) rest n a.0, drop_at (encode x) rest n a.0, a.1) refl;
  };
  front = front_needs n value;
}

pub codec16 : {U : Type 0} → Codec U (number_at w16) (to_be_bytes w16) (λ n. n < 2 ^ 16) 2
codec16 = codec_needs 2 (from_be_bytes w16) _ _ (λ bytes len all. (be_bytes_2 bytes _ len all refl, omega (arith, all 0, all 1))) (λ n lt. (refl, from_be_bytes-to_be_bytes_2 n lt))

pub codec32 : {U : Type 0} → Codec U (number_at w32) (to_be_bytes w32) (λ n. n < 2 ^ 32) 4
codec32 = codec_needs 4 (from_be_bytes w32) _ _ (λ bytes len all. (be_bytes_4 bytes _ len all refl, omega (arith, all 0, all 1, all 2, all 3))) (λ n lt. (refl, from_be_bytes-to_be_bytes_4 n lt))

pub codec64 : {U : Type 0} → Codec U (number_at w64) (to_be_bytes w64) (λ n. n < 2 ^ 64) 8
codec64 =
    codec_needs 8 (from_be_bytes w64) _ _ (λ bytes len all. (be_bytes_8 bytes _ len all refl, omega (arith, all 0, all 1, all 2, all 3, all 4, all 5, all 6, all 7)))
    (λ n lt. (refl, from_be_bytes-to_be_bytes_8 n lt))

pub codec_bytes : {U : Type 0} (n : ℕ) → Codec U (bytes_at n) (λ text. text) (λ text. (length text ≡ n) × IsBytes text) n
codec_bytes n = codec_needs n (λ text. text) _ _ (λ bytes len all. (refl, (len, all))) (λ text h. (h.0, refl))

-- the first two bytes as a number, and as bytes
pub two_bytes : (n : ℕ) (bytes : List ℕ) → IsBytes bytes → 2 ≤ length bytes → from_be_bytes w16 (take 2 bytes) ≡ n → (n < 2 ^ 16) × (take 2 bytes ≡ to_be_bytes w16 n)
two_bytes n bytes all long is =
    let front = IsBytes-take 2 bytes all in
    (omega (arith, is, front 0, front 1), sym (be_bytes_2 (take 2 bytes) _ (omega (arith, length-take 2 bytes, long)) front refl) ∙ ap (to_be_bytes w16) is)

abbrev pub one : ℕ → List ℕ
one n = n ∷ []

byte_is : (bytes : List ℕ) → cond (ltb (length bytes) 1) (Err Short) (Ok (get_or (take 1 bytes) 0 0, drop 1 bytes)) ≡ byte_at bytes
byte_is [] = refl
byte_is (b ∷ bytes) = rw (le-ltb (length (b ∷ bytes)) 1 (omega arith)) refl

one_byte : (bytes : List ℕ) → length bytes ≡ 1 → one (get_or bytes 0 0) ≡ bytes
one_byte [] e = absurd (omega (arith, e))
one_byte (b ∷ []) e = refl
one_byte (b ∷ c ∷ bytes) e = absurd (omega (arith, e))

pub codec_byte : {U : Type 0} → Codec U byte_at one (λ n. n < 256) 1
codec_byte {U} =
    subst (λ (read : List ℕ → Field ℕ). Codec U read one (λ n. n < 256) 1) (λ i. λ bytes. byte_is bytes i)
    (codec_needs 1 (λ text. get_or text 0 0) one (λ n. n < 256) (λ bytes len all. (one_byte bytes len, all 0)) (λ n lt. (refl, refl)))

-- ---- Readers put together

-- a field that is checked
pub codec_judged : {A U : Type 0} {n : ℕ} (r : List ℕ → Field A) (s : A → List ℕ) (f : A → Type 0) (good : A → Bool) (d : DecodeError) → is_short d ≡ false → Codec U r s f n
    → Codec U (λ bytes. r bytes >>= λ x. checked (good x.0) d x) s (λ x. f x × (good x ≡ true)) n
codec_judged {A} r s f good d long codec = record {
  reads = λ under. record {
    takes = λ bytes x rest fits e.
        let a = bind_ok (r bytes) (λ (y : A × List ℕ). checked (good y.0) d y) (x, rest) e in
        let g = checked_ok (good a.0.0) d a.0 (x, rest) a.2 in
        let t = (codec.reads under).takes bytes a.0.0 a.0.1 fits a.1 in
        subst (λ (y : A × List ℕ). Taken bytes (s y.0) y.1 (f y.0 × (good y.0 ≡ true))) g.1 (record { parts = t.parts; left = t.left; fits = (t.fits, g.0) });
    again = λ x rest h. rw ((codec.reads under).again x rest h.0, h.1) refl;
  };
  front = front_checked r good d long codec.front;
}

-- the first field, and then what it is followed by; what is known of the value so far is C
pub reads_chain : {A B : Type 0} (r : List ℕ → Field A) (s : A → List ℕ) (f : A → Type 0) (k : A → List ℕ → Field B) (t : A → B → List ℕ) (part : B → A) (C : B → Type 0) (G : A → B → Type 0)
    → Reads r s f → ((a : A) → f a → Reads (k a) (t a) (λ y. (C y × (part y ≡ a)) × G a y))
    → Reads (λ bytes. r bytes >>= λ x. k x.0 x.1) (λ y. s (part y) ++ t (part y) y) (λ y. C y × (f (part y) × G (part y) y))
reads_chain {A} {B} r s f k t part C G first next = record {
  takes = λ bytes y rest fits e.
      let a = bind_ok (r bytes) (λ (x : A × List ℕ). k x.0 x.1) (y, rest) e in
      let p = first.takes bytes a.0.0 a.0.1 fits a.1 in
      let q = (next a.0.0 p.fits).takes a.0.1 y rest p.left a.2 in
      let is : part y ≡ a.0.0 = q.fits.0.1 in
      let both : bytes ≡ (s a.0.0 ++ t a.0.0 y) ++ rest = p.parts ∙ ap (λ (u : List ℕ). s a.0.0 ++ u) q.parts ∙ sym (append_assoc (s a.0.0) (t a.0.0 y) rest) in
      subst (λ (z : A). Taken bytes (s z ++ t z y) rest (C y × (f z × G z y))) (sym is) (record { parts = both; left = q.left; fits = (q.fits.0.0, (p.fits, q.fits.1)) });
  again = λ y rest h.
      let one : r (s (part y) ++ (t (part y) y ++ rest)) ≡ Ok (part y, t (part y) y ++ rest) = first.again (part y) (t (part y) y ++ rest) h.1.0 in
      let two : k (part y) (t (part y) y ++ rest) ≡ Ok (y, rest) = (next (part y) h.1.0).again y rest ((h.0, refl), h.1.1) in
      ap (λ (u : List ℕ). r u >>= λ x. k x.0 x.1) (append_assoc (s (part y)) (t (part y) y) rest) ∙ ap (λ (u : Field A). u >>= λ x. k x.0 x.1) one ∙ two;
}

-- the same of codecs; what follows may need what is known of the first field, whatever the bytes are
pub chain_by : {A B U : Type 0} {P : A → Type 0} {n m : ℕ} (r : List ℕ → Field A) (s : A → List ℕ) (f : A → Type 0) (k : A → List ℕ → Field B) (t : A → B → List ℕ) (part : B → A) (C : B → Type 0) (G : A → B → Type 0)
    → Codec U r s f n → Passes r P → ((a : A) → P a → Codec U (k a) (t a) (λ y. (C y × (part y ≡ a)) × G a y) m)
    → Codec U (λ bytes. r bytes >>= λ x. k x.0 x.1) (λ y. s (part y) ++ t (part y) y) (λ y. C y × (f (part y) × G (part y) y)) (n + m)
chain_by r s f k t part C G first known next = record {
  reads = λ under. let reads = first.reads under in reads_chain r s f k t part C G reads (λ a h. (next a (known (s a ++ []) a [] (reads.again a [] h))).reads under);
  front = bind r (λ x. k x.0 x.1) first.front known (λ a p. (next a p).front);
}

-- and where it needs nothing of it
pub chain : {A B U : Type 0} {n m : ℕ} (r : List ℕ → Field A) (s : A → List ℕ) (f : A → Type 0) (k : A → List ℕ → Field B) (t : A → B → List ℕ) (part : B → A) (C : B → Type 0) (G : A → B → Type 0)
    → Codec U r s f n → ((a : A) → Codec U (k a) (t a) (λ y. (C y × (part y ≡ a)) × G a y) m)
    → Codec U (λ bytes. r bytes >>= λ x. k x.0 x.1) (λ y. s (part y) ++ t (part y) y) (λ y. C y × (f (part y) × G (part y) y)) (n + m)
chain r s f k t part C G first next = chain_by {P = Any} r s f k t part C G first (λ bytes x rest e. tt) (λ a p. next a)

-- the end: the value is made
pub made : {B U : Type 0} (y0 : B) (C : B → Type 0) → C y0 → ((y : B) → C y → y ≡ y0) → Codec U (λ bytes. Ok (y0, bytes)) (λ y. []) (λ y. C y × Unit {0}) 0
made {B} y0 C holds only = record {
  reads = λ under. record {
    takes = λ bytes y rest fits e.
        let p = ok_is (y0, bytes) (y, rest) e in
        subst (λ (x : B × List ℕ). Taken bytes [] x.1 (C x.0 × Unit {0})) p (record { parts = refl; left = fits; fits = (holds, tt) });
    again = λ y rest h. rw (only y h.0) refl;
  };
  front = front_end y0;
}

-- said in other words
pub reads_in_words : {A : Type 0} (r : List ℕ → Field A) (s s' : A → List ℕ) (f f' : A → Type 0) → Reads r s f → ((x : A) → s x ≡ s' x) → ((x : A) → f x → f' x) → ((x : A) → f' x → f x) → Reads r s' f'
reads_in_words r s s' f f' reads same to from = record {
  takes = λ bytes x rest fits e.
      let t = reads.takes bytes x rest fits e in
      record { parts = t.parts ∙ ap (λ (u : List ℕ). u ++ rest) (same x); left = t.left; fits = to x t.fits };
  again = λ x rest h. ap (λ (u : List ℕ). r (u ++ rest)) (sym (same x)) ∙ reads.again x rest (from x h);
}

-- the same of a codec, where U may be needed for it
pub in_words_under : {A U : Type 0} {n : ℕ} (r : List ℕ → Field A) (s s' : A → List ℕ) (f f' : A → Type 0) → Codec U r s f n → ((x : A) → s x ≡ s' x) → ((x : A) → f x → f' x) → (U → (x : A) → f' x → f x) → Codec U r s' f' n
in_words_under r s s' f f' codec same to from = record { reads = λ under. reads_in_words r s s' f f' (codec.reads under) same to (from under); front = codec.front }

pub in_words : {A U : Type 0} {n : ℕ} (r : List ℕ → Field A) (s s' : A → List ℕ) (f f' : A → Type 0) → Codec U r s f n → ((x : A) → s x ≡ s' x) → ((x : A) → f x → f' x) → ((x : A) → f' x → f x) → Codec U r s' f' n
in_words r s s' f f' codec same to from = in_words_under r s s' f f' codec same to (λ under. from)

-- with a greater number
pub at_most : {A U : Type 0} {n : ℕ} (r : List ℕ → Field A) (s : A → List ℕ) (f : A → Type 0) (m : ℕ) → Codec U r s f n → n ≤ m → Codec U r s f m
at_most r s f m codec le = record { reads = codec.reads; front = within r m codec.front le }

-- a value seen as another
pub codec_as : {A B U : Type 0} {n : ℕ} (r : List ℕ → Field A) (s : A → List ℕ) (f : A → Type 0) (make : A → B) (s' : B → List ℕ) (f' : B → Type 0) → Codec U r s f n
    → ((x : A) → f x → s' (make x) ≡ s x) → ((x : A) → f x → f' (make x)) → ((y : B) → f' y → (x : A) × (y ≡ make x) × f x)
    → Codec U (λ bytes. r bytes >>= λ x. Ok (make x.0, x.1)) s' f' n
codec_as {A} {B} r s f make s' f' codec same to from = record {
  reads = λ under. record {
    takes = λ bytes y rest fits e.
        let a = bind_ok (r bytes) (λ (x : A × List ℕ). Ok (make x.0, x.1)) (y, rest) e in
        let t = (codec.reads under).takes bytes a.0.0 a.0.1 fits a.1 in
        subst (λ (x : B × List ℕ). Taken bytes (s' x.0) x.1 (f' x.0)) (ok_is (make a.0.0, a.0.1) (y, rest) a.2) (record { parts = t.parts ∙ ap (λ (u : List ℕ). u ++ a.0.1) (sym (same a.0.0 t.fits)); left = t.left; fits = to a.0.0 t.fits });
    again = λ y rest h.
        let x = from y h in
        let one : r (s x.0 ++ rest) ≡ Ok (x.0, rest) = (codec.reads under).again x.0 rest x.2 in
        let text : s' y ≡ s x.0 = ap s' x.1 ∙ same x.0 x.2 in
        ap (λ (u : List ℕ). r (u ++ rest) >>= λ z. Ok (make z.0, z.1)) text ∙ ap (λ (u : Field A). u >>= λ z. Ok (make z.0, z.1)) one ∙ ap (λ (v : B). done (v, rest)) (sym x.1);
  };
  front = within _ _ (bind {P = Any} r (λ x. Ok (make x.0, x.1)) codec.front (λ bytes x rest e. tt) (λ a p. front_end (make a))) (omega arith);
}

-- ---- Lists

pub record TakenMany {A : Type 0} (s : A → List ℕ) (P : List A → A → Type 0) (n : ℕ) (before : List A) (bytes : List ℕ) (all : List A) (rest : List ℕ) : Type 0 where
  pub more : List A
  pub is : all ≡ before ++ more
  pub len : length more ≡ n
  pub parts : bytes ≡ each s more ++ rest
  pub left : IsBytes rest
  pub fits : EachAfter P before more

many_takes : {A : Type 0} (item : List A → List ℕ → Field A) (s : A → List ℕ) (P : List A → A → Type 0) → ((before : List A) → Reads (item before) s (P before))
    → (n : ℕ) (before : List A) (bytes : List ℕ) (all : List A) (rest : List ℕ) → IsBytes bytes → many item n before bytes ≡ Ok (all, rest) → TakenMany s P n before bytes all rest
unfolding many
many_takes {A} item s P reads zero before bytes all rest fits e =
    subst (λ (x : List A × List ℕ). TakenMany s P 0 before bytes x.0 x.1) (ok_is (before, bytes) (all, rest) e) (record { more = []; is = sym (append-nil before); len = refl; parts = refl; left = fits; fits = tt })
many_takes {A} item s P reads (suc n) before bytes all rest fits e =
    let a = bind_ok (item before bytes) (λ (x : A × List ℕ). many item n (before ++ x.0 ∷ []) x.1) (all, rest) e in
    let t = (reads before).takes bytes a.0.0 a.0.1 fits a.1 in
    let m = many_takes item s P reads n (before ++ a.0.0 ∷ []) a.0.1 all rest t.left a.2 in
    record {
      more = a.0.0 ∷ m.more;
      is = m.is ∙ append_assoc before (a.0.0 ∷ []) m.more;
      len = ap suc m.len;
      parts = t.parts ∙ ap (λ (u : List ℕ). s a.0.0 ++ u) m.parts ∙ sym (append_assoc (s a.0.0) (each s m.more) rest);
      left = m.left;
      fits = (t.fits, m.fits);
    }

many_again : {A : Type 0} (item : List A → List ℕ → Field A) (s : A → List ℕ) (P : List A → A → Type 0) → ((before : List A) → Reads (item before) s (P before))
    → (before more : List A) (rest : List ℕ) → EachAfter P before more → many item (length more) before (each s more ++ rest) ≡ Ok (before ++ more, rest)
unfolding many
many_again item s P reads before [] rest h = ap (λ (u : List _). done (u, rest)) (sym (append-nil before))
many_again {A} item s P reads before (x ∷ more) rest h =
    let regrouped : (s x ++ each s more) ++ rest ≡ s x ++ (each s more ++ rest) = append_assoc (s x) (each s more) rest in
    let one : item before (s x ++ (each s more ++ rest)) ≡ Ok (x, each s more ++ rest) = (reads before).again x (each s more ++ rest) h.0 in
    let two : many item (length more) (before ++ x ∷ []) (each s more ++ rest) ≡ Ok ((before ++ x ∷ []) ++ more, rest) = many_again item s P reads (before ++ x ∷ []) more rest h.1 in
    ap (many item (suc (length more)) before) regrouped ∙ ap (λ (u : Field A). u >>= λ y. many item (length more) (before ++ y.0 ∷ []) y.1) one ∙ two ∙ ap (λ (u : List A). done (u, rest)) (append_assoc before (x ∷ []) more)

reads_many : {A : Type 0} (item : List A → List ℕ → Field A) (s : A → List ℕ) (P : List A → A → Type 0) → ((before : List A) → Reads (item before) s (P before))
    → (n : ℕ) → Reads (many item n []) (each s) (λ xs. (length xs ≡ n) × EachAfter P [] xs)
reads_many {A} item s P reads n = record {
  takes = λ bytes xs rest fits e.
      let m = many_takes item s P reads n [] bytes xs rest fits e in
      subst (λ (ys : List A). Taken bytes (each s ys) rest ((length ys ≡ n) × EachAfter P [] ys)) (sym m.is) (record { parts = m.parts; left = m.left; fits = (m.len, m.fits) });
  again = λ xs rest h. subst (λ (k : ℕ). many item k [] (each s xs ++ rest) ≡ Ok (xs, rest)) h.0 (many_again item s P reads [] xs rest h.1);
}

pub codec_many : {A U : Type 0} {m : ℕ} (item : List A → List ℕ → Field A) (s : A → List ℕ) (P : List A → A → Type 0) → ((before : List A) → Codec U (item before) s (P before) m)
    → (n : ℕ) → Codec U (many item n []) (each s) (λ xs. (length xs ≡ n) × EachAfter P [] xs) (n * m)
codec_many item s P codec n = record { reads = λ under. reads_many item s P (λ before. (codec before).reads under) n; front = front_many item (λ before. (codec before).front) n [] }

-- a count up to a limit, and that many
pub codec_counted : {A U : Type 0} {k m : ℕ} (c : List ℕ → Field ℕ) (sc : ℕ → List ℕ) (fc : ℕ → Type 0) (high : ℕ) (item : List A → List ℕ → Field A) (s : A → List ℕ) (P : List A → A → Type 0)
    → Codec U c sc fc k → Passes c (λ n. n ≤ high) → ((before : List A) → Codec U (item before) s (P before) m)
    → Codec U (λ bytes. c bytes >>= λ n. many item n.0 [] n.1) (λ xs. sc (length xs) ++ each s xs) (λ xs. fc (length xs) × EachAfter P [] xs) (k + high * m)
codec_counted {m = m} c sc fc high item s P count few codec =
    in_words _ _ _ _ _
    (chain_by c sc fc (λ n. many item n []) (λ n xs. each s xs) (λ xs. length xs) (λ xs. Unit {0}) (λ n xs. EachAfter P [] xs) count few
    (λ n le. at_most _ _ _ (high * m) (in_words _ _ _ _ _ (codec_many item s P codec n) (λ xs. refl) (λ xs h. ((tt, h.0), h.1)) (λ xs h. (h.0.1, h.1))) (mul-le-mul_right m le)))
    (λ xs. refl) (λ xs h. h.1) (λ xs h. (tt, h))

-- ---- The whole of the bytes

guard_ended : {A : Type 0} (b : Bool) (d : DecodeError) (x y : A) → cond b (Ok x) (Err d) ≡ Ok y → (b ≡ true) × (x ≡ y)
guard_ended true d x y e = (refl, cc)
guard_ended false d x y e = absurd cc

pub whole_takes : {A : Type 0} (r : List ℕ → Field A) (s : A → List ℕ) (f : A → Type 0) → Reads r s f → (bytes : List ℕ) (x : A) → IsBytes bytes → whole (r bytes) ≡ Ok x → f x × (bytes ≡ s x)
whole_takes {A} r s f reads bytes x fits e =
    let a = bind_ok (r bytes) (λ (y : A × List ℕ). cond (eqb (length y.1) 0) (Ok y.0) (Err TrailingBytes)) x e in
    let g = guard_ended (eqb (length a.0.1) 0) TrailingBytes a.0.0 x a.2 in
    let t = reads.takes bytes a.0.0 a.0.1 fits a.1 in
    let nothing : a.0.1 ≡ [] = nil_from_length a.0.1 (eqb-true _ _ g.0) in
    let all : bytes ≡ s a.0.0 = t.parts ∙ ap (λ (u : List ℕ). s a.0.0 ++ u) nothing ∙ append-nil (s a.0.0) in
    subst (λ (y : A). f y × (bytes ≡ s y)) g.1 (t.fits, all)

pub whole_again : {A : Type 0} (r : List ℕ → Field A) (s : A → List ℕ) (f : A → Type 0) → Reads r s f → (x : A) → f x → whole (r (s x)) ≡ Ok x
whole_again {A} r s f reads x h =
    let one : r (s x) ≡ Ok (x, []) = ap r (sym (append-nil (s x))) ∙ reads.again x [] h in
    ap (λ (u : Field A). whole u) one

-- no encoding begins another's
pub one_encoding : {A : Type 0} (r : List ℕ → Field A) (s : A → List ℕ) (f : A → Type 0) → Reads r s f → (x y : A) (u v : List ℕ) → f x → f y → s x ++ u ≡ s y ++ v → (x ≡ y) × (u ≡ v)
one_encoding {A} r s f reads x y u v p q e =
    let same = ok_is (x, u) (y, v) (sym (reads.again x u p) ∙ ap r e ∙ reads.again y v q) in
    (ap (λ (z : A × List ℕ). z.0) same, ap (λ (z : A × List ℕ). z.1) same)
