-- What several appends leave.
use Rattle.std.proofs.Common.{◌≡◌, ℕ, ◌+◌, ◌<◌, suc, List, [], ◌∷◌, ◌++◌, length, map, get_or, drop, add-one, sym, ap, ◌∙◌, append_assoc, length-append, append-nil}
use Rattle.std.proofs.Math.Seq.{drop-cons}
use Rattle.turn_record.specs.Prelude.{joined, each}

-- one more field
pub appended : (before now after field : List ℕ) (fields : List (List ℕ)) → now ≡ before ++ field → after ≡ now ++ joined fields → after ≡ before ++ joined (field ∷ fields)
appended before now after field fields p q = q ∙ ap (λ (u : List ℕ). u ++ joined fields) p ∙ append_assoc before field (joined fields)

pub no_more : (now : List ℕ) → now ≡ now ++ joined []
no_more now = sym (append-nil now)

-- the first element is taken, and the others are left with what follows them
pub first_taken : {A : Type 0} (s : A → List ℕ) (x : A) (rest all : List A) (held tail whole : List ℕ) → held ≡ s x → all ≡ x ∷ rest → each s all ++ tail ≡ whole → held ++ (each s rest ++ tail) ≡ whole
first_taken s x rest all held tail whole is step was =
    ap (λ (u : List ℕ). u ++ (each s rest ++ tail)) is ∙ sym (append_assoc (s x) (each s rest) tail) ∙ ap (λ (xs : List _). each s xs ++ tail) (sym step) ∙ was

-- the elements from here on are this one and those from the next one on
pub each-drop : {A : Type 0} (s : A → List ℕ) (xs : List A) (i : ℕ) (d : A) → i < length xs → each s (drop i xs) ≡ s (get_or xs i d) ++ each s (drop (i + 1) xs)
each-drop s xs i d lt =
    let cons : drop i xs ≡ get_or xs i d ∷ drop (i + 1) xs = rw add-one (drop-cons xs i d lt) in
    ap (each s) cons

-- one element more, in a loop that keeps what is left to be appended
pub one_more : {A : Type 0} (s : A → List ℕ) (xs : List A) (i : ℕ) (d : A) (out more start : List ℕ) → i < length xs → more ≡ out ++ s (get_or xs i d) → out ++ each s (drop i xs) ≡ start → more ++ each s (drop (i + 1) xs) ≡ start
one_more s xs i d out more start lt p q =
    let one : out ++ each s (drop i xs) ≡ more ++ each s (drop (i + 1) xs) = rw (each-drop s xs i d lt, p) (sym (append_assoc out (s (get_or xs i d)) (each s (drop (i + 1) xs)))) in
    sym one ∙ q

-- and what room it takes
pub size_left : {A : Type 0} (s : A → List ℕ) (xs : List A) (i : ℕ) (d : A) → i < length xs → length (each s (drop i xs)) ≡ length (s (get_or xs i d)) + length (each s (drop (i + 1) xs))
size_left s xs i d lt = ap length (each-drop s xs i d lt) ∙ length-append (s (get_or xs i d)) (each s (drop (i + 1) xs))

-- the same of a view of the elements
pub each-drop-map : {A B : Type 0} (f : A → B) (s : B → List ℕ) (xs : List A) (i : ℕ) (x : A) → i < length xs → x ≡ get_or xs i x → each s (map f (drop i xs)) ≡ s (f x) ++ each s (map f (drop (i + 1) xs))
each-drop-map f s xs i x lt e =
    let cons : drop i xs ≡ x ∷ drop (i + 1) xs = rw add-one (drop-cons xs i x lt ∙ ap (λ y. y ∷ drop (suc i) xs) (sym e)) in
    ap (λ ys. each s (map f ys)) cons

pub one_more_of : {A B : Type 0} (f : A → B) (s : B → List ℕ) (xs : List A) (i : ℕ) (x : A) (out more start : List ℕ) → i < length xs → x ≡ get_or xs i x → more ≡ out ++ s (f x) → out ++ each s (map f (drop i xs)) ≡ start → more ++ each s (map f (drop (i + 1) xs)) ≡ start
one_more_of f s xs i x out more start lt e p q =
    let one : out ++ each s (map f (drop i xs)) ≡ more ++ each s (map f (drop (i + 1) xs)) = rw (each-drop-map f s xs i x lt e, p) (sym (append_assoc out (s (f x)) (each s (map f (drop (i + 1) xs))))) in
    sym one ∙ q

pub size_left_of : {A B : Type 0} (f : A → B) (s : B → List ℕ) (xs : List A) (i : ℕ) (x : A) → i < length xs → x ≡ get_or xs i x → length (each s (map f (drop i xs))) ≡ length (s (f x)) + length (each s (map f (drop (i + 1) xs)))
size_left_of f s xs i x lt e = ap length (each-drop-map f s xs i x lt e) ∙ length-append (s (f x)) (each s (map f (drop (i + 1) xs)))
