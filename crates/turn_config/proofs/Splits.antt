-- A text splits in one way at the first byte that equals a mark.
use Rattle.std.proofs.Common.{◌≡◌, ◌≢◌, ℕ, zero, suc, List, [], ◌∷◌, ◌++◌, All, refl, sym, ◌∙◌, arith}

abbrev pub Without : ℕ → List ℕ → Type 0
Without mark text = All (λ byte. byte ≢ mark) text

-- All of a tail
rest_without : (mark x : ℕ) (xs : List ℕ) → Without mark (x ∷ xs) → Without mark xs
rest_without mark x xs h k d lt = h (suc k) d (omega arith)

pub cons_without : (mark x : ℕ) (xs : List ℕ) → x ≢ mark → Without mark xs → Without mark (x ∷ xs)
cons_without mark x xs other h zero d lt = other
cons_without mark x xs other h (suc k) d lt = h k d (omega arith)

head_without : (mark x : ℕ) (xs : List ℕ) → Without mark (x ∷ xs) → x ≢ mark
head_without mark x xs h = h 0 x (omega arith)

-- a text with the mark in it isn't without it
pub mark_stands : (mark : ℕ) (front rest : List ℕ) → Without mark (front ++ mark ∷ rest) → ⊥
mark_stands mark [] rest h = head_without mark mark rest h refl
mark_stands mark (x ∷ front) rest h = mark_stands mark front rest (rest_without mark x (front ++ mark ∷ rest) h)

-- what stands before the first mark, and after it
pub one_split : (mark : ℕ) (a x b y : List ℕ) → Without mark a → Without mark b → a ++ mark ∷ x ≡ b ++ mark ∷ y
    → (a ≡ b) × (x ≡ y)
one_split mark [] x [] y f g e = (refl, cc)
one_split mark [] x (c ∷ b) y f g e = let same : c ≡ mark = cc in absurd (head_without mark c b g same)
one_split mark (c ∷ a) x [] y f g e = let same : c ≡ mark = cc in absurd (head_without mark c a f same)
one_split mark (c ∷ a) x (d ∷ b) y f g e =
    let heads : c ≡ d = cc in
    let tails : a ++ mark ∷ x ≡ b ++ mark ∷ y = cc in
    let parts = one_split mark a x b y (rest_without mark c a f) (rest_without mark d b g) tails in
    let fronts : a ≡ b = parts.0 in
    (cc, parts.1)

pub same_split : (mark : ℕ) (text a x b y : List ℕ) → text ≡ a ++ mark ∷ x → text ≡ b ++ mark ∷ y
    → Without mark a → Without mark b → (a ≡ b) × (x ≡ y)
same_split mark text a x b y p q f g = one_split mark a x b y f g (sym p ∙ q)

pub no_split : (mark : ℕ) (text a x : List ℕ) → text ≡ a ++ mark ∷ x → Without mark text → ⊥
no_split mark text a x e h = mark_stands mark a x (rw (← e) h)
