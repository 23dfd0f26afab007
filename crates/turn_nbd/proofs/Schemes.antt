-- A text begins with one of four schemes, or with none.
use Rattle.std.proofs.Common.{◌⊎◌, inl, inr, Bool, true, false, MatchBool}

pub last_of_four : (b : Bool) (P Q R S : Type 0) → (P → ⊥) → (Q → ⊥) → (R → ⊥) → MatchBool b S (S → ⊥)
    → MatchBool b (P ⊎ (Q ⊎ (R ⊎ S))) (P ⊎ (Q ⊎ (R ⊎ S)) → ⊥)
last_of_four true P Q R S p q r s = inr (inr (inr s))
last_of_four false P Q R S p q r s = λ u. elim u [ inl x ↦ p x | inr v ↦ elim v [ inl y ↦ q y | inr w ↦ elim w [ inl z ↦ r z | inr t ↦ s t ] ] ]
