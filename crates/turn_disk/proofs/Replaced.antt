-- Bytes put in place of others.
use Rattle.std.proofs.Common.{◌≡◌, ℕ, ◌+◌, ◌≤◌, ◌<◌, List, ◌++◌, length, take, drop, get_or, sym, ◌∙◌, ap, arith}
use Rattle.std.proofs.lemmas.List.{places, length-take, length-drop, length-append, take_at, drop_at, take-append-drop, drop-drop, append_assoc}
use Rattle.turn_disk.specs.Prelude.{ChangesOnly, replaced_at}

module _ (at : ℕ) (bytes content : List ℕ) (fits : at + length bytes ≤ length content) where
  size_front : length (take at content) ≡ at
  size_front = omega (arith, length-take at content)

  pub size_is : length (replaced_at at bytes content) ≡ length content
  size_is = omega (arith, length-append (take at content ++ bytes) (drop (at + length bytes) content), length-append (take at content) bytes, size_front, length-drop (at + length bytes) content)

  pub front_is : (i : ℕ) → i < at → get_or (replaced_at at bytes content) i 0 ≡ get_or content i 0
  front_is i below = grind (arith, places, length-take, length-drop, length-append)

  pub middle_is : (i : ℕ) → i < length bytes → get_or (replaced_at at bytes content) (at + i) 0 ≡ get_or bytes i 0
  middle_is i below = grind (arith, places, length-take, length-drop, length-append)

  pub back_is : (i : ℕ) → at + length bytes ≤ i → get_or (replaced_at at bytes content) i 0 ≡ get_or content i 0
  back_is i above = grind (arith, places, length-take, length-drop, length-append)

  -- what was replaced goes back to its place
  pub undone : (old : List ℕ) → old ≡ take (length bytes) (drop at content) → replaced_at at old (replaced_at at bytes content) ≡ content
  undone old is =
      let tail = drop (at + length bytes) content in
      let long : length old ≡ length bytes = omega (arith, ap length is, length-take (length bytes) (drop at content), length-drop at content) in
      let front : take at (replaced_at at bytes content) ≡ take at content =
      ap (λ (l : List ℕ). take at l) (append_assoc (take at content) bytes tail) ∙ take_at (take at content) (bytes ++ tail) at size_front in
      let back : drop (at + length old) (replaced_at at bytes content) ≡ tail =
      drop_at (take at content ++ bytes) tail (at + length old) (omega (arith, length-append (take at content) bytes, size_front, long)) in
      let cut : tail ≡ drop (length bytes) (drop at content) = sym (drop-drop (length bytes) at content) in
      ap (λ (l : List ℕ). l ++ old ++ drop (at + length old) (replaced_at at bytes content)) front
      ∙ ap (λ (l : List ℕ). take at content ++ old ++ l) (back ∙ cut)
      ∙ ap (λ (l : List ℕ). take at content ++ l ++ drop (length bytes) (drop at content)) is
      ∙ append_assoc (take at content) (take (length bytes) (drop at content)) (drop (length bytes) (drop at content))
      ∙ ap (λ (l : List ℕ). take at content ++ l) (take-append-drop (length bytes) (drop at content))
      ∙ take-append-drop at content

  pub changes : ChangesOnly at (length bytes) content (replaced_at at bytes content)
  changes = record { size = size_is; before = front_is; after = back_is }

module _ (at : ℕ) (bytes content : List ℕ) (fits : at + length bytes ≤ length content) where
  here : length (take at content) ≡ at
  here = omega (arith, length-take at content)

  -- what is before the bytes, the bytes, and what is after them
  pub take_front : take at (replaced_at at bytes content) ≡ take at content
  take_front = ap (λ (l : List ℕ). take at l) (append_assoc (take at content) bytes _) ∙ take_at (take at content) _ at here

  pub drop_front : drop at (replaced_at at bytes content) ≡ bytes ++ drop (at + length bytes) content
  drop_front = ap (λ (l : List ℕ). drop at l) (append_assoc (take at content) bytes _) ∙ drop_at (take at content) _ at here

  pub drop_back : drop (at + length bytes) (replaced_at at bytes content) ≡ drop (at + length bytes) content
  drop_back = drop_at (take at content ++ bytes) _ (at + length bytes) (omega (arith, length-append (take at content) bytes, here))
