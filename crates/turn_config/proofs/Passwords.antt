-- The passwords of a tree of names.
use Rattle.std.proofs.Common.{◌≡◌, ℕ, Bool, true, false, cond, List, [], ◌∷◌, Option, Some, None, refl, sym, ap, ◌∙◌, ◌&&◌, Vec, map, is_some, not, Ordering, Less, Equal, Greater}
use Rattle.std.specs.BTreeMap.{is_at, insert_entry}
use Rattle.std.specs.Cmp.Lexicographic.{slice_cmp}
use Rattle.std.specs.FinMap as maps
use Rattle.std.specs.Map.{lookup}
use Rattle.std.specs.Ordering.{nat_cmp, match_ordering}
use denote.Bor.{Bor}
use Rattle.turn_cred.proofs.KeyMaps.{lookup-key_map, key_map-insert_entry}
use Rattle.turn_cred.specs.Prelude.{key_map}
use Rattle.turn_config.specs.Lines.{passwords_of}

is_some_cond : {X Y : Type 0} (b : Bool) (x : X) (y : Y) (m : Option X) (n : Option Y) → is_some m ≡ is_some n
    → is_some (cond b (Some x) m) ≡ is_some (cond b (Some y) n)
is_some_cond true x y m n e = refl
is_some_cond false x y m n e = e

is_found : {A : Type 0} (test : Vec ℕ A → Bool) (es : List (Vec ℕ A × Bor (List ℕ)))
    → is_some (lookup test es) ≡ is_some (lookup test (map (λ e. (e.0, e.1.now)) es))
is_found test [] = refl
is_found test (e ∷ es) = is_some_cond (test e.0) e.1 e.1.now _ _ (is_found test es)

-- whether the tree has a name
pub has_password : {A : Type 0} (q : List ℕ) (es : List (Vec ℕ A × Bor (List ℕ)))
    → is_some (lookup (is_at (λ k. slice_cmp nat_cmp q k.items)) es) ≡ is_some (maps.get (passwords_of es) q)
has_password q es = is_found _ es ∙ ap (λ x. is_some x) (lookup-key_map q (map (λ e. (e.0, e.1.now)) es))

inserted : {A : Type 0} (es : List (Vec ℕ A × Bor (List ℕ))) (k : Vec ℕ A) (v : Bor (List ℕ))
    → map (λ e. (e.0, e.1.now)) (insert_entry (λ x y. slice_cmp nat_cmp x.items y.items) es k v)
    ≡ insert_entry (λ x y. slice_cmp nat_cmp x.items y.items) (map (λ e. (e.0, e.1.now)) es) k v.now
inserted [] k v = refl
inserted (e ∷ es) k v = by_order (slice_cmp nat_cmp k.items e.0.items) (inserted es k v)
  where
    by_order : (r : Ordering)
        → map (λ e. (e.0, e.1.now)) (insert_entry (λ x y. slice_cmp nat_cmp x.items y.items) es k v)
        ≡ insert_entry (λ x y. slice_cmp nat_cmp x.items y.items) (map (λ e. (e.0, e.1.now)) es) k v.now
        → map (λ e. (e.0, e.1.now)) (match_ordering r ((k, v) ∷ e ∷ es) ((e.0, v) ∷ es) (e ∷ insert_entry (λ x y. slice_cmp nat_cmp x.items y.items) es k v))
        ≡ match_ordering r ((k, v.now) ∷ (e.0, e.1.now) ∷ map (λ e. (e.0, e.1.now)) es) ((e.0, v.now) ∷ map (λ e. (e.0, e.1.now)) es)
        ((e.0, e.1.now) ∷ insert_entry (λ x y. slice_cmp nat_cmp x.items y.items) (map (λ e. (e.0, e.1.now)) es) k v.now)
    by_order Less rest = refl
    by_order Equal rest = refl
    by_order Greater rest = ap (λ l. (e.0, e.1.now) ∷ l) rest

-- an insertion into the tree
pub adds_password : {A : Type 0} (es : List (Vec ℕ A × Bor (List ℕ))) (k : Vec ℕ A) (v : Bor (List ℕ))
    → passwords_of (insert_entry (λ x y. slice_cmp nat_cmp x.items y.items) es k v) ≡ maps.insert (passwords_of es) k.items v.now
adds_password es k v = ap key_map (inserted es k v) ∙ key_map-insert_entry (map (λ e. (e.0, e.1.now)) es) k v.now

none_of : {T : Type 0} (x : Option T) → is_some x ≡ false → x ≡ None
none_of None e = refl
none_of (Some x) e = absurd cc

pub is_new : {A : Type 0} (q : List ℕ) (es : List (Vec ℕ A × Bor (List ℕ)))
    → is_some (lookup (is_at (λ k. slice_cmp nat_cmp q k.items)) es) ≡ false → maps.get (passwords_of es) q ≡ None
is_new q es e = none_of _ (sym (has_password q es) ∙ e)

-- the conjunction of two tests, of which the second is made where the first holds
pub both_tests : (own found fits : Bool) → own ≡ found → own ≡ false → fits ≡ (not found && fits)
both_tests own true fits e n = absurd cc
both_tests own false fits e n = refl

pub first_fails : (own found fits : Bool) → own ≡ found → own ≡ true → not own ≡ (not found && fits)
first_fails own true fits e n = rw n refl
first_fails own false fits e n = absurd cc
