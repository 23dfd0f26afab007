-- The counts of the entries of a tree of keys.
use Rattle.std.proofs.Common.{◌≡◌, ℕ, Bool, true, cond, List, [], ◌∷◌, Some, refl, sym, ap, ◌∙◌, arith, Vec, Ordering, Less, Equal, Greater}
use Rattle.std.specs.Map.{lookup}
use Rattle.std.specs.BTreeMap.{is_at, insert_entry}
use Rattle.std.specs.Ordering.{nat_cmp, eq_by_cmp, match_ordering}
use Rattle.std.specs.Cmp.Lexicographic.{slice_cmp, nat_list_cmp_total}
use Rattle.std.specs.FinMap.{get, insert, get-empty, get-insert, same_map, nat_cmp-IsAntisymmetric, slice_cmp-IsAntisymmetric}
use Rattle.turn_cred.proofs.KeyMaps.{tied}
use Rattle.turn_log.specs.Tallies.{tallied}

-- what a look-up by bytes finds
pub lookup-tallied : {A : Type 0} (q : List ℕ) (es : List (Vec ℕ A × ℕ)) → lookup (is_at (λ k. slice_cmp nat_cmp q k.items)) es ≡ get (tallied es) q
lookup-tallied q [] = sym (get-empty (slice_cmp nat_cmp) q)
lookup-tallied q (e ∷ es) =
    ap (cond (eq_by_cmp (slice_cmp nat_cmp) q e.0.items) (Some e.1)) (lookup-tallied q es) ∙ sym (get-insert nat_list_cmp_total (tallied es) e.0.items e.1 q)

shadowed : {X : Type 0} (b : Bool) (x y z : X) → cond b x z ≡ cond b x (cond b y z)
shadowed b x y z = grind arith

swapped : {X : Type 0} (a b : Bool) (x y z : X) → (a ≡ true → b ≡ true → ⊥) → cond a x (cond b y z) ≡ cond b y (cond a x z)
swapped a b x y z apart = grind arith

-- no bytes are both of two keys that differ
apart : (q x k : List ℕ) → slice_cmp nat_cmp k x ≡ Greater → eq_by_cmp (slice_cmp nat_cmp) q x ≡ true → eq_by_cmp (slice_cmp nat_cmp) q k ≡ true → ⊥
apart q x k greater here there =
    let at_k = tied (slice_cmp nat_cmp q k) there in
    let below : slice_cmp nat_cmp q x ≡ Greater = nat_list_cmp_total.congr q k x at_k ∙ greater in
    let at_x = tied (slice_cmp nat_cmp q x) here in
    absurd cc

-- what a look-up by bytes finds after an insertion
looked_up : {A : Type 0} (q : List ℕ) (es : List (Vec ℕ A × ℕ)) (k : Vec ℕ A) (v : ℕ)
    → lookup (is_at (λ k. slice_cmp nat_cmp q k.items)) (insert_entry (λ x y. slice_cmp nat_cmp x.items y.items) es k v)
    ≡ cond (eq_by_cmp (slice_cmp nat_cmp) q k.items) (Some v) (lookup (is_at (λ k. slice_cmp nat_cmp q k.items)) es)
looked_up q [] k v = refl
looked_up {A} q (e ∷ es) k v = by_order (slice_cmp nat_cmp k.items e.0.items) refl (looked_up q es k v)
  where
    by_order : (r : Ordering) → slice_cmp nat_cmp k.items e.0.items ≡ r
        → lookup (is_at (λ k. slice_cmp nat_cmp q k.items)) (insert_entry (λ x y. slice_cmp nat_cmp x.items y.items) es k v)
        ≡ cond (eq_by_cmp (slice_cmp nat_cmp) q k.items) (Some v) (lookup (is_at (λ k. slice_cmp nat_cmp q k.items)) es)
        → lookup (is_at (λ (k : Vec ℕ A). slice_cmp nat_cmp q k.items)) (match_ordering r ((k, v) ∷ e ∷ es) ((e.0, v) ∷ es) (e ∷ insert_entry (λ x y. slice_cmp nat_cmp x.items y.items) es k v))
        ≡ cond (eq_by_cmp (slice_cmp nat_cmp) q k.items) (Some v) (lookup (is_at (λ k. slice_cmp nat_cmp q k.items)) (e ∷ es))
    by_order Less is rest = refl
    by_order Equal is rest =
        let one = slice_cmp-IsAntisymmetric nat_cmp-IsAntisymmetric k.items e.0.items is in
        let rest_of = lookup (is_at (λ (k : Vec ℕ A). slice_cmp nat_cmp q k.items)) es in
        ap (λ (x : List ℕ). cond (eq_by_cmp (slice_cmp nat_cmp) q x) (Some v) rest_of) (sym one)
        ∙ shadowed (eq_by_cmp (slice_cmp nat_cmp) q k.items) (Some v) (Some e.1) rest_of
        ∙ ap (λ (x : List ℕ). cond (eq_by_cmp (slice_cmp nat_cmp) q k.items) (Some v) (cond (eq_by_cmp (slice_cmp nat_cmp) q x) (Some e.1) rest_of)) one
    by_order Greater is rest =
        ap (cond (eq_by_cmp (slice_cmp nat_cmp) q e.0.items) (Some e.1)) rest
        ∙ swapped (eq_by_cmp (slice_cmp nat_cmp) q e.0.items) (eq_by_cmp (slice_cmp nat_cmp) q k.items) (Some e.1) (Some v) _ (apart q e.0.items k.items is)

-- an insertion into the tree is one into the counts
pub tallied-insert_entry : {A : Type 0} (es : List (Vec ℕ A × ℕ)) (k : Vec ℕ A) (v : ℕ)
    → tallied (insert_entry (λ x y. slice_cmp nat_cmp x.items y.items) es k v) ≡ insert (tallied es) k.items v
tallied-insert_entry es k v = same_map nat_list_cmp_total (slice_cmp-IsAntisymmetric nat_cmp-IsAntisymmetric) _ _ (λ q.
    sym (lookup-tallied q (insert_entry (λ x y. slice_cmp nat_cmp x.items y.items) es k v)) ∙ looked_up q es k v
    ∙ ap (cond (eq_by_cmp (slice_cmp nat_cmp) q k.items) (Some v)) (lookup-tallied q es) ∙ sym (get-insert nat_list_cmp_total (tallied es) k.items v q))
