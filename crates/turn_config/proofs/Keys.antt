-- The keys that are made of the passwords, one name after the other.
use Rattle.std.proofs.Common.{◌≡◌, ℕ, Bool, true, false, cond, List, [], ◌∷◌, ◌++◌, Option, Some, None, refl, sym, ap, ◌∙◌, Vec, map, option_map, Ordering, Less, Equal, Greater}
use Rattle.std.proofs.lemmas.Map.Keys.{sorted_head, sorted_tail}
use Rattle.std.specs.Cmp.Lexicographic.{slice_cmp, nat_list_cmp_total}
use Rattle.std.specs.FinMap as maps
use Rattle.std.specs.FinMap.{find, from_entries, get-empty, get-insert, from_entries_push, nat_cmp-IsAntisymmetric, slice_cmp-IsAntisymmetric}
use Rattle.std.specs.List.{AllByRecursion}
use Rattle.std.specs.List.Sorted.{IsStrictlySortedBy}
use Rattle.std.specs.Map.{keys_of}
use Rattle.std.specs.Map.Iter.{deref_pair}
use Rattle.std.specs.Ordering.{nat_cmp, is_eq, eq_by_cmp, ordering_reverse}
use denote.Bor.{Bor}
use Rattle.turn_cred.specs.Prelude.{KeyMap}
use Rattle.turn_mac.specs.Hmac.{auth_key}
use Rattle.turn_config.specs.Lines.{AreUsers, passwords_of}

-- names and passwords of the entries of a tree
shown : {A : Type 0} → List (Vec ℕ A × Bor (List ℕ)) → List (List ℕ × List ℕ)
shown {A} es = map {A = Vec ℕ A × List ℕ} (λ e. (e.0.items, e.1)) (map (λ e. (e.0, e.1.now)) es)

shown-push : {A : Type 0} (es : List (Vec ℕ A × Bor (List ℕ))) (k : Vec ℕ A) (v : Bor (List ℕ)) → shown (es ++ (k, v) ∷ []) ≡ shown es ++ (k.items, v.now) ∷ []
unfolding shown
shown-push [] k v = refl
shown-push (e ∷ es) k v = ap (λ l. (e.0.items, e.1.now) ∷ l) (shown-push es k v)

at_later : {X : Type 0} (P : X → Type 0) (xs ys : List X) (y : X) → AllByRecursion P (xs ++ y ∷ ys) → P y
at_later P [] ys y h = h.0
at_later P (x ∷ xs) ys y h = at_later P xs ys y h.1

keys-append : {K X : Type 0} (es fs : List (K × X)) → keys_of (es ++ fs) ≡ keys_of es ++ keys_of fs
keys-append [] fs = refl
keys-append (e ∷ es) fs = ap (λ l. e.0 ∷ l) (keys-append es fs)

tied : (r : Ordering) → is_eq r ≡ true → r ≡ Equal
tied Less e = absurd cc
tied Equal e = refl
tied Greater e = absurd cc

-- a name is not one before it
other_name : (x k : List ℕ) → slice_cmp nat_cmp x k ≡ Less → (b : Bool) → eq_by_cmp (slice_cmp nat_cmp) k x ≡ b → b ≡ false
other_name x k less false e = refl
other_name x k less true e =
    let back : slice_cmp nat_cmp x k ≡ Equal = nat_list_cmp_total.antisymm x k ∙ ap (λ (r : Ordering). ordering_reverse r) (tied (slice_cmp nat_cmp k x) e) in
    absurd cc

-- there is no password so far of a name that comes later in the tree
none_so_far : {A : Type 0} (es rest : List (Vec ℕ A × Bor (List ℕ))) (k : Vec ℕ A) (v : Bor (List ℕ))
    → IsStrictlySortedBy (λ x y. slice_cmp nat_cmp x.items y.items) (keys_of es ++ k ∷ keys_of rest)
    → find (slice_cmp nat_cmp) k.items (shown es) ≡ None
unfolding shown
none_so_far [] rest k v sorted = refl
none_so_far (e ∷ es) rest k v sorted =
    let here : AllByRecursion (λ y. slice_cmp nat_cmp e.0.items y.items ≡ Less) (keys_of es ++ k ∷ keys_of rest) = sorted_head _ e.0 _ sorted in
    let less : slice_cmp nat_cmp e.0.items k.items ≡ Less = at_later (λ y. slice_cmp nat_cmp e.0.items y.items ≡ Less) (keys_of es) (keys_of rest) k here in
    ap (λ (b : Bool). cond b (Some e.1.now) (find (slice_cmp nat_cmp) k.items (shown es))) (other_name e.0.items k.items less _ refl)
    ∙ none_so_far es rest k v (sorted_tail _ e.0 _ sorted)

option_at : (b : Bool) (q k realm v : List ℕ) (users : Option (List ℕ)) (found : Option (List ℕ)) → (b ≡ true → q ≡ k)
    → users ≡ option_map (λ password. auth_key q realm password) found
    → cond b (Some (auth_key k realm v)) users ≡ option_map (λ password. auth_key q realm password) (cond b (Some v) found)
option_at true q k realm v users found same is = ap (λ (n : List ℕ). Some (auth_key n realm v)) (sym (same refl))
option_at false q k realm v users found same is = is

-- one more user, whose name comes later in the tree
pub adds_user : {A : Type 0} (es rest : List (Vec ℕ A × Bor (List ℕ))) (k : Vec ℕ A) (v : Bor (List ℕ)) (realm : List ℕ) (users : KeyMap)
    → IsStrictlySortedBy (λ x y. slice_cmp nat_cmp x.items y.items) (keys_of (es ++ (k, v) ∷ rest))
    → AreUsers (passwords_of es) realm users
    → AreUsers (passwords_of (es ++ (k, v) ∷ [])) realm (maps.insert users k.items (auth_key k.items realm v.now))
unfolding shown
adds_user es rest k v realm users sorted are = λ q.
    let none : find (slice_cmp nat_cmp) k.items (shown es) ≡ None = none_so_far es rest k v (rw keys-append at sorted) in
    let added : passwords_of (es ++ (k, v) ∷ []) ≡ maps.insert (passwords_of es) k.items v.now =
    ap (λ (l : List (List ℕ × List ℕ)). from_entries {R = slice_cmp nat_cmp} l) (shown-push es k v)
    ∙ from_entries_push nat_list_cmp_total (slice_cmp-IsAntisymmetric nat_cmp-IsAntisymmetric) (shown es) k.items v.now none in
    let same = λ (e : eq_by_cmp (slice_cmp nat_cmp) q k.items ≡ true). slice_cmp-IsAntisymmetric nat_cmp-IsAntisymmetric q k.items (tied _ e) in
    get-insert nat_list_cmp_total users k.items (auth_key k.items realm v.now) q
    ∙ option_at (eq_by_cmp (slice_cmp nat_cmp) q k.items) q k.items realm v.now (maps.get users q) (maps.get (passwords_of es) q) same (are q)
    ∙ ap (λ (o : Option (List ℕ)). option_map (λ password. auth_key q realm password) o)
    (sym (ap (λ (m : KeyMap). maps.get m q) added ∙ get-insert nat_list_cmp_total (passwords_of es) k.items v.now q))

pub no_user : (realm : List ℕ) (users : KeyMap) → users ≡ maps.empty → AreUsers maps.empty realm users
no_user realm users is = λ q.
    ap (λ (m : KeyMap). maps.get m q) is ∙ get-empty (slice_cmp nat_cmp) q
    ∙ sym (ap (λ (o : Option (List ℕ)). option_map (λ password. auth_key q realm password) o) (get-empty (slice_cmp nat_cmp) q))

deref_pair-push : {A : Type 0} (xs : List (Bor (Vec ℕ A) × Bor (Bor (List ℕ)))) (x : Bor (Vec ℕ A) × Bor (Bor (List ℕ)))
    → map deref_pair (xs ++ x ∷ []) ≡ map deref_pair xs ++ deref_pair x ∷ []
deref_pair-push [] x = refl
deref_pair-push (y ∷ xs) x = ap (λ l. deref_pair y ∷ l) (deref_pair-push xs x)

-- the user of the next entry of a tree
pub adds_next : {A : Type 0} (xs : List (Bor (Vec ℕ A) × Bor (Bor (List ℕ)))) (x : Bor (Vec ℕ A) × Bor (Bor (List ℕ))) (entries rest : List (Vec ℕ A × Bor (List ℕ))) (realm : List ℕ) (users new : KeyMap)
    → IsStrictlySortedBy (λ x y. slice_cmp nat_cmp x.items y.items) (keys_of entries)
    → entries ≡ map deref_pair xs ++ deref_pair x ∷ rest
    → new ≡ maps.insert users x.0.now.items (auth_key x.0.now.items realm x.1.now.now)
    → AreUsers (passwords_of (map deref_pair xs)) realm users
    → AreUsers (passwords_of (map deref_pair (xs ++ x ∷ []))) realm new
adds_next xs x entries rest realm users new sorted split is are =
    rw (deref_pair-push xs x, is) (adds_user (map deref_pair xs) rest x.0.now x.1.now realm users (rw split at sorted) are)
