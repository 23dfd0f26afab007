-- The ports of a table, and those that have a socket.
use Rattle.std.proofs.Common.{◌≡◌, ℕ, Bool, true, false, cond, List, [], ◌∷◌, Option, Some, None, is_some, drop, get_or, length, refl, sym, ap, ◌∙◌, arith, subst, ◌+◌, ◌<◌, ◌||◌, ◌==◌, option_map}
use Rattle.std.specs.BTreeMap.{BTreeMap, get, is_at}
use Rattle.std.specs.Map.{lookup}
use Rattle.std.specs.FinMap as fin
use Rattle.std.specs.FinMap.{get-entries, nat_cmp-IsAntisymmetric}
use Rattle.std.specs.FinMap.Entries.{find}
use Rattle.std.specs.List.{list_any}
use Rattle.std.specs.Ordering.{eq_by_cmp, nat_cmp}
use Rattle.std.proofs.Math.Bool.{or-false, or-true}
use Rattle.std.proofs.lemmas.Bool.{and_from, eqb-false, eqb-true}
use Rattle.std.proofs.lemmas.Bool.Decides.{nat_tests}
use Rattle.std.proofs.lemmas.Cmp.{nat_cmp_total}
use Rattle.std.proofs.lemmas.List.{drop_more}
use Rattle.turn_history.proofs.Entries.{list_all-entries}
use Rattle.turn_history.proofs.Maps.{tuple_exact, tuple_total}
use Rattle.turn_history.proofs.Tests.{port_is_free}
use Rattle.turn_history.specs.Prelude.{has_port, is_taken, Contents, Entry, Endpoint, FiveTuple}
use Rattle.turn_history.specs.declared.reservation.Reservation.{Reservation}
use Rattle.turn_sockets.specs.Ports.{HaveSockets, IsBound}
use Rattle.turn_serving.specs.Starts.{AreBoundToo, have_ports}

module _ (c : Contents) where
  allocated : (f : FiveTuple) (e : Entry) → fin.get c.entries f ≡ Some e → is_taken c e.port ≡ true
  allocated f e is = by_test (has_port c e.port) refl
    where
      by_test : (b : Bool) → has_port c e.port ≡ b → is_taken c e.port ≡ true
      by_test true has = ap (λ b. b || is_some (fin.get c.reserved e.port)) has
      by_test false none = absurd (port_is_free c e.port none f e is refl)

  reserved : (q : ℕ) (r : Reservation) → fin.get c.reserved q ≡ Some r → is_taken c q ≡ true
  reserved q r is = ap (λ o. has_port c q || is_some o) is ∙ or-true (has_port c q)

module _ (test : ℕ → Bool) (c : Contents) where
  -- where the test is that of the table, each port of the table passes it
  pub all_pass : ((p : ℕ) → test p ≡ is_taken c p) → have_ports test c ≡ true
  all_pass same =
      and_from _ _ ((list_all-entries tuple_total tuple_exact (λ p. test p.1.port) c.entries).1 (λ f e is. same e.port ∙ allocated c f e is))
      ((list_all-entries nat_cmp_total nat_cmp-IsAntisymmetric (λ p. test p.0) c.reserved).1 (λ q r is. same q ∙ reserved c q r is))

-- ---- Sockets that were bound

pub found_one : {S T : Type 0} (view : S → T) (found : Option S) (r : Option T) → option_map view found ≡ r → is_some found ≡ true → is_some r ≡ true
found_one view (Some s) r is has = sym (ap is_some is)
found_one view None r is has = let none : false ≡ true = has in cc

module _ (old mid : BTreeMap ℕ Endpoint) (port : ℕ) (same : mid.entries ≡ old.entries) where
  unchanged : (p : ℕ) → is_some (get nat_cmp mid p) ≡ is_some (get nat_cmp old p) || false
  unchanged p = ap (λ es. is_some (lookup (is_at (nat_cmp p)) es)) same ∙ sym (or-false _)

  -- a port that has a socket already
  pub bound_already : is_some (get nat_cmp mid port) ≡ true → AreBoundToo old mid (λ p. port == p)
  bound_already has p = by_test (port == p) refl
    where
      by_test : (b : Bool) → (port == p) ≡ b → is_some (get nat_cmp mid p) ≡ is_some (get nat_cmp old p) || b
      by_test true is = ap (λ q. is_some (get nat_cmp mid q)) (sym (eqb-true port p is)) ∙ has ∙ sym (or-true _)
      by_test false other = unchanged p

  -- one that was bound
  pub bound_now : {ip : ℕ} (new : BTreeMap ℕ Endpoint) → IsBound ip mid new port → AreBoundToo old new (λ p. port == p)
  bound_now new bound p = by_test (port == p) refl
    where
      by_test : (b : Bool) → (port == p) ≡ b → is_some (get nat_cmp new p) ≡ is_some (get nat_cmp old p) || b
      by_test true is = ap (λ q. is_some (get nat_cmp new q)) (sym (eqb-true port p is)) ∙ ap is_some bound.1.1 ∙ sym (or-true _)
      by_test false other = ap is_some (bound.2 p (λ is. eqb-false port p other (sym is))) ∙ unchanged p

-- a loop that binds the port of each of a list
module _ {X : Type 0} (port_of : X → ℕ) where
  abbrev pub with_port : List X → ℕ → Bool
  with_port xs p = list_any (λ x. port_of x == p) xs

  -- those that are bound, and those that are left, are all
  abbrev pub IsBinding : BTreeMap ℕ Endpoint → BTreeMap ℕ Endpoint → List X → List X → Type 0
  IsBinding old new left xs = (p : ℕ) → is_some (get nat_cmp new p) || with_port left p ≡ is_some (get nat_cmp old p) || with_port xs p

  pub bound_one_more : (old mid new : BTreeMap ℕ Endpoint) (x : X) (left xs : List X) → IsBinding old mid (x ∷ left) xs → AreBoundToo mid new (λ p. port_of x == p) → IsBinding old new left xs
  bound_one_more old mid new x left xs binding bound p = ap (λ b. b || with_port left p) (bound p) ∙ or_assoc (is_some (get nat_cmp mid p)) (port_of x == p) (with_port left p) ∙ binding p
    where
      or_assoc : (a b c : Bool) → (a || b) || c ≡ a || (b || c)
      or_assoc true b c = refl
      or_assoc false b c = refl

  -- of a slice, whatever stands past its end
  pub bound_next : (old mid new : BTreeMap ℕ Endpoint) (xs : List X) (place : ℕ) (past : X) → place < length xs → IsBinding old mid (drop place xs) xs → AreBoundToo mid new (λ p. port_of (get_or xs place past) == p)
      → IsBinding old new (drop (place + 1) xs) xs
  bound_next old mid new xs place past lt binding =
      bound_one_more old mid new (get_or xs place past) (drop (place + 1) xs) xs (subst (λ l. IsBinding old mid l xs) (drop_more xs place past lt) binding)

  pub bound_all : (old new : BTreeMap ℕ Endpoint) (left xs : List X) → left ≡ [] → IsBinding old new left xs → AreBoundToo old new (with_port xs)
  bound_all old new left xs none binding p = sym (or-false _) ∙ ap (λ l. is_some (get nat_cmp new p) || with_port l p) (sym none) ∙ binding p

-- a reserved port is one of a table's list
found_any : {X : Type 0} (p : ℕ) (xs : List (ℕ × X)) → list_any (λ s. s.0 == p) xs ≡ is_some (find nat_cmp p xs)
found_any p [] = refl
found_any p (x ∷ xs) = by_test (x.0 == p) (grind (arith, nat_tests)) (found_any p xs)
  where
    by_test : (b : Bool) → eq_by_cmp nat_cmp p x.0 ≡ b → list_any (λ s. s.0 == p) xs ≡ is_some (find nat_cmp p xs)
        → b || list_any (λ s. s.0 == p) xs ≡ is_some (cond (eq_by_cmp nat_cmp p x.0) (Some x.1) (find nat_cmp p xs))
    by_test true is rest = ap (λ b. is_some (cond b (Some x.1) (find nat_cmp p xs))) (sym is)
    by_test false is rest = rest ∙ ap (λ b. is_some (cond b (Some x.1) (find nat_cmp p xs))) (sym is)

-- where the ports of a table's allocations were bound, and then those that it reserves, these have sockets and no other
pub have_sockets : (c : Contents) (none mid all : BTreeMap ℕ Endpoint) → none.entries ≡ [] → AreBoundToo none mid (has_port c) → AreBoundToo mid all (λ p. list_any (λ s. s.0 == p) (fin.entries c.reserved))
    → HaveSockets all (is_taken c)
have_sockets c none mid all empty allocations reservations p =
    let nothing : is_some (get nat_cmp none p) ≡ false = ap (λ es. is_some (lookup (is_at (nat_cmp p)) es)) empty in
    reservations p ∙ ap (λ b. b || list_any (λ s. s.0 == p) (fin.entries c.reserved)) (allocations p ∙ ap (λ b. b || has_port c p) nothing)
    ∙ ap (λ b. has_port c p || b) (found_any p (fin.entries c.reserved) ∙ sym (ap is_some (get-entries c.reserved p)))
