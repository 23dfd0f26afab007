-- How entries are found, after a change.
use Rattle.std.proofs.Common.{◌≡◌, ℕ, true, false, cond, eqb, is_some, List, [], refl, sym, ap, ◌∙◌, subst, Option, Some, None, eq-eqb, eqb-true, option_map, nat_cmp}
use Rattle.std.proofs.lemmas.Cmp.{nat_cmp_total}
use Rattle.std.proofs.lemmas.Option.{same_Some}
use Rattle.std.specs.FinMap as fin
use Rattle.std.specs.FinMap.{FinMap, get-empty, get-insert, get-remove}
use Rattle.turn_history.proofs.Maps.{tuple_total}
use Rattle.turn_types.specs.Prelude.{tuple_cmp, same_tuple}
use Rattle.turn_history.specs.Prelude.{FiveTuple, has_port}
use Rattle.turn_history.proofs.Reading.{nat_same}
use Rattle.turn_history.proofs.Tests.{free_port_is, port_is_free}
use Rattle.turn_table.specs.Prelude.{Holdings, entries_of, IsIndexed, held_in, Held}
use Rattle.turn_table.proofs.Options.{is_false, is_true, mapped_cond, mapped_then, or_new, some_none}
use Rattle.turn_table.proofs.Tuples.{itself, same_tuple-is}
use Rattle.turn_table.proofs.Held.{Updated, entry_at, get-updated, of_entry}

abbrev pub port_of : Option Held → Option ℕ
port_of o = option_map (λ h. h.entry.port) o

module _ {find : FiveTuple → Option Held} {place : FiveTuple → Option ℕ} {holder : ℕ → Option FiveTuple} (ok : IsIndexed find place holder) where
  -- what is found, and where
  found_port : (f : FiveTuple) (port : ℕ) → place f ≡ Some port → (h : Held) × (find f ≡ Some h) × (h.entry.port ≡ port)
  found_port f port is = mapped_then (λ h. h.entry.port) (find f) port (sym (ok.placed f) ∙ is) (λ h at same. (h, at, same))

  pub holder-found : (f : FiveTuple) (port : ℕ) → holder port ≡ Some f → (h : Held) × (find f ≡ Some h) × (h.entry.port ≡ port)
  holder-found f port is = found_port f port (ok.holds f port is)

  pub port_at : (f : FiveTuple) (port : ℕ) (h : Held) → holder port ≡ Some f → find f ≡ Some h → h.entry.port ≡ port
  port_at f port h is there =
      let at = holder-found f port is in
      ap (λ k. k.entry.port) (same_Some h at.0 (sym there ∙ at.1)) ∙ at.2

  pub found-holder : (f : FiveTuple) (h : Held) → find f ≡ Some h → holder h.entry.port ≡ Some f
  found-holder f h is = ok.held f h.entry.port (ok.placed f ∙ ap port_of is)

  -- changes that leave each port
  pub indexed_ports : (find' : FiveTuple → Option Held) → ((q : FiveTuple) → port_of (find' q) ≡ port_of (find q)) → IsIndexed find' place holder
  indexed_ports find' same = record { placed = λ q. ok.placed q ∙ sym (same q); held = ok.held; holds = ok.holds }

-- an entry came to a five-tuple that had none, with a port that no other had, or it went
module _ (xs ys : List (FiveTuple × Held)) (order order' : FinMap tuple_cmp ℕ) (ports ports' : FinMap nat_cmp FiveTuple) (f : FiveTuple) (h : Held)
    (ok : IsIndexed (fin.get (held_in xs)) (fin.get order) (fin.get ports)) where
  pub inserted :
      fin.get (held_in xs) f ≡ None → ((q : FiveTuple) (k : Held) → fin.get (held_in xs) q ≡ Some k → k.entry.port ≡ h.entry.port → ⊥) →
      Updated xs f (Some h) ys →
      order' ≡ fin.insert order f h.entry.port → ports' ≡ fin.insert ports h.entry.port f →
      IsIndexed (fin.get (held_in ys)) (fin.get order') (fin.get ports')
  inserted absent free found orders are = record {
    placed = λ q.
        places q ∙ ap (cond (same_tuple q f) (Some h.entry.port)) (ok.placed q)
        ∙ sym (ap port_of (get-updated xs ys f (Some h) found q) ∙ mapped_cond (λ k. k.entry.port) (same_tuple q f) (Some h) (fin.get (held_in xs) q));
    held = λ q p is. or_new (λ r. fin.get ports' r ≡ Some q) (same_tuple q f) (Some h.entry.port) (fin.get order q) p (sym (places q) ∙ is)
        (λ same at. holds p ∙ ap (λ b. cond b (Some f) (fin.get ports p)) (eq-eqb p h.entry.port (sym (same_Some h.entry.port p at))) ∙ ap Some (sym (same_tuple-is q f same)))
        (λ other at. holds p ∙ ap (λ b. cond b (Some f) (fin.get ports p)) (is_false _ (λ same. let there = found_port ok q p at in free q there.0 there.1 (there.2 ∙ eqb-true p h.entry.port same))) ∙ ok.held q p at);
    holds = λ q p is. or_new (λ r. fin.get order' r ≡ Some p) (eqb p h.entry.port) (Some f) (fin.get ports p) q (sym (holds p) ∙ is)
        (λ same at. subst (λ k. fin.get order' k ≡ Some p) (same_Some f q at) (places f ∙ ap (λ b. cond b (Some h.entry.port) (fin.get order f)) (itself f) ∙ ap Some (sym (eqb-true p h.entry.port same))))
        (λ other at. places q ∙ ap (λ b. cond b (Some h.entry.port) (fin.get order q)) (is_false _ (λ same. some_none (ok.holds q p at) (ok.placed q ∙ ap port_of (ap (fin.get (held_in xs)) (same_tuple-is q f same) ∙ absent)))) ∙ ok.holds q p at);
  }
    where
      places : (q : FiveTuple) → fin.get order' q ≡ cond (same_tuple q f) (Some h.entry.port) (fin.get order q)
      places q = ap (λ m. fin.get m q) orders ∙ get-insert tuple_total order f h.entry.port q

      holds : (p : ℕ) → fin.get ports' p ≡ cond (eqb p h.entry.port) (Some f) (fin.get ports p)
      holds p = ap (λ m. fin.get m p) are ∙ get-insert nat_cmp_total ports h.entry.port f p ∙ ap (λ b. cond b (Some f) (fin.get ports p)) (nat_same p h.entry.port)

  pub removed :
      fin.get (held_in xs) f ≡ Some h →
      Updated xs f None ys →
      order' ≡ fin.remove order f → ports' ≡ fin.remove ports h.entry.port →
      IsIndexed (fin.get (held_in ys)) (fin.get order') (fin.get ports')
  removed there found orders are = record {
    placed = λ q.
        places q ∙ ap (cond (same_tuple q f) None) (ok.placed q)
        ∙ sym (ap port_of (get-updated xs ys f None found q) ∙ mapped_cond (λ k. k.entry.port) (same_tuple q f) None (fin.get (held_in xs) q));
    held = λ q p is. or_new (λ r. fin.get ports' r ≡ Some q) (same_tuple q f) None (fin.get order q) p (sym (places q) ∙ is) (λ same none. cc)
        (λ other at. holds p ∙ ap (λ b. cond b None (fin.get ports p)) (is_false _ (λ same.
        let one : q ≡ f = same_Some q f (sym (ok.held q p at) ∙ ap (fin.get ports) (eqb-true p h.entry.port same) ∙ found-holder ok f h there) in
        let no : true ≡ false = sym (itself f) ∙ ap (λ k. same_tuple k f) (sym one) ∙ other in cc)) ∙ ok.held q p at);
    holds = λ q p is. or_new (λ r. fin.get order' r ≡ Some p) (eqb p h.entry.port) None (fin.get ports p) q (sym (holds p) ∙ is) (λ same none. cc)
        (λ other at. places q ∙ ap (λ b. cond b None (fin.get order q)) (is_false _ (λ same.
        let one : h.entry.port ≡ p = same_Some h.entry.port p (sym (ok.placed q ∙ ap port_of (ap (fin.get (held_in xs)) (same_tuple-is q f same) ∙ there)) ∙ ok.holds q p at) in
        let no : true ≡ false = sym (eq-eqb p h.entry.port (sym one)) ∙ other in cc)) ∙ ok.holds q p at);
  }
    where
      places : (q : FiveTuple) → fin.get order' q ≡ cond (same_tuple q f) None (fin.get order q)
      places q = ap (λ m. fin.get m q) orders ∙ get-remove tuple_total order f q

      holds : (p : ℕ) → fin.get ports' p ≡ cond (eqb p h.entry.port) None (fin.get ports p)
      holds p = ap (λ m. fin.get m p) are ∙ get-remove nat_cmp_total ports h.entry.port p ∙ ap (λ b. cond b None (fin.get ports p)) (nat_same p h.entry.port)

pub indexed_empty : (xs : List (FiveTuple × Held)) (order : FinMap tuple_cmp ℕ) (ports : FinMap nat_cmp FiveTuple) → xs ≡ [] → order ≡ fin.empty → ports ≡ fin.empty → IsIndexed (fin.get (held_in xs)) (fin.get order) (fin.get ports)
indexed_empty xs order ports none orders are = record {
  placed = λ q. place q ∙ sym (ap port_of (ap (λ ys. fin.get (held_in ys) q) none ∙ get-empty tuple_cmp q));
  held = λ q p is. absurd (some_none is (place q));
  holds = λ q p is. absurd (some_none is (ap (λ m. fin.get m p) are ∙ get-empty nat_cmp p));
}
  where
    place : (q : FiveTuple) → fin.get order q ≡ None
    place q = ap (λ m. fin.get m q) orders ∙ get-empty tuple_cmp q

-- ---- Ports that no entry has

module _ (m : Holdings) (place : FiveTuple → Option ℕ) (holder : ℕ → Option FiveTuple) (ok : IsIndexed (fin.get m) place holder) where
  pub taken-is : (port : ℕ) → is_some (holder port) ≡ has_port (record { entries = entries_of m; reserved = fin.empty }) port
  taken-is port = by_holder (holder port) refl
    where
      by_holder : (o : Option FiveTuple) → holder port ≡ o → is_some o ≡ has_port (record { entries = entries_of m; reserved = fin.empty }) port
      by_holder None none = sym (free_port_is (record { entries = entries_of m; reserved = fin.empty }) port (λ f e is same.
          let at = of_entry m f e is in
          some_none (ap holder (sym (ap (λ x. x.port) at.2 ∙ same)) ∙ found-holder ok f at.0 at.1) none))
      by_holder (Some f) some = sym (is_true _ (λ free.
          let at = holder-found ok f port some in
          port_is_free (record { entries = entries_of m; reserved = fin.empty }) port free f at.0.entry (entry_at m f at.0 at.1) at.2))
