-- The end of a list of entries.
use Rattle.std.proofs.Common.{◌≡◌, ℕ, ◌<◌, ◌-◌, T, List, [], ◌∷◌, ◌++◌, length, refl, sym, ap, ◌∙◌, subst, arith, slice_get, IfSome, Option, Ordering, Less, Greater}
use Rattle.std.proofs.lemmas.Cmp.{nat_cmp_total}
use Rattle.std.proofs.lemmas.Option.{IfSome_then}
use Rattle.std.specs.Ordering.{nat_cmp, ordering_reverse}
use Rattle.std.specs.Cmp.{IsTotalOrder, nat_cmp_is, ranked}
use Rattle.std.specs.List.{AllByRecursion}
use Rattle.std.specs.FinMap as fin
use Rattle.std.specs.FinMap.{is_sorted, entries_sorted, entries-insert, nat_cmp-IsAntisymmetric}
use Rattle.std.specs.FinMap.Entries.{put, by_order}
use Rattle.turn_history.proofs.Entries.{first, second, less, all_entries, of_entries}
use Rattle.turn_history.proofs.Maps.{tuple_total, tuple_exact}
use Rattle.turn_types.specs.Prelude.{tuple_cmp}
use Rattle.turn_history.specs.Prelude.{Entry, Contents, FiveTuple}
use Rattle.turn_history.specs.declared.reservation.Reservation.{Reservation}
use Rattle.turn_table.specs.Prelude.{IsAbove, IsAboveLast, IsAboveLastReserved, IsAboveReserved}

module _ {K X : Type 0} {R : K → K → Ordering} (o : IsTotalOrder R) where
  below_from : (f : K) (x : K × X) (xs : List (K × X)) → T (is_sorted R (x ∷ xs)) → IfSome (slice_get (x ∷ xs) (length xs)) (λ y. R y.0 f ≡ Less) → AllByRecursion (λ y. R y.0 f ≡ Less) (x ∷ xs)
  below_from f x [] s h = (h, tt)
  below_from f x (y ∷ ys) s h =
      let rest = below_from f y ys (second _ _ s) h in
      (o.trans x.0 y.0 f (less _ (first _ _ (first _ _ s))) rest.0, rest)

  -- where the last key is below another, all are
  pub below_last : (f : K) (xs : List (K × X)) → T (is_sorted R xs) → IfSome (slice_get xs (length xs - 1)) (λ y. R y.0 f ≡ Less) → AllByRecursion (λ y. R y.0 f ≡ Less) xs
  below_last f [] s h = tt
  below_last f (x ∷ xs) s h =
      let place : length (x ∷ xs) - 1 ≡ length xs = omega arith in
      below_from f x xs s (subst (λ n. IfSome (slice_get (x ∷ xs) n) (λ y. R y.0 f ≡ Less)) place h)

  -- a key above all comes last
  pub put-end : (f : K) (v : X) (xs : List (K × X)) → AllByRecursion (λ y. R y.0 f ≡ Less) xs → put R f v xs ≡ xs ++ (f, v) ∷ []
  put-end f v [] h = refl
  put-end f v (x ∷ xs) h =
      let above : R f x.0 ≡ Greater = o.antisymm f x.0 ∙ ap ordering_reverse h.0 in
      ap (λ r. by_order r ((f, v) ∷ x ∷ xs) ((x.0, v) ∷ xs) (x ∷ put R f v xs)) above ∙ ap (λ ys. x ∷ ys) (put-end f v xs h.1)

-- ---- The contents of a table

weaker_last : (port : ℕ) (o : Option (ℕ × Reservation)) → IfSome o (λ p. p.0 < port) → IfSome o (λ p. nat_cmp p.0 port ≡ Less)
weaker_last port o some = IfSome_then o some (λ p lt. sym (nat_cmp_is p.0 port Less lt))

pub above_all_reserved : (c : Contents) (port : ℕ) → IsAboveLastReserved c port → IsAboveReserved c port
above_all_reserved c port last q r is =
    ranked q port Less (sym (of_entries nat_cmp_total nat_cmp-IsAntisymmetric (λ p. nat_cmp p.0 port ≡ Less) c.reserved
    (below_last nat_cmp_total port (fin.entries c.reserved) (entries_sorted c.reserved) (weaker_last port (slice_get (fin.entries c.reserved) (length (fin.entries c.reserved) - 1)) last)) q r is))

pub above_all : (c : Contents) (f : FiveTuple) → IsAboveLast c f → IsAbove c f
above_all c f last g e is =
    of_entries tuple_total tuple_exact (λ p. tuple_cmp p.0 f ≡ Less) c.entries
    (below_last tuple_total f (fin.entries c.entries) (entries_sorted c.entries) last) g e is

-- a port above all comes last
pub ports-above : (c : Contents) (port : ℕ) (r : Reservation) → IsAboveReserved c port → fin.entries (fin.insert c.reserved port r) ≡ fin.entries c.reserved ++ (port, r) ∷ []
ports-above c port r above =
    entries-insert nat_cmp_total c.reserved port r
    ∙ put-end nat_cmp_total port r (fin.entries c.reserved)
    (all_entries nat_cmp_total nat_cmp-IsAntisymmetric (λ p. nat_cmp p.0 port ≡ Less) c.reserved (λ q v is. sym (nat_cmp_is q port Less (above q v is))))

pub entries-above : (c : Contents) (f : FiveTuple) (e : Entry) → IsAbove c f → fin.entries (fin.insert c.entries f e) ≡ fin.entries c.entries ++ (f, e) ∷ []
entries-above c f e above =
    entries-insert tuple_total c.entries f e ∙ put-end tuple_total f e (fin.entries c.entries) (all_entries tuple_total tuple_exact (λ p. tuple_cmp p.0 f ≡ Less) c.entries above)
