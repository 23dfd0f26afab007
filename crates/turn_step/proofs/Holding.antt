-- Which ports a table has, as it changes, and which a generator holds then.
use Rattle.std.proofs.Common.{◌≡◌, ◌⊎◌, ◌<◌, ℕ, ◌+◌, Bool, true, false, cond, refl, sym, ap, subst, ◌∙◌, lt-ltb, Option, Some, None, is_some, List, Result, Ok, Err, inl, inr, Box, ◌==◌, ◌&&◌, ◌||◌, not, IfOk, IfSome, IsSome, MatchOption, OnErr, option_and_then, option_map}
use Rattle.std.specs.Ordering.{eq_by_cmp, nat_cmp}
use Rattle.std.specs.FinMap as fin
use Rattle.std.specs.FinMap.{get-remove}
use Rattle.std.proofs.Math.Bool.{or-false, or-true}
use Rattle.std.proofs.lemmas.Bool.{cases_Bool, cond_both, eq-eqb, eqb-false, eqb-true, false_from_ne_true, or_left, or_right, true_from_ne_false}
use Rattle.std.proofs.lemmas.Cmp.{nat_cmp_total}
use Rattle.std.proofs.lemmas.Result.{IfOk-weaker}
use Rattle.std.proofs.lemmas.Option.{none-some, same_Some}
use Rattle.turn_types.specs.Prelude.{same_tuple, tuple_cmp, permission_lifetime, reservation_lifetime}
use Rattle.turn_history.specs.Prelude.{FiveTuple, Bounds, Token, TxId, act_of, AreReservationsInRange, Fits, IsActInRange, PortIsFree, has_port, is_taken, PlainAct, Allocates, Renews, Permits, Binds, PortsApart, ReservedApart, Contents, Entry, applied, applied_to, binding, kept, permitting, purged, renewed}
use Rattle.turn_history.proofs.Live.{some_is}
use Rattle.turn_history.proofs.Maps.{from_eq, tuple_exact, tuple_total}
use Rattle.turn_history.proofs.Reading.{applied-reserved, at_alloc, get-applied, get-purged, get-purged_reserved, get-with_reservation, left, nat_same}
use Rattle.turn_history.proofs.Tests.{free_port_is, port_is_free, port_is_untaken, untaken_port_is}
use Rattle.turn_history.specs.declared.act.Act.{Act}
use Rattle.turn_history.specs.declared.reservation.Reservation.{Reservation}
use Rattle.turn_table.proofs.Purging.{stays}
use Rattle.turn_table.proofs.Tuples.{itself}
use Rattle.turn_table.specs.Prelude.{RemovesExpired, freed_by}
use Rattle.turn_ports.specs.Ports.{with_pair, with_port, without_port}
use Rattle.turn_rules.specs.Prelude.{IsFreeFor, IsPicked, MayHavePicked, MayPickFor, is_picked, picks, takes}
use Rattle.turn_rules.specs.declared.need.Need.{Need}
use Rattle.turn_rules.specs.declared.need.Need.TheVariants.{Any, Even, Pair}
use Rattle.turn_step.specs.Prelude.{ArePicked, Change, StepOutcome, Sent, change_of, HoldsPorts, MachineState, MayBeNext}

-- ---- Tests

same_test : (a b : Bool) → (a ≡ false → b ≡ false) → (b ≡ false → a ≡ false) → a ≡ b
same_test true true p q = refl
same_test false false p q = refl
same_test false true p q = sym (p refl)
same_test true false p q = q refl

-- ---- The ports of entries

has_at : (c d : Contents) (n : ℕ) → (PortIsFree c n → PortIsFree d n) → (PortIsFree d n → PortIsFree c n) → has_port c n ≡ has_port d n
has_at c d n to from =
    same_test (has_port c n) (has_port d n) (λ is. free_port_is d n (to (port_is_free c n is))) (λ is. free_port_is c n (from (port_is_free d n is)))

is_there : (c : Contents) (f : FiveTuple) (e : Entry) → fin.get c.entries f ≡ Some e → has_port c e.port ≡ true
is_there c f e is = true_from_ne_false (has_port c e.port) (λ at. port_is_free c e.port at f e is refl)

same_ports : (c d : Contents) → ((q : FiveTuple) → option_map (λ e. e.port) (fin.get c.entries q) ≡ option_map (λ e. e.port) (fin.get d.entries q)) → (n : ℕ) → has_port c n ≡ has_port d n
same_ports c d same n = has_at c d n (along c d same) (along d c (λ q. sym (same q)))
  where
    along : (x y : Contents) → ((q : FiveTuple) → option_map (λ e. e.port) (fin.get x.entries q) ≡ option_map (λ e. e.port) (fin.get y.entries q)) → PortIsFree x n → PortIsFree y n
    along x y same free f e is at = by_entry (fin.get x.entries f) refl (same f ∙ ap (option_map (λ e. e.port)) is)
      where
        by_entry : (o : Option Entry) → fin.get x.entries f ≡ o → option_map (λ e. e.port) o ≡ Some e.port → ⊥
        by_entry None at none = none-some e.port none
        by_entry (Some v) there one = free f v there (same_Some v.port e.port one ∙ at)

-- a five-tuple is f, or another
by_tuple : (q f : FiveTuple) → (q ≡ f) ⊎ (same_tuple q f ≡ false)
by_tuple q f = elim (cases_Bool (same_tuple q f)) [ inl is ↦ inl (from_eq tuple_cmp tuple_exact q f is) | inr is ↦ inr is ]

-- a table of which the entry of one five-tuple alone is another
module _ (c d : Contents) (f : FiveTuple) (o : Option Entry) (gets : (q : FiveTuple) → fin.get d.entries q ≡ cond (same_tuple q f) o (fin.get c.entries q)) where
  here : fin.get d.entries f ≡ o
  here = gets f ∙ ap (λ b. cond b o (fin.get c.entries f)) (itself f)

  other : (q : FiveTuple) → same_tuple q f ≡ false → fin.get d.entries q ≡ fin.get c.entries q
  other q two = gets q ∙ ap (λ b. cond b o (fin.get c.entries q)) two

  -- what the table has now, it was given or had, and what it had, it has or had at f
  given_or_had : (q : FiveTuple) (v : Entry) → fin.get d.entries q ≡ Some v → (o ≡ Some v) ⊎ (fin.get c.entries q ≡ Some v)
  given_or_had q v there = elim (by_tuple q f) [ inl at ↦ inl (sym here ∙ rw at at there) | inr two ↦ inr (sym (other q two) ∙ there) ]

  had_or_has : (q : FiveTuple) (v : Entry) → fin.get c.entries q ≡ Some v → (fin.get c.entries f ≡ Some v) ⊎ (fin.get d.entries q ≡ Some v)
  had_or_has q v there = elim (by_tuple q f) [ inl at ↦ inl (rw at at there) | inr two ↦ inr (other q two ∙ there) ]

  same_port : option_map (λ e. e.port) o ≡ option_map (λ e. e.port) (fin.get c.entries f) → (n : ℕ) → has_port d n ≡ has_port c n
  same_port same = same_ports d c (λ q. elim (by_tuple q f) [
    | inl at ↦ rw at (ap (option_map (λ e. e.port)) here ∙ same)
    | inr two ↦ ap (option_map (λ e. e.port)) (other q two)
  ])

  -- what the table has on other ports than that of an entry it had on them, and the other way round
  module _ (e : Entry) (n : ℕ) (not_it : n ≡ e.port → ⊥) where
    is_other : (v : Entry) → v.port ≡ n → ◌≡◌ {A = Option Entry} (Some e) (Some v) → ⊥
    is_other v same it = not_it (sym same ∙ ap (λ x. x.port) (sym (same_Some e v it)))

    free_still : (fin.get c.entries f ≡ None) ⊎ (fin.get c.entries f ≡ Some e) → PortIsFree d n → PortIsFree c n
    free_still was free q v there same = elim (had_or_has q v there) [
      | inl had ↦ elim was [ inl none ↦ none-some v (sym none ∙ had) | inr some ↦ is_other v same (sym some ∙ had) ]
      | inr has ↦ free q v has same
    ]

    free_then : (o ≡ None) ⊎ (o ≡ Some e) → PortIsFree c n → PortIsFree d n
    free_then is free q v there same = elim (given_or_had q v there) [
      | inl given ↦ elim is [ inl none ↦ none-some v (sym none ∙ given) | inr some ↦ is_other v same (sym some ∙ given) ]
      | inr had ↦ free q v had same
    ]

  module _ (e : Entry) where
    added_port : o ≡ Some e → fin.get c.entries f ≡ None → (n : ℕ) → has_port d n ≡ (n == e.port) || has_port c n
    added_port is none n = elim (cases_Bool (n == e.port)) [
      | inl it ↦ rw it (ap (has_port d) (eqb-true n e.port it) ∙ is_there d f e (here ∙ is))
      | inr not_it ↦ rw not_it (has_at d c n (free_still e n (eqb-false n e.port not_it) (inl none)) (free_then e n (eqb-false n e.port not_it) (inr is)))
    ]

    -- what the table without the entry has, the table has
    still : o ≡ None → (q : FiveTuple) (v : Entry) → fin.get d.entries q ≡ Some v → fin.get c.entries q ≡ Some v
    still is q v at = elim (given_or_had q v at) [ inl given ↦ absurd (none-some v (sym is ∙ given)) | inr had ↦ had ]

    removed_port : o ≡ None → PortsApart c → fin.get c.entries f ≡ Some e → (n : ℕ) → has_port d n ≡ not (n == e.port) && has_port c n
    removed_port is apart was n = elim (cases_Bool (n == e.port)) [
      | inl it ↦ rw it (ap (has_port d) (eqb-true n e.port it) ∙ free_port_is d e.port freed)
      | inr not_it ↦ rw not_it (has_at d c n (free_still e n (eqb-false n e.port not_it) (inr was)) (free_then e n (eqb-false n e.port not_it) (inl is)))
    ]
      where
        freed : PortIsFree d e.port
        freed q v there same = none-some v (sym (here ∙ is) ∙ rw (apart q f v e (still is q v there) was same) at there)

    apart_without : o ≡ None → PortsApart c → PortsApart d
    apart_without is apart p q x y ex ey same = apart p q x y (still is p x ex) (still is q y ey) same

    reserved_without : o ≡ None → d.reserved ≡ c.reserved → ReservedApart c → ReservedApart d
    reserved_without is same apart q r at g v there = apart q r (sym (ap (λ m. fin.get m q) same) ∙ at) g v (still is g v there)

-- ---- Tables that change by one port

-- without an entry, whose port is not reserved
without_entry : (c d : Contents) (p : ℕ) → ((n : ℕ) → has_port d n ≡ not (n == p) && has_port c n) → d.reserved ≡ c.reserved → is_some (fin.get c.reserved p) ≡ false
    → (n : ℕ) → is_taken d n ≡ not (n == p) && is_taken c n
without_entry c d p has same unreserved n = rw (has n, same) (elim (cases_Bool (n == p)) [
  | inl it ↦ rw (it, eqb-true n p it) unreserved
  | inr not_it ↦ rw not_it refl
])

-- without a reservation, whose port no entry has
without_reservation : (c : Contents) (p : ℕ) → has_port c p ≡ false → (n : ℕ) → is_taken (record c { reserved = fin.remove c.reserved p }) n ≡ not (n == p) && is_taken c n
without_reservation c p free n = rw (get-remove nat_cmp_total c.reserved p n, nat_same n p) (elim (cases_Bool (n == p)) [
  | inl it ↦ rw (it, eqb-true n p it, free) refl
  | inr not_it ↦ rw not_it refl
])

-- a port that an entry has is not reserved
entry_unreserved : (c : Contents) (f : FiveTuple) (e : Entry) → ReservedApart c → fin.get c.entries f ≡ Some e → is_some (fin.get c.reserved e.port) ≡ false
entry_unreserved c f e apart is = false_from_ne_true (is_some (fin.get c.reserved e.port)) (λ reserved.
    let found = some_is (fin.get c.reserved e.port) reserved in
    apart e.port found.0 found.1 f e is refl)

-- ---- Acts

-- what an act leaves: with the ports that it takes, or without the one that it frees
abbrev pub LeavesPorts : ℕ → FiveTuple → PlainAct → Contents → Option ℕ → Type 0
LeavesPorts t f d c freed = MatchOption freed ((n : ℕ) → is_taken (applied t f d c) n ≡ takes d n || is_taken c n)
    (λ p. (is_taken c p ≡ true) × ((n : ℕ) → takes d n ≡ false) × ((n : ℕ) → is_taken (applied t f d c) n ≡ without_port (is_taken c) p n))

alloc_test : (t n port : ℕ) (token : Option Token) (has : Bool) (old : Option Reservation)
    → ((n == port) || has) || is_some (at_alloc t n port token old) ≡ ((n == port) || (is_some token && (n == port + 1))) || (has || is_some old)
alloc_test t n port None has old = elim (n == port) as (λ x. (x || has) || is_some (cond x None old) ≡ (x || false) || (has || is_some old)) [ true ↦ refl | false ↦ refl ]
alloc_test t n port (Some token) has old = by_ports (n == port) (n == port + 1)
  where
    by_ports : (x y : Bool) → (x || has) || is_some (cond y (Some (record { token = token; expiry = t + reservation_lifetime })) (cond x None old)) ≡ (x || y) || (has || is_some old)
    by_ports true y = refl
    by_ports false true = or-true has
    by_ports false false = refl

module _ (b : Bounds) (t : ℕ) (f : FiveTuple) (c : Contents) (apart : PortsApart c) (reserved : ReservedApart c) where
  mapped : (g : Entry → Entry) → ((e : Entry) → (g e).port ≡ e.port) → (o : Option Entry) → option_map (λ e. e.port) (option_map g o) ≡ option_map (λ e. e.port) o
  mapped g keeps None = refl
  mapped g keeps (Some e) = ap Some (keeps e)

  -- an act that changes no port
  keeps_ports : (d : PlainAct) → option_map (λ e. e.port) (applied_to t d (fin.get c.entries f)) ≡ option_map (λ e. e.port) (fin.get c.entries f)
      → (applied t f d c).reserved ≡ c.reserved → (n : ℕ) → is_taken (applied t f d c) n ≡ is_taken c n
  keeps_ports d same unchanged n =
      ap (λ x. x || is_some (fin.get (applied t f d c).reserved n)) (same_port c (applied t f d c) f _ (get-applied t f d c) same n)
      ∙ ap (λ m. has_port c n || is_some (fin.get m n)) unchanged

  leaves_ports : (d : PlainAct) → Fits b c f d → LeavesPorts t f d c (freed_by d (fin.get c.entries f))
  leaves_ports (Allocates user port granted tx token) fits = λ n.
      let d : PlainAct = Allocates user port granted tx token in
      ap (λ x. x || is_some (fin.get (applied t f d c).reserved n)) (added_port c (applied t f d c) f _ (get-applied t f d c) _ refl fits.0 n)
      ∙ ap (λ m. ((n == port) || has_port c n) || is_some (fin.get m n)) (applied-reserved t f d c)
      ∙ ap (λ o. ((n == port) || has_port c n) || is_some o) (get-with_reservation t n port token c.reserved)
      ∙ alloc_test t n port token (has_port c n) (fin.get c.reserved n)
  leaves_ports (Permits addresses) fits =
      keeps_ports (Permits addresses) (mapped (permitting (t + permission_lifetime) addresses) (λ e. refl) (fin.get c.entries f)) (applied-reserved t f (Permits addresses) c)
  leaves_ports (Binds number peer) fits =
      keeps_ports (Binds number peer) (mapped (binding t number peer) (λ e. refl) (fin.get c.entries f)) (applied-reserved t f (Binds number peer) c)
  leaves_ports (Renews granted) fits = by_test (granted == 0) refl
    where
      by_entry : (o : Option Entry) → fin.get c.entries f ≡ o → IsSome o → applied_to t (Renews granted) (fin.get c.entries f) ≡ None → LeavesPorts t f (Renews granted) c (option_map (λ e. e.port) o)
      by_entry None at some gone = cc
      by_entry (Some e) at some gone = (
        or_left (has_port c e.port) (is_some (fin.get c.reserved e.port)) (is_there c f e at),
        λ n. refl,
        without_entry c (applied t f (Renews granted) c) e.port (removed_port c (applied t f (Renews granted) c) f _ (get-applied t f (Renews granted) c) e gone apart at)
            (applied-reserved t f (Renews granted) c) (entry_unreserved c f e reserved at),
      )

      by_test : (z : Bool) → (granted == 0) ≡ z → LeavesPorts t f (Renews granted) c (cond z (option_map (λ e. e.port) (fin.get c.entries f)) None)
      by_test true is = by_entry (fin.get c.entries f) refl fits (ap (λ z. cond z None (option_map (renewed (t + granted)) (fin.get c.entries f))) is)
      by_test false is =
          keeps_ports (Renews granted)
          (ap (λ z. option_map (λ e. e.port) (cond z None (option_map (renewed (t + granted)) (fin.get c.entries f)))) is
          ∙ mapped (renewed (t + granted)) (λ e. refl) (fin.get c.entries f))
          (applied-reserved t f (Renews granted) c)

  -- what is held after an act whose freed port is released
  pub applied_holds : (old new : (ℕ → Bool) → Type 0) (d : PlainAct) (freed : Option ℕ) → Fits b c f d → freed ≡ freed_by d (fin.get c.entries f)
      → ((held : ℕ → Bool) → old held → MatchOption freed (new held) (λ p. held p ≡ true → new (without_port held p)))
      → old (λ n. takes d n || is_taken c n) → new (is_taken (applied t f d c))
  applied_holds old new d freed fits is releases h = by_freed freed (subst (LeavesPorts t f d c) (sym is) (leaves_ports d fits)) releases
    where
      by_freed : (o : Option ℕ) → LeavesPorts t f d c o → ((held : ℕ → Bool) → old held → MatchOption o (new held) (λ p. held p ≡ true → new (without_port held p)))
          → new (is_taken (applied t f d c))
      by_freed None leaves releases = subst new (λ j n. sym (leaves n) j) (releases (λ n. takes d n || is_taken c n) h)
      by_freed (Some p) leaves releases =
          subst new (λ j n. sym (leaves.2 n) j)
          (releases (is_taken c) (subst old (λ j n. ap (λ b. b || is_taken c n) (leaves.1 n) j) h) leaves.0)

-- ---- The time that passes

-- what is left once something that has expired is gone, and its port was taken
pub record IsLeft (old new : Contents) (port : ℕ) : Type 0 where
  pub taken : is_taken old port ≡ true
  pub ports : is_taken new ≡ without_port (is_taken old) port
  pub apart : PortsApart new
  pub reserved : ReservedApart new

module _ (t : ℕ) (old : Contents) (port : ℕ) (apart : PortsApart old) (reserved : ReservedApart old) where
  pub expired_gone : (new : Contents) → RemovesExpired t old new port → IsLeft old new port
  expired_gone new (inl r) =
      let rest : Contents = record old { entries = fin.remove old.entries r.tuple } in
      let gets = get-remove tuple_total old.entries r.tuple in
      rw r.gone (subst (IsLeft old rest) r.port_is
      (record {
        taken = or_left (has_port old r.entry.port) (is_some (fin.get old.reserved r.entry.port)) (is_there old r.tuple r.entry r.was);
        ports = λ j n. without_entry old rest r.entry.port (removed_port old rest r.tuple None gets r.entry refl apart r.was) refl (entry_unreserved old r.tuple r.entry reserved r.was) n j;
        apart = apart_without old rest r.tuple None gets r.entry refl apart;
        reserved = reserved_without old rest r.tuple None gets r.entry refl refl reserved;
      }))
  expired_gone new (inr r) =
      rw r.gone (record {
        taken = or_right (has_port old port) (is_some (fin.get old.reserved port)) (ap is_some r.was);
        ports = λ j n. without_reservation old port (free_port_is old port (reserved port r.reservation r.was)) n j;
        apart = apart;
        reserved = λ q x at. reserved q x (there q x at);
      })
    where
      there : (q : ℕ) (x : Reservation) → fin.get (fin.remove old.reserved port) q ≡ Some x → fin.get old.reserved q ≡ Some x
      there q x at = cond_both (eq_by_cmp nat_cmp q port) None (fin.get old.reserved q) (λ o. o ≡ Some x → fin.get old.reserved q ≡ Some x)
          (λ _ is. absurd (none-some x is)) (λ _ is. is) (sym (get-remove nat_cmp_total old.reserved port q) ∙ at)

pub purged_ports : (t : ℕ) (c : Contents) → ((f : FiveTuple) (e : Entry) → fin.get c.entries f ≡ Some e → t < e.expiry)
    → ((q : ℕ) (r : Reservation) → fin.get c.reserved q ≡ Some r → t < r.expiry) → is_taken (purged t c) ≡ is_taken c
purged_ports t c entries reservations = λ j n. at n j
  where
    by_entry : (q : FiveTuple) (o : Option Entry) → fin.get c.entries q ≡ o → option_map (λ e. e.port) (option_and_then (kept t) o) ≡ option_map (λ e. e.port) o
    by_entry q None at = refl
    by_entry q (Some e) at = ap (λ b. option_map (λ e. e.port) (cond b (Some (left t e)) None)) (lt-ltb t e.expiry (entries q e at))

    at : (n : ℕ) → is_taken (purged t c) n ≡ is_taken c n
    at n =
        ap (λ b. b || is_some (fin.get (purged t c).reserved n))
        (same_ports (purged t c) c (λ q. ap (option_map (λ e. e.port)) (get-purged t c q) ∙ by_entry q (fin.get c.entries q) refl) n)
        ∙ ap (λ o. has_port c n || is_some o) (get-purged_reserved t c n ∙ sym (stays t c.reserved reservations n))

-- ---- What was picked

abbrev pub Releases : ((ℕ → Bool) → Type 0) → ((ℕ → Bool) → Type 0) → ℕ → Type 0
Releases old new p = (held : ℕ → Bool) → old held → held p ≡ true → new (without_port held p)

one_undone : (held : ℕ → Bool) (p : ℕ) → held p ≡ false → (n : ℕ) → without_port (λ q. (q == p) || held q) p n ≡ held n
one_undone held p free n = elim (cases_Bool (n == p)) [
  | inl it ↦ rw it (sym free ∙ ap held (sym (eqb-true n p it)))
  | inr not_it ↦ rw not_it refl
]

-- what is held after a port that was picked is released
one_released : (old new : (ℕ → Bool) → Type 0) (held : ℕ → Bool) (p : ℕ) → held p ≡ false → Releases old new p → old (λ q. (q == p) || held q) → new held
one_released old new held p free releases h =
    subst new (λ j n. one_undone held p free n j) (releases (λ q. (q == p) || held q) h (ap (λ b. b || held p) (eq-eqb p p refl)))

-- what was picked is free for what is needed
picked_for : (c : Contents) (range : ℕ × ℕ) (failed : Bool) (need : Need) (port : ℕ) → MayPickFor range c failed need (Some port) → IsFreeFor c need port
picked_for c range failed Any port may = record { is_port = may.is_port; free = (port_is_untaken c port may.untaken).0; next = λ is. absurd (let no : ⊥ = cc in no) }
picked_for c range failed Even port may = record { is_port = may.is_port; free = (port_is_untaken c port may.untaken).0; next = λ is. absurd (let no : ⊥ = cc in no) }
picked_for c range failed Pair port may = record {
  is_port = may.first.is_port;
  free = (port_is_untaken c port may.first.untaken).0;
  next = λ is. record {
    even = may.first.parity refl;
    is_port = may.second.is_port;
    free = (port_is_untaken c (port + 1) may.second.untaken).0;
    unreserved = (port_is_untaken c (port + 1) may.second.untaken).1;
  };
}

pub picked_is_free : (c : Contents) (range : ℕ × ℕ) (failed : Bool) (needed : Option Need) (port : Option ℕ) → MayHavePicked range failed c needed port → IsPicked c needed port
picked_is_free c range failed needed None may need is = tt
picked_is_free c range failed needed (Some port) may need is = picked_for c range failed need port (may need is)

-- a port that was picked beside those of a table
pub picked_beside : (c : Contents) (range : ℕ × ℕ) (failed : Bool) (need : Option Need) (port : Option ℕ) → (need ≡ None → port ≡ None) → MayHavePicked range failed c need port
    → IfSome port (ArePicked (is_taken c) need)
picked_beside c range failed need None only may = tt
picked_beside c range failed None (Some p) only may = let no = only refl in cc
picked_beside c range failed (Some need) (Some p) only may = by_need need (may need refl)
  where
    by_need : (n : Need) → MayPickFor range c failed n (Some p) → ArePicked (is_taken c) (Some n) p
    by_need Any m = record { needed = refl; first = m.untaken; next = λ is. absurd (let no : ⊥ = cc in no) }
    by_need Even m = record { needed = refl; first = m.untaken; next = λ is. absurd (let no : ⊥ = cc in no) }
    by_need Pair m = record { needed = refl; first = m.first.untaken; next = λ is. (m.second.is_port, m.second.untaken) }

module _ {E : Type 0} (P : (ℕ → Bool) → Type 0) (held : ℕ → Bool) (needed : Option Need) where
  -- one port that was picked, if one was
  pub one_picked : (need : Need) → needed ≡ Some need → ((p q : ℕ) → picks need p q ≡ (q == p)) → (r : Result (Option ℕ) E)
      → IfOk r (λ port. P (with_port held port)) → IfOk r (λ port. P (λ q. is_picked needed port q || held q))
  one_picked need is one r picked = rw is (IfOk-weaker r (λ port. P (with_port held port)) (λ port. P (λ q. is_picked (Some need) port q || held q))
      (λ port. elim port as (λ o. P (with_port held o) → P (λ q. is_picked (Some need) o q || held q)) [
        | None ↦ λ h. h
        | Some p ↦ λ h. subst P (λ j q. ap (λ b. b || held q) (sym (one p q)) j) h
      ]) picked)

  -- and a pair
  pub pair_picked : needed ≡ Some Pair → (r : Result (Option ℕ) E) → IfOk r (λ port. P (with_pair held port)) → IfOk r (λ port. P (λ q. is_picked needed port q || held q))
  pair_picked is r picked = rw is (IfOk-weaker r (λ port. P (with_pair held port)) (λ port. P (λ q. is_picked (Some Pair) port q || held q))
      (λ port. elim port as (λ o. P (with_pair held o) → P (λ q. is_picked (Some Pair) o q || held q)) [ None ↦ λ h. h | Some p ↦ λ h. h ]) picked)

-- ---- Steps that are abandoned

-- what is held where an Alloc of a port that isn't reserved is abandoned
pub alone_released : (old new : (ℕ → Bool) → Type 0) (c : Contents) (p : ℕ) (o : Option Reservation) → PortIsFree c p → o ≡ fin.get c.reserved p → is_some o ≡ false → Releases old new p
    → old (λ q. ((q == p) || false) || is_taken c q) → new (is_taken c)
alone_released old new c p o free found none releases h =
    one_released old new (is_taken c) p (ap (λ b. b || is_some (fin.get c.reserved p)) (free_port_is c p free) ∙ ap is_some (sym found) ∙ none) releases
    (subst old (λ j q. ap (λ b. b || is_taken c q) (or-false (q == p)) j) h)

-- the port of an Alloc with a token is even, so it isn't reserved, and the next one isn't either
pub even_picked : (b : Bounds) (t : ℕ) (c : Contents) (f : FiveTuple) (user : List ℕ) (port granted : ℕ) (tx : TxId) (token : Token) → AreReservationsInRange t c
    → Fits b c f (Allocates user port granted tx (Some token)) → IsActInRange b (Allocates user port granted tx (Some token)) → ArePicked (is_taken c) (Some Pair) port
even_picked b t c f user port granted tx token odd fits in_range = record {
  needed = refl;
  first = untaken_port_is c port fits.1 (unreserved (fin.get c.reserved port) refl);
  next = λ is. (fits.3.0, untaken_port_is c (port + 1) fits.3.1 fits.3.2);
}
  where
    unreserved : (o : Option Reservation) → fin.get c.reserved port ≡ o → fin.get c.reserved port ≡ None
    unreserved None at = at
    unreserved (Some r) at = let no : ◌≡◌ {A = ℕ} 0 1 = sym in_range.4.0 ∙ (odd port r at).port.1 in cc

-- ---- Machines

-- the change of a step that was taken apart
pub change_by : {A : Type 0} (o : StepOutcome) (sent : Option Sent) (act : Option (Box (FiveTuple × Act A) A)) (b : Box (FiveTuple × Act A) A) (p : FiveTuple × Act A) (a : Act A)
    → o ≡ record { change = option_map (λ x. change_of x.value.0 (act_of x.value.1)) act; sent = sent } → act ≡ Some b → p ≡ b.value → p.1 ≡ a → o.change ≡ Some (change_of p.0 (act_of a))
change_by o sent act b p a parts some is variant =
    ap (λ (x : StepOutcome). x.change) parts ∙ ap (option_map (λ x. change_of x.value.0 (act_of x.value.1))) some ∙ ap (λ q. Some (change_of q.0 (act_of q.1))) (sym is)
    ∙ ap (λ x. Some (change_of p.0 (act_of x))) variant

module _ {H G : Type 0} (m n : MachineState H G) (o : Option Change) (c : Change) (same : n ≡ m) (is : o ≡ Some c) where
  pub next_change : IfSome o (MayBeNext m.table) → MayBeNext n.table c
  next_change next = subst (λ x. IfSome x (MayBeNext n.table)) is (subst (λ x. IfSome o (MayBeNext x.table)) (sym same) next)

  pub held_change : (holds : G → (ℕ → Bool) → Type 0) → HoldsPorts holds m o → HoldsPorts holds n (Some c)
  held_change holds held = subst (HoldsPorts holds n) is (subst (λ x. HoldsPorts holds x o) (sym same) held)

pub nothing_taken : {E : Type 0} (P : Option Change → Type 0) (r : Result StepOutcome E) → IfOk r (λ o. o.change ≡ None) → P None → IfOk r (λ o. P o.change)
nothing_taken P (Ok o) none p = subst P (sym none) p
nothing_taken P (Err e) none p = tt

pub on_err : {T E : Type 0} {P : Type 0} (r : Result T E) → P → OnErr r P
on_err (Ok x) p = tt
on_err (Err e) p = p
