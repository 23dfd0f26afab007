-- What purging removes, and what it leaves.
use Rattle.std.proofs.Common.{inl, inr, ◌≡◌, ℕ, zero, suc, ◌+◌, ◌-◌, ◌<◌, ◌≤◌, Bool, true, false, cond, refl, sym, ap, ◌∙◌, subst, arith, is_some, Option, Some, None, lt-ltb, IsSomeAnd, option_and_then, option_map, Ordering, le-ltb}
use Rattle.std.specs.Ordering.{eq_by_cmp, nat_cmp}
use Rattle.std.specs.Cmp.{IsTotalOrder}
use Rattle.std.proofs.lemmas.Cmp.{nat_cmp_total}
use Rattle.std.specs.FinMap as fin
use Rattle.std.specs.FinMap.{FinMap, IsAntisymmetric, same_map, get-remove, get-empty, nat_cmp-IsAntisymmetric}
use Rattle.turn_history.proofs.Maps.{tuple_total, tuple_exact, from_eq}
use Rattle.turn_history.proofs.Reading.{get-purged, get-purged_reserved, get-still_bound, get-still_permitted, same_contents}
use Rattle.turn_types.specs.Prelude.{tuple_cmp}
use Rattle.turn_history.specs.Prelude.{Entry, Contents, Reservations, ahead, channel_ahead, reservation_ahead, purged, kept, still_permitted, still_bound, FiveTuple}
use Rattle.turn_history.specs.declared.channel.Channel.{Channel}
use Rattle.turn_history.specs.declared.reservation.Reservation.{Reservation}
use Rattle.turn_table.specs.Prelude.{ahead_by, still, still_entry, State, BecomesFree, RemovesEntry, RemovesExpired, without_entry}
use Rattle.turn_table.proofs.Sorted.{get-removed, get-still}
use Rattle.turn_table.proofs.Options.{none_of, or_new, some_at, some_none, some_then}
use Rattle.turn_table.proofs.Ready.{Holds}
use Rattle.turn_table.proofs.Tuples.{itself}

-- ---- What has expired and is gone

-- without a value that isn't kept, what is kept is the same
gone_alike : {K X Y : Type 0} {R : K → K → Ordering} → IsTotalOrder R → IsAntisymmetric R → (m : FinMap R X) (k : K) (x : X) (keep : Option X → Option Y) → fin.get m k ≡ Some x → keep (Some x) ≡ keep None → (q : K) → keep (fin.get (fin.remove m k) q) ≡ keep (fin.get m q)
gone_alike {R = R} o exact m k x keep is none q = ap keep (get-remove o m k q) ∙ by_test (eq_by_cmp R q k) refl
  where
    by_test : (b : Bool) → eq_by_cmp R q k ≡ b → keep (cond b None (fin.get m q)) ≡ keep (fin.get m q)
    by_test true tied = sym (ap keep (ap (fin.get m) (from_eq R exact q k tied) ∙ is) ∙ none)
    by_test false other = refl

-- and there is one less
len-gone : {K X : Type 0} {R : K → K → Ordering} → IsTotalOrder R → (m : FinMap R X) (k : K) (x : X) → fin.get m k ≡ Some x → fin.len (fin.remove m k) + 1 ≡ fin.len m
len-gone {R = R} o m k x is = by_len (fin.len m) refl
  where
    by_len : (n : ℕ) → fin.len m ≡ n → fin.len (fin.remove m k) + 1 ≡ fin.len m
    by_len zero none = absurd (some_none is (ap (λ n. fin.get n k) (fin.empty_of_len m none) ∙ get-empty R k))
    by_len (suc n) some = let less : fin.len (fin.remove m k) ≡ fin.len m - 1 = fin.len-remove o m k ∙ ap (λ v. cond (is_some v) (fin.len m - 1) (fin.len m)) is in omega arith

-- the port of a removed entry was its alone and not reserved, so it is free
pub free-remove : (c new : Contents) (f : FiveTuple) (e : Entry) (port : ℕ) → fin.get c.entries f ≡ Some e → e.port ≡ port → new ≡ record c { entries = fin.remove c.entries f } → BecomesFree c new port
free-remove c new f e port is port_is gone =
    subst (λ d. BecomesFree c d port) (sym gone) (subst (λ p. BecomesFree c (record c { entries = fin.remove c.entries f }) p) port_is (λ apart reserved. (
      λ q v at. or_new (λ x. x.port ≡ e.port → ⊥) (eq_by_cmp tuple_cmp q f) None (fin.get c.entries q) v (sym (get-remove tuple_total c.entries f q) ∙ at) (λ tied none. cc)
          (λ other there same. let tied : eq_by_cmp tuple_cmp q f ≡ true = ap (λ k. eq_by_cmp tuple_cmp k f) (apart q f v e there is same) ∙ itself f in cc),
      none_of (fin.get c.reserved e.port) (λ r there. reserved e.port r there f e is refl),
    )))

-- what follows of an entry, or the reservation of a port, that has expired and is gone
module _ (t : ℕ) (old new : Contents) (port : ℕ) where
  pub free_of : RemovesExpired t old new port → BecomesFree old new port
  free_of (inl r) = free-remove old new r.tuple r.entry port r.was r.port_is r.gone
  free_of (inr r) = subst (λ c. BecomesFree old c port) (sym r.gone) (λ apart reserved. (reserved port r.reservation r.was, get-removed nat_cmp_total old.reserved port))

  pub rest_of : RemovesExpired t old new port → purged t new ≡ purged t old
  rest_of (inl r) = ap (purged t) r.gone ∙ same_contents _ _ (λ q.
      get-purged t (record old { entries = fin.remove old.entries r.tuple }) q
      ∙ gone_alike tuple_total tuple_exact old.entries r.tuple r.entry (option_and_then (kept t)) r.was (ap (λ b. cond b (Some (still_entry t r.entry)) None) (le-ltb t r.entry.expiry r.past)) q
      ∙ sym (get-purged t old q))
      (λ p. get-purged_reserved t (record old { entries = fin.remove old.entries r.tuple }) p ∙ sym (get-purged_reserved t old p))
  rest_of (inr r) = ap (purged t) r.gone ∙ same_contents _ _ (λ f. get-purged t (record old { reserved = fin.remove old.reserved port }) f ∙ sym (get-purged t old f)) (λ q.
      get-purged_reserved t (record old { reserved = fin.remove old.reserved port }) q
      ∙ gone_alike nat_cmp_total nat_cmp-IsAntisymmetric old.reserved port r.reservation (reservation_ahead t) r.was (ap (λ b. cond b (Some r.reservation) None) (le-ltb t r.reservation.expiry r.past)) q
      ∙ sym (get-purged_reserved t old q))

  pub fewer_of : RemovesExpired t old new port → fin.len new.entries + fin.len new.reserved + 1 ≡ fin.len old.entries + fin.len old.reserved
  fewer_of (inl r) = let gone = len-gone tuple_total old.entries r.tuple r.entry r.was in ap (λ c. fin.len c.entries + fin.len c.reserved + 1) r.gone ∙ omega arith
  fewer_of (inr r) = let gone = len-gone nat_cmp_total old.reserved port r.reservation r.was in ap (λ c. fin.len c.entries + fin.len c.reserved + 1) r.gone ∙ omega arith

-- the entry of a five-tuple that has expired is gone
pub removes : (t : ℕ) (old new : State) (f : FiveTuple) (port : ℕ) → IsSomeAnd (fin.get old.contents.entries f) (λ e. e.expiry ≤ t) → IsSomeAnd (fin.get old.contents.entries f) (λ e. e.port ≡ port) → new ≡ without_entry old f → RemovesEntry t old.contents new.contents port
removes t old new f port past port_is is = some_then _ (fin.get old.contents.entries f) past (λ e at before. record {
  tuple = f;
  entry = e;
  was = at;
  past = before;
  port_is = some_at (λ x. x.port ≡ port) (fin.get old.contents.entries f) e port_is at;
  gone = ap (λ s. s.contents) is;
})

-- ---- What has not expired

module _ {V : Type 0} (expiry : V → ℕ) (t : ℕ) (keep : Option V → Option V) (none : keep None ≡ None) (some : (x : V) → keep (Some x) ≡ ahead_by expiry t x) where
  kept_all : (o : Option V) → ((x : V) → o ≡ Some x → t < expiry x) → keep o ≡ o
  kept_all None all = none
  kept_all (Some x) all = some x ∙ ap (λ b. cond b (Some x) None) (lt-ltb t (expiry x) (all x refl))

  kept_by : (o : Option V) → option_and_then (ahead_by expiry t) o ≡ keep o
  kept_by None = sym none
  kept_by (Some x) = sym (some x)

-- the maps of an entry
module _ (t : ℕ) (m : FinMap nat_cmp ℕ) where
  pub still-permissions : still (λ x. x) t m ≡ still_permitted t m
  still-permissions = same_map nat_cmp_total nat_cmp-IsAntisymmetric _ _ (λ a.
      get-still nat_cmp_total nat_cmp-IsAntisymmetric (λ x. x) t m a ∙ kept_by (λ x. x) t (ahead t) refl (λ x. refl) (fin.get m a) ∙ sym (get-still_permitted t m a))

  still_permissions : ((a x : ℕ) → fin.get m a ≡ Some x → t < x) → still_permitted t m ≡ m
  still_permissions all = same_map nat_cmp_total nat_cmp-IsAntisymmetric _ _ (λ a. get-still_permitted t m a ∙ kept_all (λ x. x) t (ahead t) refl (λ x. refl) (fin.get m a) (all a))

module _ (t : ℕ) (m : FinMap nat_cmp Channel) where
  pub still-channels : still (λ c. c.expiry) t m ≡ still_bound t m
  still-channels = same_map nat_cmp_total nat_cmp-IsAntisymmetric _ _ (λ n.
      get-still nat_cmp_total nat_cmp-IsAntisymmetric (λ c. c.expiry) t m n ∙ kept_by (λ c. c.expiry) t (channel_ahead t) refl (λ c. refl) (fin.get m n) ∙ sym (get-still_bound t m n))

  still_channels : ((n : ℕ) (c : Channel) → fin.get m n ≡ Some c → t < c.expiry) → still_bound t m ≡ m
  still_channels all = same_map nat_cmp_total nat_cmp-IsAntisymmetric _ _ (λ n. get-still_bound t m n ∙ kept_all (λ c. c.expiry) t (channel_ahead t) refl (λ c. refl) (fin.get m n) (all n))

-- reservations that have not expired stay
pub stays : (t : ℕ) (m : Reservations) → ((port : ℕ) (r : Reservation) → fin.get m port ≡ Some r → t < r.expiry) → (q : ℕ) → fin.get m q ≡ reservation_ahead t (fin.get m q)
stays t m all q = sym (kept_all (λ r. r.expiry) t (reservation_ahead t) refl (λ r. refl) (fin.get m q) (all q))

-- where no entry has expired, a table whose entries are without what has expired in them, and whose reserved ports are without those that have expired, is the purged one
pub purged_ahead : (t : ℕ) (c d : Contents) → ((f : FiveTuple) (e : Entry) → fin.get c.entries f ≡ Some e → t < e.expiry) → ((f : FiveTuple) → fin.get d.entries f ≡ option_map (still_entry t) (fin.get c.entries f)) → ((q : ℕ) → fin.get d.reserved q ≡ reservation_ahead t (fin.get c.reserved q)) → d ≡ purged t c
purged_ahead t c d all still left = same_contents _ _ (λ f. still f ∙ by_entry f (fin.get c.entries f) refl ∙ sym (get-purged t c f)) (λ q. left q ∙ sym (get-purged_reserved t c q))
  where
    by_entry : (f : FiveTuple) (o : Option Entry) → fin.get c.entries f ≡ o → option_map (still_entry t) o ≡ option_and_then (kept t) o
    by_entry f None at = refl
    by_entry f (Some e) at = sym (ap (λ b. cond b (Some (still_entry t e)) None) (lt-ltb t e.expiry (all f e at)))

-- before the moment at which something expires, a table is the purged one
pub purged_quiet : (t u : ℕ) (c : Contents) → t < u → Holds u c → c ≡ purged t c
purged_quiet t u c before holds =
    purged_ahead t c c (λ f e is. let q = holds.quiet f e is in omega (arith, q.entry, before)) (λ f. by_entry f (fin.get c.entries f) refl)
    (stays t c.reserved (λ port r is. let le = holds.reserved_quiet port r is in omega (arith, le, before)))
  where
    by_entry : (f : FiveTuple) (o : Option Entry) → fin.get c.entries f ≡ o → o ≡ option_map (still_entry t) o
    by_entry f None at = refl
    by_entry f (Some e) at =
        let q = holds.quiet f e at in
        let ps : still_permitted t e.permissions ≡ e.permissions = still_permissions t e.permissions (λ a x is. let le = q.permissions a x is in omega (arith, le, before)) in
        let cs : still_bound t e.channels ≡ e.channels = still_channels t e.channels (λ n c is. let le = q.channels n c is in omega (arith, le, before)) in
        λ j. Some (record e { permissions = sym ps j; channels = sym cs j })
