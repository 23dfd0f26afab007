-- The table of a fitting history is within the limits.
use Rattle.std.proofs.Common.{◌≡◌, ℕ, zero, suc, T, ◌+◌, ◌-◌, ◌≤◌, Bool, true, false, cond, is_some, Option, Some, None, List, [], ◌∷◌, length, refl, sym, ap, ◌∙◌, subst, arith, IsSomeAnd, nat_eq, ◌==◌, option_and_then, option_map, Ordering}
use Rattle.std.specs.List.{list_any}
use Rattle.std.specs.Ordering.{nat_cmp, eq_by_cmp, is_eq}
use Rattle.std.specs.Cmp.{IsTotalOrder}
use Rattle.std.proofs.lemmas.Cmp.{nat_cmp_total, tied_itself}
use Rattle.std.specs.FinMap as fin
use Rattle.std.specs.FinMap.{FinMap, IsAntisymmetric, find, is_sorted, get-insert, get-remove, get-empty, len-insert, len-empty, len-remove, empty_of_len, len-entries, entries_sorted, get-entries, nat_cmp-IsAntisymmetric}
use Rattle.std.specs.FinMap.Entries.{below_all}
use Rattle.turn_types.specs.Prelude.{tuple_cmp, same_tuple, permission_lifetime, channel_lifetime, reservation_lifetime}
use Rattle.turn_history.specs.Prelude.{Bounds, PlainAct, Allocates, Renews, Permits, Binds, History, clock, Entry, Contents, still_permitted, still_bound, kept, purged, install, renewed, permitting, binding, applied_to, allocated, map_of, applied, table, reservations, with_reservation, Fits, FitsReservation, FitsChannel, IsInRange, IsFitting, IsWithin, FiveTuple, Token}
use Rattle.turn_history.specs.Fitting.{IsChannelNumber}
use Rattle.turn_history.specs.declared.channel.Channel.{Channel}
use Rattle.turn_history.specs.declared.reservation.Reservation.{Reservation}
use Rattle.turn_history.proofs.Histories.{always, fits_in_range, no_entries}
use Rattle.turn_history.proofs.Entries.{first, second, unfound}
use Rattle.turn_history.proofs.Maps.{tuple_total, tuple_exact, from_eq}
use Rattle.turn_history.proofs.Reading.{of_permissions, of_channels, of_reservations, IsAhead, some_ahead, get-still_permitted, get-still_bound, get-purged, get-purged_reserved, get-applied, purged_from, Makes, all_applied}
use Rattle.turn_history.proofs.Steps.{get-install}

-- ---- A map without keys that another one lacks is no larger

module _ {K : Type 0} {R : K → K → Ordering} (o : IsTotalOrder R) (exact : IsAntisymmetric R) where
  not_empty : {Y : Type 0} (m : FinMap R Y) (k : K) → is_some (fin.get m k) ≡ true → 1 ≤ fin.len m
  not_empty m k has = by_size (fin.len m) refl
    where
      by_size : (n : ℕ) → fin.len m ≡ n → 1 ≤ n
      by_size zero none = let no : false ≡ true = sym (ap is_some (ap (λ x. fin.get x k) (empty_of_len m none) ∙ get-empty R k)) ∙ has in cc
      by_size (suc n) some = omega arith

  no_more : {X Y : Type 0} (es : List (K × X)) (m : FinMap R Y) → T (is_sorted R es) → ((q : K) → is_some (find R q es) ≡ true → is_some (fin.get m q) ≡ true) → length es ≤ fin.len m
  no_more [] m sorted has = omega arith
  no_more (e ∷ es) m sorted has =
      let here = has e.0 (ap (λ b. is_some (cond b (Some e.1) (find R e.0 es))) (ap is_eq (tied_itself o e.0))) in
      let less : fin.len (fin.remove m e.0) ≡ fin.len m - 1 = len-remove o m e.0 ∙ ap (λ b. cond b (fin.len m - 1) (fin.len m)) here in
      let some = not_empty m e.0 here in
      let rest = no_more es (fin.remove m e.0) (second (below_all R e.0 es) _ sorted) (λ q in_es. later q (eq_by_cmp R q e.0) refl in_es (has q)) in
      omega arith
    where
      later : (q : K) (b : Bool) → eq_by_cmp R q e.0 ≡ b → is_some (find R q es) ≡ true
          → (is_some (cond (eq_by_cmp R q e.0) (Some e.1) (find R q es)) ≡ true → is_some (fin.get m q) ≡ true) → is_some (fin.get (fin.remove m e.0) q) ≡ true
      later q true same in_es there =
          let none : find R q es ≡ None = ap (λ k. find R k es) (from_eq R exact q e.0 same) ∙ unfound o exact e.0 es (first _ (is_sorted R es) sorted) in
          let no : false ≡ true = sym (ap is_some none) ∙ in_es in cc
      later q false other in_es there =
          ap is_some (get-remove o m e.0 q ∙ ap (λ b. cond b None (fin.get m q)) other)
          ∙ there (ap (λ b. is_some (cond b (Some e.1) (find R q es))) other ∙ in_es)

  pub len-le : {X Y : Type 0} (n : FinMap R X) (m : FinMap R Y) → ((q : K) → is_some (fin.get n q) ≡ true → is_some (fin.get m q) ≡ true) → fin.len n ≤ fin.len m
  len-le n m has =
      let size = len-entries n in
      let le = no_more (fin.entries n) m (entries_sorted n) (λ q in_n. has q (ap is_some (get-entries n q) ∙ in_n)) in
      omega arith

nat_len-le : {X Y : Type 0} (n : FinMap nat_cmp X) (m : FinMap nat_cmp Y) → ((q : ℕ) → is_some (fin.get n q) ≡ true → is_some (fin.get m q) ≡ true) → fin.len n ≤ fin.len m
nat_len-le n m has = len-le nat_cmp_total nat_cmp-IsAntisymmetric n m has

-- ---- Time that passes

some_kept : (t : ℕ) (o : Option Entry) → is_some (option_and_then (kept t) o) ≡ true → is_some o ≡ true
some_kept t None h = cc
some_kept t (Some e) h = refl

fewer_left : {X : Type 0} {expiry : X → ℕ} {left : ℕ → Option X → Option X} → IsAhead expiry left → (t : ℕ) (m n : FinMap nat_cmp X)
    → ((k : ℕ) → fin.get n k ≡ left t (fin.get m k)) → fin.len n ≤ fin.len m
fewer_left test t m n is = nat_len-le n m (λ k has. some_ahead test t (fin.get m k) (sym (ap is_some (is k)) ∙ has))

pub within-purged : (b : Bounds) (t : ℕ) (c : Contents) → IsWithin b c → IsWithin b (purged t c)
within-purged b t c w = record {
  allocations = (let le = len-le tuple_total tuple_exact (purged t c).entries c.entries (λ q has. some_kept t (fin.get c.entries q) (sym (ap is_some (get-purged t c q)) ∙ has)) in let all = w.allocations in omega arith);
  reserved = (let le = fewer_left of_reservations t c.reserved (purged t c).reserved (get-purged_reserved t c) in let all = w.reserved in omega arith);
  permissions = (λ f e is.
      let x = purged_from t c f e is in
      let le = fewer_left of_permissions t x.0.permissions (still_permitted t x.0.permissions) (get-still_permitted t x.0.permissions) in
      let same = ap (λ y. fin.len y.permissions) x.3 in
      let all = w.permissions f x.0 x.1 in omega arith);
  channels = (λ f e is.
      let x = purged_from t c f e is in
      let le = fewer_left of_channels t x.0.channels (still_bound t x.0.channels) (get-still_bound t x.0.channels) in
      let same = ap (λ y. fin.len y.channels) x.3 in
      let all = w.channels f x.0 x.1 in omega arith);
}

-- ---- One more act

some_mapped : (g : Entry → Entry) (o : Option Entry) → is_some (option_map g o) ≡ true → is_some o ≡ true
some_mapped g None h = cc
some_mapped g (Some e) h = refl

-- no entry comes from an act that is no Alloc
no_new : (t : ℕ) (f : FiveTuple) (d : PlainAct) (c : Contents) → ((o : Option Entry) → is_some (applied_to t d o) ≡ true → is_some o ≡ true) → fin.len (applied t f d c).entries ≤ fin.len c.entries
no_new t f d c some = len-le tuple_total tuple_exact (applied t f d c).entries c.entries (λ q has. by_test q (same_tuple q f) refl (sym (ap is_some (get-applied t f d c q)) ∙ has))
  where
    by_test : (q : FiveTuple) (b : Bool) → same_tuple q f ≡ b → is_some (cond (same_tuple q f) (applied_to t d (fin.get c.entries f)) (fin.get c.entries q)) ≡ true → is_some (fin.get c.entries q) ≡ true
    by_test q true same h = ap (λ k. is_some (fin.get c.entries k)) (from_eq tuple_cmp tuple_exact q f same) ∙ some (fin.get c.entries f) (sym (ap (λ b. is_some (cond b (applied_to t d (fin.get c.entries f)) (fin.get c.entries q))) same) ∙ h)
    by_test q false other h = sym (ap (λ b. is_some (cond b (applied_to t d (fin.get c.entries f)) (fin.get c.entries q))) other) ∙ h

some_alike : {X : Type 0} (x y : X) (b : Bool) (o : Option X) → is_some (cond b (Some x) o) ≡ true → is_some (cond b (Some y) o) ≡ true
some_alike x y true o h = refl
some_alike x y false o h = h

installed_alike : (x y : ℕ) (ks : List ℕ) (m : FinMap nat_cmp ℕ) → fin.len (install x ks m) ≤ fin.len (install y ks m)
installed_alike x y ks m = nat_len-le (install x ks m) (install y ks m) (λ q has. ap is_some (get-install y ks m q) ∙ some_alike x y (list_any (nat_eq q) ks) (fin.get m q) (sym (ap is_some (get-install x ks m q)) ∙ has))

inserted_alike : {X : Type 0} (x y : X) (k : ℕ) (m : FinMap nat_cmp X) → fin.len (fin.insert m k x) ≤ fin.len (fin.insert m k y)
inserted_alike x y k m = nat_len-le (fin.insert m k x) (fin.insert m k y) (λ q has. ap is_some (get-insert nat_cmp_total m k y q) ∙ some_alike x y (eq_by_cmp nat_cmp q k) (fin.get m q) (sym (ap is_some (get-insert nat_cmp_total m k x q)) ∙ has))

module _ (b : Bounds) (t : ℕ) (f : FiveTuple) (c : Contents) (w : IsWithin b c) where
  allocations-applied : (d : PlainAct) → Fits b c f d → fin.len (applied t f d c).entries ≤ b.allocations
  unfolding applied
  allocations-applied (Allocates user port granted tx token) fits =
      let more : fin.len (applied t f (Allocates user port granted tx token) c).entries ≡ fin.len c.entries + 1 = len-insert tuple_total c.entries f (allocated t user port granted tx token) ∙ ap (λ o. cond (is_some o) (fin.len c.entries) (fin.len c.entries + 1)) fits.0 in
      omega (arith, fits.2)
  allocations-applied (Renews granted) fits = let le = no_new t f (Renews granted) c (λ o h. renews (granted == 0) o h) in let all = w.allocations in omega arith
    where
      renews : (z : Bool) (o : Option Entry) → is_some (cond z None (option_map (renewed (t + granted)) o)) ≡ true → is_some o ≡ true
      renews true o h = cc
      renews false o h = some_mapped (renewed (t + granted)) o h
  allocations-applied (Permits addresses) fits = let le = no_new t f (Permits addresses) c (some_mapped (permitting (t + permission_lifetime) addresses)) in let all = w.allocations in omega arith
  allocations-applied (Binds number peer) fits = let le = no_new t f (Binds number peer) c (some_mapped (binding t number peer)) in let all = w.allocations in omega arith

  no_more_reserved : (port : ℕ) → fin.len (fin.remove c.reserved port) ≤ fin.len c.reserved
  no_more_reserved port = nat_len-le (fin.remove c.reserved port) c.reserved (λ q has. was q (eq_by_cmp nat_cmp q port) (sym (ap is_some (get-remove nat_cmp_total c.reserved port q)) ∙ has))
    where
      was : (q : ℕ) (i : Bool) → is_some (cond i None (fin.get c.reserved q)) ≡ true → is_some (fin.get c.reserved q) ≡ true
      was q true h = cc
      was q false h = h

  reserved-applied : (d : PlainAct) → Fits b c f d → fin.len (applied t f d c).reserved ≤ b.allocations
  unfolding applied
  reserved-applied (Allocates user port granted tx token) fits = by_token token fits.3
    where
      by_token : (token : Option Token) → FitsReservation b c port token → fin.len (with_reservation t port token (fin.remove c.reserved port)) ≤ b.allocations
      by_token None room = let le = no_more_reserved port in let all = w.reserved in omega arith
      by_token (Some k) room = grow (is_some (fin.get (fin.remove c.reserved port) (port + 1))) (len-insert nat_cmp_total (fin.remove c.reserved port) (port + 1) (record { token = k; expiry = t + reservation_lifetime }))
        where
          grow : (i : Bool) → fin.len (fin.insert (fin.remove c.reserved port) (port + 1) (record { token = k; expiry = t + reservation_lifetime })) ≡ cond i (fin.len (fin.remove c.reserved port)) (fin.len (fin.remove c.reserved port) + 1) → fin.len (fin.insert (fin.remove c.reserved port) (port + 1) (record { token = k; expiry = t + reservation_lifetime })) ≤ b.allocations
          grow true is = let le = no_more_reserved port in let few = room.3 in omega arith
          grow false is = let le = no_more_reserved port in let few = room.3 in omega arith
  reserved-applied (Renews granted) fits = w.reserved
  reserved-applied (Permits addresses) fits = w.reserved
  reserved-applied (Binds number peer) fits = w.reserved

  abbrev pub Small : Entry → Type 0
  Small e = (fin.len e.permissions ≤ b.permissions) × (fin.len e.channels ≤ b.channels)

  was_small : (q : FiveTuple) (e : Entry) → fin.get c.entries q ≡ Some e → Small e
  was_small q e is = (w.permissions q e is, w.channels q e is)

  made_small : (d : PlainAct) → Fits b c f d → Makes Small t d (fin.get c.entries f)
  made_small (Allocates user port granted tx token) fits = let ps = len-empty nat_cmp ℕ in let cs = len-empty nat_cmp Channel in (omega arith, omega arith)
  made_small (Renews granted) fits = λ some x is. was_small f x is
  made_small (Permits addresses) fits = λ x is.
      let room = subst (λ o. IsSomeAnd o (λ e. fin.len (install 0 addresses e.permissions) ≤ b.permissions)) is fits in
      let le = installed_alike (t + permission_lifetime) 0 addresses x.permissions in
      (omega arith, w.channels f x is)
  made_small (Binds number peer) fits = λ x is.
      let room = subst (λ o. IsSomeAnd o (λ e. FitsChannel b number peer e × IsChannelNumber number)) is fits in
      let ps = inserted_alike (t + permission_lifetime) 0 peer.ip x.permissions in
      let cs = inserted_alike (record { peer = peer; expiry = t + channel_lifetime }) (record { peer = peer; expiry = 0 }) number x.channels in
      (omega (arith, room.0.0), omega (arith, room.0.1))

  pub within-applied : (d : PlainAct) → Fits b c f d → IsWithin b (applied t f d c)
  within-applied d fits =
      let small = all_applied (λ q e. Small e) t f d c was_small (made_small d fits) in
      record { allocations = allocations-applied d fits; reserved = reserved-applied d fits; permissions = λ q e is. (small q e is).0; channels = λ q e is. (small q e is).1 }

-- ---- A history

within-none : (b : Bounds) → IsWithin b (table [] 0)
unfolding table map_of reservations
within-none b = record {
  allocations = (let size = len-empty tuple_cmp Entry in omega arith);
  reserved = (let size = len-empty nat_cmp Reservation in omega arith);
  permissions = λ f e is. absurd (no_entries f e is);
  channels = λ f e is. absurd (no_entries f e is);
}

pub tables-within : (b : Bounds) (h : History) (t : ℕ) → IsFitting b h → clock h ≤ t → IsWithin b (table h t)
tables-within b h t fits below =
    always b (IsInRange b) (λ t. IsWithin b) (λ s t c le. within-purged b t c) (λ e c range fits w. within-applied b e.moment e.tuple c w e.act fits)
    (within-none b) h t fits (fits_in_range b [] h fits) below
