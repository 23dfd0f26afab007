-- What the table of a history answers, after one more event and at a later moment.
use Rattle.std.proofs.Common.{◌≡◌, ℕ, ◌+◌, ◌≤◌, ◌<◌, Bool, true, false, cond, Option, Some, None, List, [], ◌∷◌, ◌++◌, is_some, map, reverse, refl, sym, ap, ◌∙◌, subst, arith, ltb, lt-ltb, ltb-true, eqb, nat_eq}
use Rattle.std.specs.Option.{option_or, option_and_then, option_map}
use Rattle.std.specs.Ordering.{nat_cmp, eq_by_cmp}
use Rattle.std.proofs.lemmas.Cmp.{nat_cmp_total}
use Rattle.std.specs.List.{flat_map, list_any}
use Rattle.std.proofs.lemmas.List.{append-nil, reverse-append}
use Rattle.std.proofs.lemmas.List.Concat.{flat_map-append}
use Rattle.std.proofs.lemmas.List.Folds.{list_any-append}
use Rattle.std.proofs.lemmas.Bool.{or_from, or_parts, eqb-false}
use Rattle.std.proofs.lemmas.Bool.Decides.{nat_tests}
use Rattle.std.proofs.lemmas.Option.{cond_some, option_and_then_some, same_Some}
use Rattle.std.specs.FinMap as fin
use Rattle.std.specs.FinMap.{FinMap, get-insert, get-remove, same_map, nat_cmp-IsAntisymmetric}
use Rattle.turn_history.specs.Prelude.{FiveTuple, Token, PlainAct, Allocates, Renews, Permits, Binds, Event, History, first_some, own, addresses_of, numbers_of, permission_at, channel_at, channel_by, reserved_by, reservation_with, reservation_by, reservation_at, flat, reservation, ahead, channel_ahead, Entry, permissions_in, channels_in, entry_in, entry_of, Contents, table, still_permitted, still_bound, map_of, kept, purged, allocated, renewed, permitting, binding, applied_to, with_entry, applied, Reservations, reservation_ahead, reservations, still_reserved, with_reservation, reserving}
use Rattle.turn_history.specs.declared.channel.Channel.{Channel}
use Rattle.turn_history.specs.declared.reservation.Reservation.{Reservation}
use Rattle.turn_types.specs.Prelude.{tuple_cmp, same_tuple, permission_lifetime, channel_lifetime, reservation_lifetime}
use Rattle.turn_history.proofs.Maps.{tuple_total, tuple_exact, from_eq, get-map_of-all, outside_keys}
use Rattle.turn_history.proofs.Places.{own-cons}

-- ---- Tests

-- the order's test of equal numbers is the plain one
pub nat_same : (a k : ℕ) → eq_by_cmp nat_cmp a k ≡ nat_eq a k
nat_same a k = grind (arith, nat_tests)

any_same : (a : ℕ) (ks : List ℕ) → list_any (eq_by_cmp nat_cmp a) ks ≡ list_any (nat_eq a) ks
any_same a ks = λ i. list_any (λ k. nat_same a k i) ks

-- a test of what expires after a moment, as `ahead`, `channel_ahead` and `reservation_ahead` are
pub record IsAhead {X : Type 0} (expiry : X → ℕ) (left : ℕ → Option X → Option X) : Type 0 where
  pub none : (t : ℕ) → left t None ≡ None
  pub some : (t : ℕ) (x : X) → left t (Some x) ≡ cond (ltb t (expiry x)) (Some x) None

pub of_permissions : IsAhead (λ x. x) ahead
of_permissions = record { none = λ t. refl; some = λ t x. refl }

pub of_channels : IsAhead (λ c. c.expiry) channel_ahead
of_channels = record { none = λ t. refl; some = λ t x. refl }

pub of_reservations : IsAhead (λ r. r.expiry) reservation_ahead
of_reservations = record { none = λ t. refl; some = λ t x. refl }

module _ {X : Type 0} {expiry : X → ℕ} {left : ℕ → Option X → Option X} (test : IsAhead expiry left) where
  -- what is left was there, and expires later
  pub ahead_is : (t : ℕ) (o : Option X) (x : X) → left t o ≡ Some x → (o ≡ Some x) × (t < expiry x)
  ahead_is t None x h = let no = test.none t in cc
  ahead_is t (Some y) x h = let p = cond_some (ltb t (expiry y)) y x (sym (test.some t y) ∙ h) in (ap Some p.1, subst (λ z. t < expiry z) p.1 (ltb-true t (expiry y) p.0))

  pub ahead_at : (t : ℕ) (o : Option X) (x : X) → o ≡ Some x → t < expiry x → left t o ≡ Some x
  ahead_at t o x is h = ap (left t) is ∙ test.some t x ∙ ap (λ b. cond b (Some x) None) (lt-ltb t (expiry x) h)

  pub some_ahead : (t : ℕ) (o : Option X) → is_some (left t o) ≡ true → is_some o ≡ true
  some_ahead t None h = let no = ap is_some (test.none t) in cc
  some_ahead t (Some x) h = refl

  pub fresh : (t : ℕ) (x : X) → t < expiry x → (b : Bool) (o : Option X) → left t (option_or (cond b (Some x) None) o) ≡ cond b (Some x) (left t o)
  fresh t x young true o = ahead_at t (Some x) x refl young
  fresh t x young false o = refl

  pub ahead-later : (t u : ℕ) → t ≤ u → (o : Option X) → left u (left t o) ≡ left u o
  ahead-later t u le None = ap (left u) (test.none t)
  ahead-later t u le (Some x) = ap (left u) (test.some t x) ∙ by_test (ltb t (expiry x)) refl
    where
      by_test : (b : Bool) → ltb t (expiry x) ≡ b → left u (cond b (Some x) None) ≡ left u (Some x)
      by_test true e = refl
      by_test false e = let past : ltb u (expiry x) ≡ false = grind (arith, nat_tests) in test.none u ∙ sym (test.some u x ∙ ap (λ b. cond b (Some x) None) past)

  -- the map of what is left of each value
  pub get-left : (t : ℕ) (m : FinMap nat_cmp X) (k : ℕ) → fin.get (map_of nat_cmp (fin.keys m) (λ j. left t (fin.get m j))) k ≡ left t (fin.get m k)
  get-left t m k =
      get-map_of-all nat_cmp_total nat_cmp-IsAntisymmetric (fin.keys m) (λ j. left t (fin.get m j)) k
      (λ none. ap (left t) (outside_keys nat_cmp_total nat_cmp-IsAntisymmetric m k none) ∙ test.none t)

-- ---- A five-tuple's own events

pub own-none : (h : History) (f : FiveTuple) → list_any (eq_by_cmp tuple_cmp f) (map (λ e. e.tuple) h) ≡ false → own h f ≡ []
unfolding own
own-none [] f none = refl
own-none (e ∷ h) f none = own-cons e h f ∙ ap (λ xs. xs ++ cond (same_tuple f e.tuple) (e ∷ []) []) (own-none h f (or_parts _ _ none).1) ∙ ap (λ b. cond b (e ∷ []) []) (or_parts _ _ none).0

-- ---- What the maps answer

-- P holds of the first answer of events that name no such key
none_named : {X : Type 0} (P : Option X → Type 0) (keys : PlainAct → List ℕ) (g : Event → Option X) (a : ℕ) → P None
    → ((e : Event) → list_any (eq_by_cmp nat_cmp a) (keys e.act) ≡ false → (o : Option X) → P o → P (option_or (g e) o)) → (es : List Event)
    → list_any (eq_by_cmp nat_cmp a) (flat_map (λ e. keys e.act) es) ≡ false → P (first_some g es)
none_named P keys g a none step [] outside = none
none_named P keys g a none step (e ∷ es) outside =
    let split = or_parts _ _ (sym (list_any-append (eq_by_cmp nat_cmp a) (keys e.act) (flat_map (λ x. keys x.act) es)) ∙ outside) in
    step e split.0 (first_some g es) (none_named P keys g a none step es split.1)

permission-none : (es : List Event) (a : ℕ) → list_any (eq_by_cmp nat_cmp a) (flat_map (λ e. addresses_of e.act) es) ≡ false → first_some (permission_at a) es ≡ None
permission-none es a = none_named (λ o. o ≡ None) addresses_of (permission_at a) a refl
    (λ e outside o rest. ap (λ b. option_or (cond b (Some (e.moment + permission_lifetime)) None) o) (sym (any_same a (addresses_of e.act)) ∙ outside) ∙ rest) es

pub get-permissions_in : (t : ℕ) (es : List Event) (a : ℕ) → fin.get (permissions_in t es) a ≡ ahead t (first_some (permission_at a) es)
unfolding permissions_in
get-permissions_in t es a =
    get-map_of-all nat_cmp_total nat_cmp-IsAntisymmetric (flat_map (λ e. addresses_of e.act) es) (λ k. ahead t (first_some (permission_at k) es)) a
    (λ none. ap (ahead t) (permission-none es a none))

channel-none : (es : List Event) (n : ℕ) → list_any (eq_by_cmp nat_cmp n) (flat_map (λ e. numbers_of e.act) es) ≡ false → first_some (channel_at n) es ≡ None
channel-none es n = none_named (λ o. o ≡ None) numbers_of (channel_at n) n refl (λ e outside o rest. ap (λ c. option_or c o) (here e.moment e.act outside) ∙ rest) es
  where
    here : (m : ℕ) (d : PlainAct) → list_any (eq_by_cmp nat_cmp n) (numbers_of d) ≡ false → channel_by n m d ≡ None
    here m (Allocates user port granted tx token) none = refl
    here m (Renews granted) none = refl
    here m (Permits addresses) none = refl
    here m (Binds number peer) none = ap (λ b. cond b (Some (record { peer = peer; expiry = m + channel_lifetime })) None) (sym (nat_same n number) ∙ (or_parts _ _ none).0)

pub get-channels_in : (t : ℕ) (es : List Event) (n : ℕ) → fin.get (channels_in t es) n ≡ channel_ahead t (first_some (channel_at n) es)
unfolding channels_in
get-channels_in t es n =
    get-map_of-all nat_cmp_total nat_cmp-IsAntisymmetric (flat_map (λ e. numbers_of e.act) es) (λ k. channel_ahead t (first_some (channel_at k) es)) n
    (λ none. ap (channel_ahead t) (channel-none es n none))

-- the table has the entry of each live five-tuple, and no other
pub get-table : (h : History) (t : ℕ) (f : FiveTuple) → fin.get (table h t).entries f ≡ entry_of h t f
unfolding table entry_in
get-table h t f =
    get-map_of-all tuple_total tuple_exact (map (λ e. e.tuple) h) (entry_of h t) f
    (λ none. ap (entry_in t) (own-none h f none))

pub get-still_permitted : (t : ℕ) (m : FinMap nat_cmp ℕ) (a : ℕ) → fin.get (still_permitted t m) a ≡ ahead t (fin.get m a)
unfolding still_permitted
get-still_permitted = get-left of_permissions

pub get-still_bound : (t : ℕ) (m : FinMap nat_cmp Channel) (n : ℕ) → fin.get (still_bound t m) n ≡ channel_ahead t (fin.get m n)
unfolding still_bound
get-still_bound = get-left of_channels

pub get-purged : (t : ℕ) (c : Contents) (f : FiveTuple) → fin.get (purged t c).entries f ≡ option_and_then (kept t) (fin.get c.entries f)
unfolding purged
get-purged t c f =
    get-map_of-all tuple_total tuple_exact (fin.keys c.entries) (λ k. option_and_then (kept t) (fin.get c.entries k)) f
    (λ none. ap (option_and_then (kept t)) (outside_keys tuple_total tuple_exact c.entries f none))

pub get-applied : (t : ℕ) (f : FiveTuple) (d : PlainAct) (c : Contents) (q : FiveTuple) → fin.get (applied t f d c).entries q ≡ cond (same_tuple q f) (applied_to t d (fin.get c.entries f)) (fin.get c.entries q)
unfolding applied
get-applied t f d c q = by_entry (applied_to t d (fin.get c.entries f))
  where
    by_entry : (o : Option Entry) → fin.get (with_entry c.entries f o) q ≡ cond (same_tuple q f) o (fin.get c.entries q)
    by_entry None = get-remove tuple_total c.entries f q
    by_entry (Some e) = get-insert tuple_total c.entries f e q

-- what of an entry has not expired
abbrev pub left : ℕ → Entry → Entry
left t e = record e { permissions = still_permitted t e.permissions; channels = still_bound t e.channels }

-- an entry of a purged table is what is left of one that is ahead
pub purged_from : (t : ℕ) (c : Contents) (f : FiveTuple) (e : Entry) → fin.get (purged t c).entries f ≡ Some e → (x : Entry) × (fin.get c.entries f ≡ Some x) × (t < x.expiry) × (left t x ≡ e)
purged_from t c f e is = option_and_then_some (kept t) (fin.get c.entries f) e (sym (get-purged t c f) ∙ is) (λ x was same. let p = cond_some (ltb t x.expiry) (left t x) e same in (x, was, ltb-true t x.expiry p.0, p.1))

-- P holds of what an act makes of an entry
abbrev pub Makes : (Entry → Type 0) → ℕ → PlainAct → Option Entry → Type 0
Makes P t (Allocates user port granted tx token) o = P (allocated t user port granted tx token)
Makes P t (Renews granted) o = (granted ≡ 0 → ⊥) → (x : Entry) → o ≡ Some x → P (renewed (t + granted) x)
Makes P t (Permits addresses) o = (x : Entry) → o ≡ Some x → P (permitting (t + permission_lifetime) addresses x)
Makes P t (Binds number peer) o = (x : Entry) → o ≡ Some x → P (binding t number peer x)

mapped : (P : Entry → Type 0) (g : Entry → Entry) (o : Option Entry) (e : Entry) → ((x : Entry) → o ≡ Some x → P (g x)) → option_map g o ≡ Some e → P e
mapped P g None e makes is = cc
mapped P g (Some x) e makes is = subst P (same_Some (g x) e is) (makes x refl)

made : (P : Entry → Type 0) (t : ℕ) (d : PlainAct) (o : Option Entry) (e : Entry) → Makes P t d o → applied_to t d o ≡ Some e → P e
made P t (Allocates user port granted tx token) o e makes is = subst P (same_Some _ e is) makes
made P t (Renews granted) o e makes is = by_test (eqb granted 0) refl is
  where
    by_test : (b : Bool) → eqb granted 0 ≡ b → cond b None (option_map (renewed (t + granted)) o) ≡ Some e → P e
    by_test true all is = cc
    by_test false some is = mapped P (renewed (t + granted)) o e (makes (eqb-false granted 0 some)) is
made P t (Permits addresses) o e makes is = mapped P (permitting (t + permission_lifetime) addresses) o e makes is
made P t (Binds number peer) o e makes is = mapped P (binding t number peer) o e makes is

-- what holds of each entry, and of what an act makes of its own, holds of each entry after the act
pub all_applied : (P : FiveTuple → Entry → Type 0) (t : ℕ) (f : FiveTuple) (d : PlainAct) (c : Contents) → ((q : FiveTuple) (e : Entry) → fin.get c.entries q ≡ Some e → P q e) → Makes (P f) t d (fin.get c.entries f) → (q : FiveTuple) (e : Entry) → fin.get (applied t f d c).entries q ≡ Some e → P q e
all_applied P t f d c all makes q e is = by_test (same_tuple q f) refl (sym (get-applied t f d c q) ∙ is)
  where
    by_test : (b : Bool) → same_tuple q f ≡ b → cond b (applied_to t d (fin.get c.entries f)) (fin.get c.entries q) ≡ Some e → P q e
    by_test true same is = subst (λ k. P k e) (sym (from_eq tuple_cmp tuple_exact q f same)) (made (P f) t d (fin.get c.entries f) e makes is)
    by_test false other is = all q e is

-- ---- Reservations

reservation-none : (es : List Event) (q : ℕ) → list_any (eq_by_cmp nat_cmp q) (flat_map (λ e. reserved_by e.act) es) ≡ false → flat (first_some (reservation_at q) es) ≡ None
reservation-none es q = none_named (λ o. flat o ≡ None) reserved_by (reservation_at q) q refl (λ e. by_act e.moment e.act) es
  where
    by_act : (m : ℕ) (d : PlainAct) → list_any (eq_by_cmp nat_cmp q) (reserved_by d) ≡ false → (o : Option (Option Reservation)) → flat o ≡ None → flat (option_or (reservation_by q m d) o) ≡ None
    by_act m (Allocates user port granted tx token) none o rest = by_test (nat_eq q port) token none
      where
        by_test : (b : Bool) (token : Option Token) → list_any (eq_by_cmp nat_cmp q) (reserved_by (Allocates user port granted tx token)) ≡ false
            → flat (option_or (cond b (Some None) (reservation_with q m port token)) o) ≡ None
        by_test true token none = refl
        by_test false None none = rest
        by_test false (Some token) none =
            ap (λ b. flat (option_or (cond b (Some (Some (record { token = token; expiry = m + reservation_lifetime }))) None) o)) (sym (nat_same q (port + 1)) ∙ (or_parts _ _ none).0)
            ∙ rest
    by_act m (Renews granted) none o rest = rest
    by_act m (Permits addresses) none o rest = rest
    by_act m (Binds number peer) none o rest = rest

reserved-rev : (h : History) (q : ℕ) → list_any (eq_by_cmp nat_cmp q) (flat_map (λ e. reserved_by e.act) h) ≡ false → list_any (eq_by_cmp nat_cmp q) (flat_map (λ e. reserved_by e.act) (reverse h)) ≡ false
reserved-rev [] q none = refl
reserved-rev (e ∷ h) q none =
    let split = or_parts _ _ (sym (list_any-append (eq_by_cmp nat_cmp q) (reserved_by e.act) (flat_map (λ x. reserved_by x.act) h)) ∙ none) in
    rw (reverse-append (e ∷ []) h, flat_map-append, list_any-append, append-nil) (or_from _ _ (reserved-rev h q split.1) split.0)

-- the table has the reservation of each reserved port, and no other
pub get-reserved : (h : History) (t q : ℕ) → fin.get (table h t).reserved q ≡ reservation_ahead t (reservation h q)
unfolding table reservations reservation
get-reserved h t q =
    get-map_of-all nat_cmp_total nat_cmp-IsAntisymmetric (flat_map (λ e. reserved_by e.act) h) (λ k. reservation_ahead t (reservation h k)) q
    (λ none. ap (reservation_ahead t) (reservation-none (reverse h) q (reserved-rev h q none)))

pub reservation-push : (h : History) (e : Event) (q : ℕ) → reservation (h ++ e ∷ []) q ≡ flat (option_or (reservation_at q e) (first_some (reservation_at q) (reverse h)))
unfolding reservation
reservation-push h e q = ap (λ l. flat (first_some (reservation_at q) l)) (reverse-append h (e ∷ []))

pub get-purged_reserved : (t : ℕ) (c : Contents) (q : ℕ) → fin.get (purged t c).reserved q ≡ reservation_ahead t (fin.get c.reserved q)
unfolding purged still_reserved
get-purged_reserved t c q = get-left of_reservations t c.reserved q

pub applied-reserved : (t : ℕ) (f : FiveTuple) (d : PlainAct) (c : Contents) → (applied t f d c).reserved ≡ reserving t d c.reserved
unfolding applied
applied-reserved t f d c = refl

-- what an Alloc makes of the reservation of a port
abbrev pub at_alloc : ℕ → ℕ → ℕ → Option Token → Option Reservation → Option Reservation
at_alloc t q port None old = cond (nat_eq q port) None old
at_alloc t q port (Some token) old = cond (nat_eq q (port + 1)) (Some (record { token = token; expiry = t + reservation_lifetime })) (cond (nat_eq q port) None old)

pub get-with_reservation : (t q port : ℕ) (token : Option Token) (m : Reservations) → fin.get (with_reservation t port token (fin.remove m port)) q ≡ at_alloc t q port token (fin.get m q)
get-with_reservation t q port None m = get-remove nat_cmp_total m port q ∙ ap (λ b. cond b None (fin.get m q)) (nat_same q port)
get-with_reservation t q port (Some token) m =
    get-insert nat_cmp_total (fin.remove m port) (port + 1) (record { token = token; expiry = t + reservation_lifetime }) q
    ∙ ap (λ b. cond b (Some (record { token = token; expiry = t + reservation_lifetime })) (fin.get (fin.remove m port) q)) (nat_same q (port + 1))
    ∙ ap (cond (nat_eq q (port + 1)) (Some (record { token = token; expiry = t + reservation_lifetime }))) (get-remove nat_cmp_total m port q ∙ ap (λ b. cond b None (fin.get m q)) (nat_same q port))

-- tables with one answer at each five-tuple and at each port are one
pub same_contents : (c d : Contents) → ((f : FiveTuple) → fin.get c.entries f ≡ fin.get d.entries f) → ((q : ℕ) → fin.get c.reserved q ≡ fin.get d.reserved q) → c ≡ d
same_contents c d same alike = λ i. record { entries = same_map tuple_total tuple_exact c.entries d.entries same i; reserved = same_map nat_cmp_total nat_cmp-IsAntisymmetric c.reserved d.reserved alike i }
