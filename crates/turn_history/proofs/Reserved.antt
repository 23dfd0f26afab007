-- Reserved ports: no entry has one, their ranges, and by which event each is reserved.
use Rattle.std.proofs.Common.{◌≡◌, ℕ, ◌+◌, ◌≤◌, ◌<◌, Bool, true, false, cond, Option, Some, None, [], ◌∷◌, ◌++◌, reverse, refl, sym, ap, ◌∙◌, subst, arith, append_assoc, max, inl, inr, nat_eq, ◌⊎◌, append-nil}
use Rattle.std.specs.Option.{option_or}
use Rattle.std.specs.List.{AllByRecursion}
use Rattle.std.proofs.lemmas.Bool.{eqb-true, eqb-false, eq-eqb, ne_eqb}
use Rattle.std.proofs.lemmas.Option.{same_Some}
use Rattle.std.specs.FinMap as fin
use Rattle.turn_history.specs.Prelude.{FiveTuple, Bounds, Token, Fits, FitsReservation, Follows, FitsAfter, IsFitting, IsInRange, IsActInRange, IsTokenOf, IsReservationInRange, AreReservationsInRange, PortIsFree, PlainAct, Allocates, Renews, Permits, Binds, Event, History, clock, first_some, reservation_at, reservation_by, reservation_with, flat, reservation, ReservedApart, IsAllocOf, Reserves, ReservedAt, Contents, applied, purged, reserving, table}
use Rattle.turn_history.specs.declared.reservation.Reservation.{Reservation}
use Rattle.turn_history.proofs.Histories.{always, fits_in_range, below_first, below_rest, fitting-split, clock-append}
use Rattle.turn_history.proofs.Reading.{of_reservations, ahead_is, ahead_at, Makes, all_applied, applied-reserved, at_alloc, get-purged_reserved, get-reserved, get-with_reservation, purged_from, reservation-push}
use Rattle.turn_history.proofs.Places.{all-append, by_last}
use Rattle.turn_types.specs.Prelude.{reservation_lifetime}

-- ---- What is left of a reservation

-- what an Alloc leaves of the reservation of a port: the new one of the port after its own, or an old one of another port
module _ (t q port : ℕ) (r : Reservation) (old : Option Reservation) where
  abbrev pub IsLeft : Option Token → Type 0
  IsLeft token = (k : Token) × (token ≡ Some k) × (q ≡ port + 1) × (r ≡ record { token = k; expiry = t + reservation_lifetime })

  pub left_by : (token : Option Token) → at_alloc t q port token old ≡ Some r → IsLeft token ⊎ ((q ≡ port → ⊥) × (old ≡ Some r))
  left_by None is = by_test (nat_eq q port) refl is
    where
      by_test : (b : Bool) → nat_eq q port ≡ b → cond b None old ≡ Some r → IsLeft None ⊎ ((q ≡ port → ⊥) × (old ≡ Some r))
      by_test true e is = cc
      by_test false e is = inr (eqb-false q port e, is)
  left_by (Some k) is = by_tests (nat_eq q (port + 1)) refl (nat_eq q port) refl is
    where
      by_tests : (b : Bool) → nat_eq q (port + 1) ≡ b → (a : Bool) → nat_eq q port ≡ a → cond b (Some (record { token = k; expiry = t + reservation_lifetime })) (cond a None old) ≡ Some r → IsLeft (Some k) ⊎ ((q ≡ port → ⊥) × (old ≡ Some r))
      by_tests true eb a ea is = inl (k, refl, eqb-true q (port + 1) eb, sym (same_Some _ r is))
      by_tests false eb true ea is = cc
      by_tests false eb false ea is = inr (eqb-false q port ea, is)

-- ---- No entry has a reserved port

pub reserved-purged : (t : ℕ) (c : Contents) → ReservedApart c → ReservedApart (purged t c)
reserved-purged t c apart q r is f e has same =
    let was = ahead_is of_reservations t (fin.get c.reserved q) r (sym (get-purged_reserved t c q) ∙ is) in
    let x = purged_from t c f e has in
    apart q r was.0 f x.0 x.1 (ap (λ y. y.port) x.3 ∙ same)

module _ (b : Bounds) (t : ℕ) (f : FiveTuple) (c : Contents) (apart : ReservedApart c) where
  -- a port that no entry has, nor the act's own
  free_after : (d : PlainAct) (q : ℕ) → PortIsFree c q → (IsAllocOf q d → ⊥) → PortIsFree (applied t f d c) q
  free_after d q free other = all_applied (λ g e. e.port ≡ q → ⊥) t f d c (λ g e is. free g e is) (made d other)
    where
      made : (d : PlainAct) → (IsAllocOf q d → ⊥) → Makes (λ e. e.port ≡ q → ⊥) t d (fin.get c.entries f)
      made (Allocates user port granted tx token) other = other
      made (Renews granted) other = λ some x is. free f x is
      made (Permits addresses) other = λ x is. free f x is
      made (Binds number peer) other = λ x is. free f x is

  pub reserved-applied : (d : PlainAct) → Fits b c f d → ReservedApart (applied t f d c)
  reserved-applied d fits q r is = by_act d fits (sym (ap (λ m. fin.get m q) (applied-reserved t f d c)) ∙ is)
    where
      by_act : (d : PlainAct) → Fits b c f d → fin.get (reserving t d c.reserved) q ≡ Some r → PortIsFree (applied t f d c) q
      by_act (Allocates user port granted tx token) fits is = by_token token fits.3 (left_by t q port r (fin.get c.reserved q) token (sym (get-with_reservation t q port token c.reserved) ∙ is))
        where
          by_token : (token : Option Token) → FitsReservation b c port token → IsLeft t q port r (fin.get c.reserved q) token ⊎ ((q ≡ port → ⊥) × (fin.get c.reserved q ≡ Some r)) → PortIsFree (applied t f (Allocates user port granted tx token) c) q
          by_token None room (inl new) = let no = new.1 in cc
          by_token (Some k) room (inl new) =
              free_after (Allocates user port granted tx (Some k)) q (subst (PortIsFree c) (sym new.2) room.1) (λ same. let next = new.2 in omega (arith, same, next))
          by_token token room (inr old) = free_after (Allocates user port granted tx token) q (apart q r old.1) (λ same. old.0 (sym same))
      by_act (Renews granted) fits is = free_after (Renews granted) q (apart q r is) (λ no. no)
      by_act (Permits addresses) fits is = free_after (Permits addresses) q (apart q r is) (λ no. no)
      by_act (Binds number peer) fits is = free_after (Binds number peer) q (apart q r is) (λ no. no)

none_reserved : (q : ℕ) (r : Reservation) → fin.get (table [] 0).reserved q ≡ Some r → ⊥
unfolding reservation
none_reserved q r is = let none : None ≡ Some r = sym (get-reserved [] 0 q) ∙ is in cc

-- the ports of live allocations and the reserved ports are all distinct
pub reserved-apart : (b : Bounds) (h : History) (t : ℕ) → IsFitting b h → clock h ≤ t → ReservedApart (table h t)
reserved-apart b h t fits below =
    always b (IsInRange b) (λ t. ReservedApart) (λ s t c le. reserved-purged t c) (λ e c range fits apart. reserved-applied b e.moment e.tuple c apart e.act fits)
    (λ q r is. absurd (none_reserved q r is)) h t fits (fits_in_range b [] h fits) below

-- ---- Ranges

pub reservations-purged : (t u : ℕ) (c : Contents) → t ≤ u → AreReservationsInRange t c → AreReservationsInRange u (purged u c)
reservations-purged t u c le all q r is =
    let was = ahead_is of_reservations u (fin.get c.reserved q) r (sym (get-purged_reserved u c q) ∙ is) in
    let range = all q r was.0 in
    record { port = range.port; token = range.token; expiry = (was.1, omega (arith, range.expiry.1)) }

pub reservations-applied : (b : Bounds) (t : ℕ) (f : FiveTuple) (d : PlainAct) (c : Contents) → IsActInRange b d → AreReservationsInRange t c → AreReservationsInRange t (applied t f d c)
reservations-applied b t f d c range all q r is = by_act d range (sym (ap (λ m. fin.get m q) (applied-reserved t f d c)) ∙ is)
  where
    by_act : (d : PlainAct) → IsActInRange b d → fin.get (reserving t d c.reserved) q ≡ Some r → IsReservationInRange t q r
    by_act (Allocates user port granted tx token) range is = by_token token range (left_by t q port r (fin.get c.reserved q) token (sym (get-with_reservation t q port token c.reserved) ∙ is))
      where
        by_token : (token : Option Token) → IsActInRange b (Allocates user port granted tx token) → IsLeft t q port r (fin.get c.reserved q) token ⊎ ((q ≡ port → ⊥) × (fin.get c.reserved q ≡ Some r)) → IsReservationInRange t q r
        by_token None range (inl new) = let no = new.1 in cc
        by_token (Some k) range (inl new) =
            let is : k ≡ new.0 = same_Some k new.0 new.1 in
            subst (IsReservationInRange t q) (sym new.3) (record {
              port = (omega (arith, new.2, range.4.0, range.1), omega (arith, new.2, range.4.0));
              token = subst (λ p. IsTokenOf p new.0) (sym new.2) (subst (IsTokenOf (port + 1)) is range.4.1);
              expiry = (omega arith, omega arith);
            })
        by_token token range (inr old) = all q r old.1
    by_act (Renews granted) range is = all q r is
    by_act (Permits addresses) range is = all q r is
    by_act (Binds number peer) range is = all q r is

pub reservations_in_range : (b : Bounds) (h : History) (t : ℕ) → IsFitting b h → clock h ≤ t → AreReservationsInRange t (table h t)
reservations_in_range b h t fits below =
    always b (IsInRange b) AreReservationsInRange reservations-purged (λ e c range fits. reservations-applied b e.moment e.tuple e.act c range.act)
    (λ q r is. absurd (none_reserved q r is)) h t fits (fits_in_range b [] h fits) below

-- ---- By which event

-- an act that says nothing of a port is no Alloc of it
says_none : (q m : ℕ) (d : PlainAct) → reservation_by q m d ≡ None → IsAllocOf q d → ⊥
says_none q m (Allocates user port granted tx token) says same = let yes : nat_eq q port ≡ true = eq-eqb q port (sym same) in let no : Some None ≡ None = ap (λ b. cond b (Some None) (reservation_with q m port token)) (sym yes) ∙ says in cc
says_none q m (Renews granted) says same = same
says_none q m (Permits addresses) says same = same
says_none q m (Binds number peer) says same = same

-- an act that makes a reservation of a port
says_some : (q m : ℕ) (d : PlainAct) (r : Reservation) → reservation_by q m d ≡ Some (Some r) → Reserves q r.token d × (r.expiry ≡ m + reservation_lifetime)
says_some q m (Allocates user port granted tx token) r says = by_test (nat_eq q port) says
  where
    by_token : (token : Option Token) → reservation_with q m port token ≡ Some (Some r) → Reserves q r.token (Allocates user port granted tx token) × (r.expiry ≡ m + reservation_lifetime)
    by_token None says = cc
    by_token (Some k) says = by_next (nat_eq q (port + 1)) refl says
      where
        by_next : (b : Bool) → nat_eq q (port + 1) ≡ b → cond b (Some (Some (record { token = k; expiry = m + reservation_lifetime }))) None ≡ Some (Some r) → Reserves q r.token (Allocates user port granted tx (Some k)) × (r.expiry ≡ m + reservation_lifetime)
        by_next true e says =
            let is : record { token = k; expiry = m + reservation_lifetime } ≡ r = same_Some _ r (same_Some _ (Some r) says) in
            ((sym (eqb-true q (port + 1) e), ap (λ x. Some x.token) is), sym (ap (λ x. x.expiry) is))
        by_next false e says = cc

    by_test : (b : Bool) → cond b (Some None) (reservation_with q m port token) ≡ Some (Some r) → Reserves q r.token (Allocates user port granted tx token) × (r.expiry ≡ m + reservation_lifetime)
    by_test true says = let no = same_Some None (Some r) says in cc
    by_test false says = by_token token says
says_some q m (Renews granted) r says = cc
says_some q m (Permits addresses) r says = cc
says_some q m (Binds number peer) r says = cc

-- by places: the reservation is of an event after which there is no Alloc of the port
module _ (t q : ℕ) (r : Reservation) (young : t < r.expiry) where
  abbrev pub IsMade : History → Type 0
  IsMade h = (m : ℕ) × (r.expiry ≡ m + reservation_lifetime) × ReservedAt h t q r.token m

  push_made : (h : History) (e : Event) → (IsAllocOf q e.act → ⊥) → IsMade h → IsMade (h ++ e ∷ [])
  push_made h e none made =
      let a = made.2 in (
        made.0,
        made.1,
        record {
          before = a.before;
          event = a.event;
          after = a.after ++ e ∷ [];
          place = ap (λ k. k ++ e ∷ []) a.place ∙ append_assoc a.before (a.event ∷ a.after) (e ∷ []);
          reserves = a.reserves;
          moment = a.moment;
          untaken = all-append _ a.after (e ∷ []) a.untaken (none, tt);
          ahead = a.ahead;
        },
      )

  made_by : (h : History) → reservation h q ≡ Some r → IsMade h
  unfolding reservation
  made_by = by_last (λ h. reservation h q ≡ Some r → IsMade h) (λ is. cc) push
    where
      push : (h : History) (e : Event) → (reservation h q ≡ Some r → IsMade h) → reservation (h ++ e ∷ []) q ≡ Some r → IsMade (h ++ e ∷ [])
      push h e ih is = by_answer (reservation_at q e) refl (sym (reservation-push h e q) ∙ is)
        where
          by_answer : (o : Option (Option Reservation)) → reservation_at q e ≡ o → flat (option_or o (first_some (reservation_at q) (reverse h))) ≡ Some r → IsMade (h ++ e ∷ [])
          by_answer None says is = push_made h e (says_none q e.moment e.act says) (ih is)
          by_answer (Some None) says is = cc
          by_answer (Some (Some s)) says is =
              let one = says_some q e.moment e.act r (says ∙ ap Some is) in
              let last = one.1 in
              (e.moment, last, record { before = h; event = e; after = []; place = refl; reserves = one.0; moment = refl; untaken = tt; ahead = omega arith })

-- the table has a reservation: some event made it, which is young enough and after which the port wasn't allocated
pub reserved-at : (h : History) (t q : ℕ) (token : Token) (x : ℕ) → fin.get (table h t).reserved q ≡ Some (record { token = token; expiry = x }) → (m : ℕ) × (x ≡ m + reservation_lifetime) × ReservedAt h t q token m
reserved-at h t q token x is =
    let was = ahead_is of_reservations t (reservation h q) (record { token = token; expiry = x }) (sym (get-reserved h t q) ∙ is) in
    made_by t q (record { token = token; expiry = x }) was.1 h was.0

-- what an event that reserves a port says of it
reserves_says : (q m : ℕ) (token : Token) (d : PlainAct) → Reserves q token d → reservation_by q m d ≡ Some (Some (record { token = token; expiry = m + reservation_lifetime }))
reserves_says q m token (Allocates user port granted tx its) (next, is) =
    let other : nat_eq q port ≡ false = ne_eqb q port (λ same. omega (arith, next, same)) in
    let here : nat_eq q (port + 1) ≡ true = eq-eqb q (port + 1) (sym next) in
    ap (λ b. cond b (Some None) (reservation_with q m port its)) other
    ∙ ap (reservation_with q m port) is
    ∙ ap (λ b. cond b (Some (Some (record { token = token; expiry = m + reservation_lifetime }))) None) here
reserves_says q m token (Renews granted) reserves = absurd reserves
reserves_says q m token (Permits addresses) reserves = absurd reserves
reserves_says q m token (Binds number peer) reserves = absurd reserves

reservation-one : (h : History) (e : Event) (q : ℕ) (r : Reservation) → reservation_at q e ≡ Some (Some r) → reservation (h ++ e ∷ []) q ≡ Some r
reservation-one h e q r says = reservation-push h e q ∙ ap (λ o. flat (option_or o (first_some (reservation_at q) (reverse h)))) says

-- an act that fits and is no Alloc of a reserved port says nothing of it
module _ (b : Bounds) (h : History) (q : ℕ) (r : Reservation) (is : reservation h q ≡ Some r) where
  quiet : (e : Event) → Follows b h e → e.moment < r.expiry → (d : PlainAct) → Fits b (table h e.moment) e.tuple d → (IsAllocOf q d → ⊥) → reservation_by q e.moment d ≡ None
  quiet e follows young (Allocates user port granted tx token) fits other =
      ap (λ c. cond c (Some None) (reservation_with q e.moment port token)) (ne_eqb q port (λ same. other (sym same))) ∙ by_token token fits.3
    where
      there : fin.get (table h e.moment).reserved q ≡ Some r
      there = get-reserved h e.moment q ∙ ahead_at of_reservations e.moment (reservation h q) r is young

      by_token : (token : Option Token) → FitsReservation b (table h e.moment) port token → reservation_with q e.moment port token ≡ None
      by_token None room = refl
      by_token (Some k) room = ap (λ c. cond c (Some (Some (record { token = k; expiry = e.moment + reservation_lifetime }))) None) (ne_eqb q (port + 1) (λ same. let no : Some r ≡ None = sym there ∙ ap (fin.get (table h e.moment).reserved) same ∙ room.2 in cc))
  quiet e follows young (Renews granted) fits other = refl
  quiet e follows young (Permits addresses) fits other = refl
  quiet e follows young (Binds number peer) fits other = refl

  stays : (e : Event) → reservation_at q e ≡ None → reservation (h ++ e ∷ []) q ≡ Some r
  unfolding reservation
  stays e says = reservation-push h e q ∙ ap (λ o. flat (option_or o (first_some (reservation_at q) (reverse h)))) says ∙ is

stays_all : (b : Bounds) (h es : History) (q : ℕ) (r : Reservation) → reservation h q ≡ Some r → FitsAfter b h es → clock es < r.expiry → AllByRecursion (λ e. IsAllocOf q e.act → ⊥) es → reservation (h ++ es) q ≡ Some r
stays_all b h [] q r is fits young none = ap (λ l. reservation l q) (append-nil h) ∙ is
stays_all b h (e ∷ es) q r is fits young none =
    let first = below_first e es (clock (e ∷ es)) (omega arith) in
    let rest = below_rest e es (clock (e ∷ es)) (omega arith) in
    ap (λ l. reservation l q) (sym (append_assoc h (e ∷ []) es))
    ∙ stays_all b (h ++ e ∷ []) es q r (stays b h q r is e (quiet b h q r is e fits.0 (omega arith) e.act fits.0.fits none.0)) fits.1 (omega arith) none.1

-- and where some event made it, the table has it
pub at-reserved : (b : Bounds) (h : History) (t q : ℕ) (token : Token) (m : ℕ) → IsFitting b h → clock h ≤ t → ReservedAt h t q token m → fin.get (table h t).reserved q ≡ Some (record { token = token; expiry = m + reservation_lifetime })
at-reserved b h t q token m fits below a =
    get-reserved h t q ∙ ahead_at of_reservations t (reservation h q) r whole a.ahead
  where
    r : Reservation
    r = record { token = token; expiry = m + reservation_lifetime }

    parts : FitsAfter b (a.before ++ a.event ∷ []) a.after
    parts = subst (λ l. FitsAfter b l a.after) refl (fitting-split b (a.before ++ a.event ∷ []) a.after (subst (IsFitting b) (a.place ∙ sym (append_assoc a.before (a.event ∷ []) a.after)) fits)).1

    young : clock a.after < m + reservation_lifetime
    young =
        let join : clock h ≡ max (clock a.before) (clock (a.event ∷ a.after)) = ap clock a.place ∙ clock-append a.before (a.event ∷ a.after) in
        let rest = below_rest a.event a.after (clock (a.event ∷ a.after)) (omega arith) in
        omega (arith, a.ahead)

    whole : reservation h q ≡ Some r
    whole =
        ap (λ l. reservation l q) (a.place ∙ sym (append_assoc a.before (a.event ∷ []) a.after))
        ∙ stays_all b (a.before ++ a.event ∷ []) a.after q r
        (reservation-one a.before a.event q r (reserves_says q a.event.moment token a.event.act a.reserves ∙ ap (λ n. Some (Some (record { token = token; expiry = n + 30 }))) a.moment))
        parts young a.untaken
