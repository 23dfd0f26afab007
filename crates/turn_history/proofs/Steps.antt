-- The table of a history after one more event, and at a later moment.
use Rattle.std.proofs.Common.{◌≡◌, ℕ, ◌+◌, ◌≤◌, Bool, true, false, cond, ◌||◌, is_some, not, Option, Some, None, List, [], ◌∷◌, ◌++◌, refl, sym, ap, ◌∙◌, subst, arith, ltb, eqb, lt-ltb, reverse, nat_eq, IsSome, nat_cmp, eqb-true}
use Rattle.std.specs.Option.{option_or, option_and_then, option_map}
use Rattle.std.proofs.lemmas.Cmp.{nat_cmp_total}
use Rattle.std.specs.List.{list_any}
use Rattle.std.proofs.lemmas.Bool.Decides.{nat_tests}
use Rattle.std.specs.FinMap as fin
use Rattle.std.specs.FinMap.{FinMap, get-insert, same_map, nat_cmp-IsAntisymmetric}
use Rattle.turn_history.specs.Prelude.{Endpoint, FiveTuple, Token, Bounds, Fits, IsActInRange, PlainAct, Allocates, Renews, Permits, Binds, Event, History, first_some, own, Allocation, allocation_at, span_at, until_first, addresses_of, permission_at, channel_at, reservation_with, reservation_by, reservation_at, flat, reservation, Contents, ahead, channel_ahead, map_of, permissions_in, channels_in, entry_with, entry_in, entry_of, table, install, still_permitted, still_bound, kept, purged, renewed, permitting, binding, applied_to, applied, reservation_ahead, reserving}
use Rattle.turn_history.specs.declared.channel.Channel.{Channel}
use Rattle.turn_history.specs.declared.reservation.Reservation.{Reservation}
use Rattle.turn_types.specs.Prelude.{tuple_cmp, same_tuple, permission_lifetime, channel_lifetime, reservation_lifetime}
use Rattle.turn_history.proofs.Reading.{of_permissions, of_channels, of_reservations, ahead_at, ahead-later, fresh, nat_same, get-permissions_in, get-channels_in, get-table, get-still_permitted, get-still_bound, get-purged, get-applied, same_contents, get-reserved, get-purged_reserved, applied-reserved, reservation-push, at_alloc, get-with_reservation}
use Rattle.turn_history.proofs.Maps.{tuple_exact, from_eq}
use Rattle.turn_history.proofs.Places.{own-push}

-- ---- At a later moment

pub still_permitted-later : (t u : ℕ) → t ≤ u → (es : List Event) → still_permitted u (permissions_in t es) ≡ permissions_in u es
still_permitted-later t u le es = same_map nat_cmp_total nat_cmp-IsAntisymmetric _ _ (λ a.
    get-still_permitted u (permissions_in t es) a ∙ ap (ahead u) (get-permissions_in t es a)
    ∙ ahead-later of_permissions t u le (first_some (permission_at a) es) ∙ sym (get-permissions_in u es a))

pub still_bound-later : (t u : ℕ) → t ≤ u → (es : List Event) → still_bound u (channels_in t es) ≡ channels_in u es
still_bound-later t u le es = same_map nat_cmp_total nat_cmp-IsAntisymmetric _ _ (λ n.
    get-still_bound u (channels_in t es) n ∙ ap (channel_ahead u) (get-channels_in t es n)
    ∙ ahead-later of_channels t u le (first_some (channel_at n) es) ∙ sym (get-channels_in u es n))

kept-entry_with : (u : ℕ) (ps : FinMap nat_cmp ℕ) (cs : FinMap nat_cmp Channel) (a : Option Allocation) (o : Option ℕ)
    → option_and_then (kept u) (entry_with ps cs a o) ≡ entry_with (still_permitted u ps) (still_bound u cs) a (ahead u o)
kept-entry_with u ps cs None o = refl
kept-entry_with u ps cs (Some a) None = refl
kept-entry_with u ps cs (Some a) (Some x) = by_test (ltb u x)
  where
    by_test : (b : Bool) → cond b (entry_with (still_permitted u ps) (still_bound u cs) (Some a) (Some x)) None ≡ entry_with (still_permitted u ps) (still_bound u cs) (Some a) (cond b (Some x) None)
    by_test true = refl
    by_test false = refl

-- an entry at a later moment is what of it has not expired
pub entry_in-later : (t u : ℕ) → t ≤ u → (es : List Event) → option_and_then (kept u) (entry_in t es) ≡ entry_in u es
unfolding entry_in
entry_in-later t u le es =
    let since = until_first (λ e. is_some (allocation_at e)) es in
    kept-entry_with u (permissions_in t since) (channels_in t since) (first_some allocation_at es) (ahead t (first_some span_at es))
    ∙ (λ i. entry_with (still_permitted-later t u le since i) (still_bound-later t u le since i) (first_some allocation_at es) (ahead-later of_permissions t u le (first_some span_at es) i))

pub table-later : (h : History) (t u : ℕ) → t ≤ u → purged u (table h t) ≡ table h u
table-later h t u le = same_contents _ _ (λ f.
    get-purged u (table h t) f ∙ ap (option_and_then (kept u)) (get-table h t f) ∙ entry_in-later t u le (own h f) ∙ sym (get-table h u f))
    (λ q. get-purged_reserved u (table h t) q ∙ ap (reservation_ahead u) (get-reserved h t q) ∙ ahead-later of_reservations t u le (reservation h q) ∙ sym (get-reserved h u q))

-- ---- After one more event

pub get-install : (x : ℕ) (addresses : List ℕ) (m : FinMap nat_cmp ℕ) (a : ℕ) → fin.get (install x addresses m) a ≡ cond (list_any (nat_eq a) addresses) (Some x) (fin.get m a)
get-install x [] m a = refl
get-install x (k ∷ ks) m a =
    get-insert nat_cmp_total (install x ks m) k x a
    ∙ ap (λ b. cond b (Some x) (fin.get (install x ks m) a)) (nat_same a k)
    ∙ ap (cond (nat_eq a k) (Some x)) (get-install x ks m a)
    ∙ one_test (nat_eq a k) (list_any (nat_eq a) ks) (fin.get m a)
  where
    one_test : (b c : Bool) (o : Option ℕ) → cond b (Some x) (cond c (Some x) o) ≡ cond (b || c) (Some x) o
    one_test true c o = refl
    one_test false c o = refl

abbrev pub event : ℕ → FiveTuple → PlainAct → Event
event m f d = record { moment = m; tuple = f; act = d }

-- an act installs its addresses for 300 s
permissions_in-more : (m : ℕ) (f : FiveTuple) (d : PlainAct) (es : List Event) → permissions_in m (event m f d ∷ es) ≡ install (m + permission_lifetime) (addresses_of d) (permissions_in m es)
permissions_in-more m f d es = same_map nat_cmp_total nat_cmp-IsAntisymmetric _ _ (λ a.
    get-permissions_in m (event m f d ∷ es) a
    ∙ fresh of_permissions m (m + permission_lifetime) (omega arith) (list_any (nat_eq a) (addresses_of d)) (first_some (permission_at a) es)
    ∙ sym (get-install (m + permission_lifetime) (addresses_of d) (permissions_in m es) a ∙ ap (cond (list_any (nat_eq a) (addresses_of d)) (Some (m + permission_lifetime))) (get-permissions_in m es a)))

-- a Bind binds its number for 600 s
channels_in-bound : (m : ℕ) (f : FiveTuple) (n : ℕ) (p : Endpoint) (es : List Event) → channels_in m (event m f (Binds n p) ∷ es) ≡ fin.insert (channels_in m es) n (record { peer = p; expiry = m + channel_lifetime })
channels_in-bound m f n p es = same_map nat_cmp_total nat_cmp-IsAntisymmetric _ _ (λ k.
    get-channels_in m (event m f (Binds n p) ∷ es) k
    ∙ fresh of_channels m bound (omega arith) (nat_eq k n) (first_some (channel_at k) es)
    ∙ sym (get-insert nat_cmp_total (channels_in m es) n bound k ∙ ap (λ b. cond b (Some bound) (fin.get (channels_in m es) k)) (nat_same k n) ∙ ap (cond (nat_eq k n) (Some bound)) (get-channels_in m es k)))
  where
    bound : Channel
    bound = record { peer = p; expiry = m + channel_lifetime }

module _ (ps : FinMap nat_cmp ℕ) (cs : FinMap nat_cmp Channel) where
  no_entry : (a : Option Allocation) → entry_with ps cs a None ≡ None
  no_entry None = refl
  no_entry (Some a) = refl

  renews : (x : ℕ) (a : Option Allocation) (o : Option ℕ) → IsSome (entry_with ps cs a o) → entry_with ps cs a (Some x) ≡ option_map (renewed x) (entry_with ps cs a o)
  renews x None o h = cc
  renews x (Some a) None h = cc
  renews x (Some a) (Some y) h = refl

  permits : (x : ℕ) (addresses : List ℕ) (a : Option Allocation) (o : Option ℕ) → entry_with (install x addresses ps) cs a o ≡ option_map (permitting x addresses) (entry_with ps cs a o)
  permits x addresses None o = refl
  permits x addresses (Some a) None = refl
  permits x addresses (Some a) (Some y) = refl

  binds : (m n : ℕ) (p : Endpoint) (a : Option Allocation) (o : Option ℕ)
      → entry_with (fin.insert ps p.ip (m + permission_lifetime)) (fin.insert cs n (record { peer = p; expiry = m + channel_lifetime })) a o ≡ option_map (binding m n p) (entry_with ps cs a o)
  binds m n p None o = refl
  binds m n p (Some a) None = refl
  binds m n p (Some a) (Some y) = refl

grants : (m granted : ℕ) → ltb m (m + granted) ≡ not (eqb granted 0)
grants m granted = grind (arith, nat_tests)

-- the entry after one more act of its five-tuple, which fits a table with the entry
pub entry_in-more : (b : Bounds) (m : ℕ) (f : FiveTuple) (d : PlainAct) (es : List Event) (c : Contents) → fin.get c.entries f ≡ entry_in m es
    → IsActInRange b d → Fits b c f d → entry_in m (event m f d ∷ es) ≡ applied_to m d (entry_in m es)
unfolding entry_in permissions_in channels_in map_of
entry_in-more b m f (Allocates user port granted tx token) es c is in_range fits =
    ap (λ b. entry_with fin.empty fin.empty (Some (record { user = user; port = port; granted = granted; tx = tx; token = token })) (cond b (Some (m + granted)) None))
    (lt-ltb m (m + granted) (omega (arith, in_range.2.0)))
entry_in-more b m f (Renews granted) es c is in_range fits =
    (λ i. entry_with (permissions_in-more m f (Renews granted) since i) (channels_in m since) made (cond (grants m granted i) (Some (m + granted)) None))
    ∙ by_test (eqb granted 0)
  where
    since : List Event
    since = until_first (λ e. is_some (allocation_at e)) es

    made : Option Allocation
    made = first_some allocation_at es

    by_test : (b : Bool) → entry_with (permissions_in m since) (channels_in m since) made (cond (not b) (Some (m + granted)) None) ≡ cond b None (option_map (renewed (m + granted)) (entry_in m es))
    by_test true = no_entry _ _ made
    by_test false = renews _ _ (m + granted) made (ahead m (first_some span_at es)) (subst IsSome is fits)
entry_in-more b m f (Permits addresses) es c is in_range fits =
    (λ i. entry_with (permissions_in-more m f (Permits addresses) since i) (channels_in m since) (first_some allocation_at es) (ahead m (first_some span_at es)))
    ∙ permits _ _ (m + permission_lifetime) addresses (first_some allocation_at es) (ahead m (first_some span_at es))
  where
    since : List Event
    since = until_first (λ e. is_some (allocation_at e)) es
entry_in-more b m f (Binds number peer) es c is in_range fits =
    (λ i. entry_with (permissions_in-more m f (Binds number peer) since i) (channels_in-bound m f number peer since i) (first_some allocation_at es) (ahead m (first_some span_at es)))
    ∙ binds _ _ m number peer (first_some allocation_at es) (ahead m (first_some span_at es))
  where
    since : List Event
    since = until_first (λ e. is_some (allocation_at e)) es

-- the reservation of a port after one more act
reservation-more : (h : History) (e : Event) (q : ℕ) → fin.get (table (h ++ e ∷ []) e.moment).reserved q ≡ fin.get (applied e.moment e.tuple e.act (table h e.moment)).reserved q
unfolding reservation
reservation-more h e q =
    get-reserved (h ++ e ∷ []) e.moment q ∙ ap (reservation_ahead e.moment) (reservation-push h e q)
    ∙ by_act e.act
    ∙ sym (ap (λ m. fin.get m q) (applied-reserved e.moment e.tuple e.act (table h e.moment)))
  where
    rest : Option (Option Reservation)
    rest = first_some (reservation_at q) (reverse h)

    before : reservation_ahead e.moment (flat rest) ≡ fin.get (table h e.moment).reserved q
    before = sym (get-reserved h e.moment q)

    by_port : (port : ℕ) (token : Option Token) → reservation_ahead e.moment (flat (option_or (cond (nat_eq q port) (Some None) (reservation_with q e.moment port token)) rest)) ≡ at_alloc e.moment q port token (fin.get (table h e.moment).reserved q)
    by_port port None = by_test (nat_eq q port)
      where
        by_test : (b : Bool) → reservation_ahead e.moment (flat (option_or (cond b (Some None) None) rest)) ≡ cond b None (fin.get (table h e.moment).reserved q)
        by_test true = refl
        by_test false = before
    by_port port (Some token) = by_tests (nat_eq q port) refl (nat_eq q (port + 1)) refl
      where
        made : Reservation
        made = record { token = token; expiry = e.moment + reservation_lifetime }

        by_tests : (a : Bool) → nat_eq q port ≡ a → (b : Bool) → nat_eq q (port + 1) ≡ b → reservation_ahead e.moment (flat (option_or (cond a (Some None) (cond b (Some (Some made)) None)) rest)) ≡ cond b (Some made) (cond a None (fin.get (table h e.moment).reserved q))
        by_tests true ea true eb = let one = eqb-true q port ea in let other = eqb-true q (port + 1) eb in absurd (omega (arith, one, other))
        by_tests true ea false eb = refl
        by_tests false ea true eb = ahead_at of_reservations e.moment (Some made) made refl (omega arith)
        by_tests false ea false eb = before

    by_act : (d : PlainAct) → reservation_ahead e.moment (flat (option_or (reservation_by q e.moment d) rest)) ≡ fin.get (reserving e.moment d (table h e.moment).reserved) q
    by_act (Allocates user port granted tx token) = by_port port token ∙ sym (get-with_reservation e.moment q port token (table h e.moment).reserved)
    by_act (Renews granted) = before
    by_act (Permits addresses) = before
    by_act (Binds number peer) = before

pub table-more : (b : Bounds) (h : History) (e : Event) → IsActInRange b e.act → Fits b (table h e.moment) e.tuple e.act
    → table (h ++ e ∷ []) e.moment ≡ applied e.moment e.tuple e.act (table h e.moment)
table-more b h e in_range fits = same_contents _ _ (λ f.
    get-table (h ++ e ∷ []) e.moment f ∙ ap (entry_in e.moment) (own-push h e f)
    ∙ by_test f (same_tuple f e.tuple) refl
    ∙ sym (get-applied e.moment e.tuple e.act (table h e.moment) f ∙ ap (λ o. cond (same_tuple f e.tuple) (applied_to e.moment e.act o) (fin.get (table h e.moment).entries f)) (get-table h e.moment e.tuple) ∙ ap (cond (same_tuple f e.tuple) (applied_to e.moment e.act (entry_of h e.moment e.tuple))) (get-table h e.moment f)))
    (reservation-more h e)
  where
    by_test : (f : FiveTuple) (t : Bool) → same_tuple f e.tuple ≡ t → entry_in e.moment (cond t (e ∷ own h f) (own h f)) ≡ cond t (applied_to e.moment e.act (entry_of h e.moment e.tuple)) (entry_of h e.moment f)
    by_test f false is = refl
    by_test f true is =
        ap (λ g. entry_in e.moment (e ∷ own h g)) (from_eq tuple_cmp tuple_exact f e.tuple is)
        ∙ entry_in-more b e.moment e.tuple e.act (own h e.tuple) (table h e.moment) (get-table h e.moment e.tuple) in_range fits
