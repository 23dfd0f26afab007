-- The readers of reserved ports read what the encodings encode.
use Rattle.std.proofs.Math.Nat.{mul-le-mul_right}
use Rattle.turn_record.specs.Prelude.{max_reserved, each, reservation, reserved, ◌>>=◌, last_passes, number_at, many, is_even, token_at, expiry_at, is_free_after, total_at, odd_port_at, reserved_port_after, reservation_at, reserving_at, reserved_at}
use Rattle.std.proofs.Common.{◌≡◌, ℕ, ◌*◌, ◌+◌, ◌^◌, ◌<◌, ◌≤◌, true, not, ◌&&◌, ltb, T, List, [], ◌∷◌, ◌++◌, length, Ok, refl, sym, ap, subst, ◌∙◌, append_assoc, append-nil, arith, ◌%◌, is_lt, nat_cmp}
use Rattle.std.specs.Int.{w16, w32, w64, to_be_bytes}
use Rattle.std.specs.List.{AllByRecursion}
use Rattle.std.specs.FinMap as fin
use Rattle.std.specs.FinMap.{entries-from_sorted, entries_sorted, len-entries, nat_cmp-IsAntisymmetric}
use Rattle.std.proofs.lemmas.Bool.{eqb-false, ltb-true, ne_eqb}
use Rattle.std.proofs.lemmas.Cmp.{nat_cmp_total}
use Rattle.turn_history.specs.Prelude.{IsReservationInRange, Contents, Entry, Reservations, FiveTuple, Bounds}
use Rattle.turn_history.specs.declared.reservation.Reservation.{Reservation}
use Rattle.turn_record.specs.declared.error.DecodeError.TheVariants.{BadValue, OutOfOrder}
use Rattle.turn_record.specs.declared.version.Version.{Version}
use Rattle.turn_record.specs.declared.version.Version.TheVariants.{V1, V2}
use Rattle.turn_record.proofs.Acts.{FitsTokenOf, and_is, and_from, not_is, not_from, codec_token}
use Rattle.turn_record.proofs.Apart.{each_more, each_alone}
use Rattle.turn_record.proofs.Readers.{Codec, EachAfter, IsBytes, at_most, chain, chain_by, codec16, codec_as, codec_judged, codec_many, in_words, made}
use Rattle.turn_record.proofs.Rising.{Rises, all_below, sorted_rising, rising_sorted, true_of}
use Rattle.turn_record.proofs.Tables.{IsAhead, Rising, above_is, less_is, list_rises, map_again, codec_expiry, codec_total, total_passes}
use Rattle.turn_history.proofs.Entries.{of_entries}
use Rattle.turn_table.specs.Prelude.{IsAboveReserved}
use Rattle.turn_types.specs.Prelude.{tuple_cmp, AreInRange, end_of_moments, reservation_lifetime}

-- a reserved port in its range, which none of the entries has
abbrev pub IsReserved : ℕ → List (FiveTuple × Entry) → ℕ × Reservation → Type 0
IsReserved t entries r = IsReservationInRange t r.0 r.1 × (is_free_after entries r.0 ≡ true)

abbrev pub FitsReserved : ℕ → List (FiveTuple × Entry) → List (ℕ × Reservation) → ℕ × Reservation → Type 0
FitsReserved t entries = Rising (λ before. IsReserved t entries)

abbrev IsOdd : List (FiveTuple × Entry) → ℕ → Type 0
IsOdd entries q = (q < 2 ^ 16) × ((q % 2 ≡ 1) × (is_free_after entries q ≡ true))

odd_is : (q : ℕ) → not (is_even q) ≡ true → q % 2 ≡ 1
odd_is q e = let ne = eqb-false (q % 2) 0 (not_is _ e) in omega (arith, ne)

is_odd : (q : ℕ) → q % 2 ≡ 1 → not (is_even q) ≡ true
is_odd q e = not_from _ (ne_eqb (q % 2) 0 (λ none. omega (arith, e, none)))

codec_odd_port : {U : Type 0} (entries : List (FiveTuple × Entry)) → Codec U (odd_port_at entries) (to_be_bytes w16) (IsOdd entries) 2
unfolding odd_port_at
codec_odd_port entries =
    in_words _ _ _ _ _ (codec_judged (number_at w16) (to_be_bytes w16) (λ n. n < 2 ^ 16) (λ q. not (is_even q) && is_free_after entries q) BadValue refl codec16)
    (λ q. refl) (λ q h. let p = and_is _ _ h.1 in (h.0, (odd_is q p.0, p.1))) (λ q h. (h.0, and_from _ _ (is_odd q h.1.0) h.1.1))

abbrev IsNextPort : List (FiveTuple × Entry) → List (ℕ × Reservation) → ℕ → Type 0
IsNextPort entries before q = IsOdd entries q × (last_passes (λ last. ltb last.0 q) before ≡ true)

codec_port_after : {U : Type 0} (entries : List (FiveTuple × Entry)) (before : List (ℕ × Reservation)) → Codec U (reserved_port_after entries before) (to_be_bytes w16) (IsNextPort entries before) 2
unfolding reserved_port_after
codec_port_after entries before = codec_judged (odd_port_at entries) (to_be_bytes w16) (IsOdd entries) (λ q. last_passes (λ last. ltb last.0 q) before) OutOfOrder refl (codec_odd_port entries)

pub codec_reservation : {U : Type 0} (t : ℕ) → (U → t + reservation_lifetime < 2 ^ 64) → (entries : List (FiveTuple × Entry)) (before : List (ℕ × Reservation)) → Codec U (reservation_at t entries before) reservation (FitsReserved t entries before) 18
unfolding reservation_at
codec_reservation t room entries before =
    in_words (reservation_at t entries before) _ reservation _ (FitsReserved t entries before)
    (chain (reserved_port_after entries before) (to_be_bytes w16) (IsNextPort entries before) (λ q bytes. token_at q bytes >>= λ k. expiry_at t reservation_lifetime k.1 >>= λ x. Ok ((q, record { token = k.0; expiry = x.0 }), x.1)) _ (λ (r : ℕ × Reservation). r.0) (λ r. Unit {0}) _ (codec_port_after entries before)
    (λ q. chain (token_at q) (λ k. k.0) (FitsTokenOf q) (λ k bytes. expiry_at t reservation_lifetime bytes >>= λ x. Ok ((q, record { token = k; expiry = x.0 }), x.1)) _ (λ (r : ℕ × Reservation). r.1.token) (λ r. Unit {0} × (r.0 ≡ q)) _ (codec_token q)
    (λ k. chain (expiry_at t reservation_lifetime) (to_be_bytes w64) (IsAhead t reservation_lifetime) (λ x bytes. Ok ((q, record { token = k; expiry = x }), bytes)) _ (λ (r : ℕ × Reservation). r.1.expiry) (λ r. (Unit {0} × (r.0 ≡ q)) × (r.1.token ≡ k)) _ (codec_expiry t 30 room)
    (λ x. made ((q, record { token = k; expiry = x })) (λ r. ((Unit {0} × (r.0 ≡ q)) × (r.1.token ≡ k)) × (r.1.expiry ≡ x)) (((tt, refl), refl), refl) (λ r e. rw (← e.0.0.1, ← e.0.1, ← e.1) refl)))))
    (λ r. refl)
    (λ r h. (h.1.0.1, (record { port = (h.1.0.0.0, h.1.0.0.1.0); token = h.1.1.0.1; expiry = h.1.1.1.0 }, h.1.0.0.1.1)))
    (λ r h. (tt, (((h.1.0.port.0, (h.1.0.port.1, h.1.1)), h.0), ((h.1.0.port.0, h.1.0.token), (h.1.0.expiry, tt)))))

-- what is read so
pub reservation_read : (t : ℕ) → t < end_of_moments → (entries : List (FiveTuple × Entry)) (before : List (ℕ × Reservation)) (bytes : List ℕ) → IsBytes bytes → (r : ℕ × Reservation) (rest : List ℕ) → reservation_at t entries before bytes ≡ Ok (r, rest) → IsReservationInRange t r.0 r.1
reservation_read t moment entries before bytes all r rest e = (((codec_reservation {U = Unit {0}} t (λ under. omega (arith, moment)) entries before).reads tt).takes bytes r rest all e).fits.1.0

-- the reserved ports of a table beside its entries, as a version can hold them
abbrev pub FitsReservations : Version → Bounds → ℕ → List (FiveTuple × Entry) → Reservations → Type 0
FitsReservations V1 b t entries m = fin.entries m ≡ []
FitsReservations V2 b t entries m = (fin.len m ≤ b.allocations) × EachAfter (FitsReserved t entries) [] (fin.entries m)

pub all_reserved : (v : Version) (b : Bounds) (t : ℕ) (entries : List (FiveTuple × Entry)) (m : Reservations) → FitsReservations v b t entries m → AllByRecursion (IsReserved t entries) (fin.entries m)
all_reserved V1 b t entries m h = subst (AllByRecursion (IsReserved t entries)) (sym h) tt
all_reserved V2 b t entries m h = each_alone (IsReserved t entries) [] (fin.entries m) (each_more _ _ (λ before r fits. fits.1) [] (fin.entries m) h.1)

pub few_reserved : (v : Version) (b : Bounds) (t : ℕ) (entries : List (FiveTuple × Entry)) (m : Reservations) → FitsReservations v b t entries m → fin.len m ≤ b.allocations
few_reserved V1 b t entries m h = omega (arith, len-entries m, ap length h)
few_reserved V2 b t entries m h = h.0

-- a table of these entries and reserved ports
abbrev table_of : List (FiveTuple × Entry) → List (ℕ × Reservation) → Contents
table_of entries rs = record { entries = fin.from_sorted entries; reserved = fin.from_sorted rs }

abbrev HasEntries : ℕ → List (FiveTuple × Entry) → ℕ × Contents → Type 0
HasEntries t entries y = (y.0 ≡ t) × (fin.entries y.1.entries ≡ entries)

-- a table is that of its entries and reserved ports
table_again : (t : ℕ) (entries : List (FiveTuple × Entry)) (rs : List (ℕ × Reservation)) (y : ℕ × Contents) → HasEntries t entries y → fin.entries y.1.reserved ≡ rs → y ≡ (t, table_of entries rs)
table_again t entries rs y h is = λ i. (
  h.0 i,
  record {
    entries = (map_again tuple_cmp y.1.entries ∙ ap (λ (es : List (FiveTuple × Entry)). fin.from_sorted {R = tuple_cmp} es) h.1) i;
    reserved = (map_again nat_cmp y.1.reserved ∙ ap (λ (es : List (ℕ × Reservation)). fin.from_sorted {R = nat_cmp} es) is) i;
  },
)

module _ (t : ℕ) (entries : List (FiveTuple × Entry)) (sorted : T (fin.is_sorted tuple_cmp entries)) where
  entries_are : fin.entries (fin.from_sorted {R = tuple_cmp} entries) ≡ entries
  entries_are = entries-from_sorted tuple_cmp entries sorted

  codec_reserving : {U : Type 0} → (U → t + reservation_lifetime < 2 ^ 64) → (n : ℕ) → Codec U (reserving_at t n entries []) (λ y. each reservation (fin.entries y.1.reserved)) (λ y. (HasEntries t entries y × (fin.len y.1.reserved ≡ n)) × EachAfter (FitsReserved t entries) [] (fin.entries y.1.reserved)) (n * 18)
  unfolding reserving_at
  codec_reserving room n =
      let are = λ (rs : List (ℕ × Reservation)) (h : (length rs ≡ n) × EachAfter (FitsReserved t entries) [] rs). entries-from_sorted nat_cmp rs (list_rises _ rs h.1) in
      let size = λ (rs : List (ℕ × Reservation)) (h : (length rs ≡ n) × EachAfter (FitsReserved t entries) [] rs). len-entries (fin.from_sorted {R = nat_cmp} rs) ∙ ap length (are rs h) ∙ h.0 in
      codec_as (many (reservation_at t entries) n []) (each reservation) (λ rs. (length rs ≡ n) × EachAfter (FitsReserved t entries) [] rs) (λ rs. (t, table_of entries rs)) _ _
      (codec_many (reservation_at t entries) reservation (FitsReserved t entries) (codec_reservation t room entries) n)
      (λ rs h. ap (each reservation) (are rs h)) (λ rs h. (((refl, entries_are), size rs h), rw (are rs h) h.1))
      (λ y h. (fin.entries y.1.reserved, table_again t entries (fin.entries y.1.reserved) y h.0.0 refl, (sym (len-entries y.1.reserved) ∙ h.0.1, h.1)))

  pub codec_reserved : {U : Type 0} (v : Version) (b : Bounds) → (U → AreInRange b) → (U → t + reservation_lifetime < 2 ^ 64) → Codec U (reserved_at v b t entries) (λ y. reserved v y.1.reserved) (λ y. HasEntries t entries y × FitsReservations v b t entries y.1.reserved) (max_reserved v b)
  unfolding reserved_at reserved
  codec_reserved V1 b range room =
      in_words _ _ _ _ _ (made (t, table_of entries []) (λ y. HasEntries t entries y × (fin.entries y.1.reserved ≡ [])) ((refl, entries_are), entries-from_sorted nat_cmp [] tt) (λ y h. table_again t entries [] y h.0 h.1))
      (λ y. refl) (λ y h. h.0) (λ y h. (h, tt))
  codec_reserved V2 b range room =
      at_most _ _ _ _
      (chain_by (total_at b) (to_be_bytes w32) (λ n. n ≤ b.allocations) (λ n bytes. reserving_at t n entries [] bytes) (λ n y. each reservation (fin.entries y.1.reserved)) (λ (y : ℕ × Contents). fin.len y.1.reserved) (HasEntries t entries) (λ n y. EachAfter (FitsReserved t entries) [] (fin.entries y.1.reserved)) (codec_total b range) (total_passes b)
      (λ n few. at_most _ _ _ (b.allocations * 18) (codec_reserving room n) (mul-le-mul_right 18 few)))
      (omega arith)

-- ---- A port above the last one

each_push : {A : Type 0} (P : List A → A → Type 0) (before xs : List A) (x : A) → EachAfter P before xs → P (before ++ xs) x → EachAfter P before (xs ++ x ∷ [])
each_push P before [] x each one = (subst (λ l. P l x) (append-nil before) one, tt)
each_push P before (y ∷ ys) x each one = (each.0, each_push P (before ++ y ∷ []) ys x each.1 (subst (λ l. P l x) (sym (append_assoc before (y ∷ []) ys)) one))

-- is above all
pub above_reserved : (c : Contents) (q : ℕ) → last_passes (λ last. ltb last.0 q) (fin.entries c.reserved) ≡ true → IsAboveReserved c q
above_reserved c q last =
    let es = fin.entries c.reserved in
    let next : ℕ × Reservation = (q, record { token = record { 0 = [] }; expiry = 0 }) in
    let rises = rising_sorted nat_cmp nat_cmp_total es (entries_sorted c.reserved) in
    let sorted = sorted_rising nat_cmp nat_cmp_total (es ++ next ∷ []) (each_push (Rises nat_cmp nat_cmp_total) [] es next rises (sym (above_is es q) ∙ last)) in
    let below = all_below nat_cmp nat_cmp_total es next [] sorted in
    λ k r is. ltb-true k q (sym (less_is k q) ∙ true_of _ (of_entries nat_cmp_total nat_cmp-IsAntisymmetric (λ (p : ℕ × Reservation). T (is_lt (nat_cmp p.0 q))) c.reserved below k r is))
