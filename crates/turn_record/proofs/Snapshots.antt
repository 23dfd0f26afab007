-- The readers of snapshots read what the encodings encode, and what they read is a table in its ranges.
use Rattle.std.proofs.Common.{◌≡◌, ℕ, ◌+◌, ◌^◌, ◌<◌, ◌≤◌, false, Option, Some, None, List, [], ◌++◌, length, Ok, refl, sym, ap, subst, ◌∙◌, arith, nat_cmp, eq-eqb, eqb-true}
use Rattle.std.specs.Int.{w32, w64, to_be_bytes}
use Rattle.std.specs.List.{AllByRecursion, list_any}
use Rattle.std.specs.FinMap as fin
use Rattle.std.specs.FinMap.{entries_sorted, get-empty, len-empty, len-entries, nat_cmp-IsAntisymmetric, same_map}
use Rattle.std.proofs.lemmas.Cmp.{nat_cmp_total}
use Rattle.std.proofs.lemmas.List.{nil_from_length}
use Rattle.turn_history.specs.Prelude.{Contents, Entry, Reservations, FiveTuple, Bounds}
use Rattle.turn_history.specs.declared.reservation.Reservation.{Reservation}
use Rattle.turn_history.proofs.Entries.{all_entries, of_entries}
use Rattle.turn_history.proofs.Maps.{tuple_total, tuple_exact}
use Rattle.turn_history.proofs.Tests.{free_port_is, port_is_free}
use Rattle.turn_record.specs.Prelude.{each, entry, head, reserved, snapshot, ◌>>=◌, many, moment_at, Holds, IsSnapshot, EncodesSnapshot, Head, entry_at, total_at, reserved_at, head_at, table_at, snapshot_at, snapshot_in}
use Rattle.turn_record.specs.declared.version.Version.{Version}
use Rattle.turn_record.specs.declared.version.Version.TheVariants.{V1, V2}
use Rattle.turn_record.proofs.Acts.{not_is, not_from, codec_moment}
use Rattle.turn_record.proofs.Apart.{each_more, each_both, each_alone, alone_each, Apart, apart_new, new_apart}
use Rattle.turn_record.proofs.Readers.{Codec, EachAfter, IsBytes, Reads, chain, codec_many, made, in_words, one_encoding, reads_chain, reads_in_words, whole_again, whole_takes}
use Rattle.turn_record.proofs.Reserves.{FitsReservations, IsReserved, all_reserved, few_reserved, codec_reserved}
use Rattle.turn_record.proofs.Rising.{rising_sorted}
use Rattle.turn_record.proofs.Tables.{FitsEntry, HoldsToken, IsOne, by_keys, entries_rise, tuples_rise, from_keys, codec_entry, codec_total, same_port, same_ports}
use Rattle.turn_types.specs.Prelude.{tuple_cmp, AreInRange, max_lifetime, end_of_moments}

-- ---- Maps without reserved ports

pub none_at : (m : Reservations) → fin.entries m ≡ [] → (q : ℕ) → fin.get m q ≡ None
none_at m none q = by_answer (fin.get m q) refl
  where
    by_answer : (o : Option Reservation) → fin.get m q ≡ o → o ≡ None
    by_answer None e = refl
    by_answer (Some r) e = absurd (of_entries nat_cmp_total nat_cmp-IsAntisymmetric (λ (p : ℕ × Reservation). ⊥) m (subst (AllByRecursion (λ (p : ℕ × Reservation). ⊥)) (sym none) tt) q r e)

abbrev none : Reservations
none = fin.empty

pub nothing_there : fin.entries none ≡ []
nothing_there = nil_from_length _ (sym (len-entries none) ∙ len-empty nat_cmp Reservation)

no_entries : (m : Reservations) → ((q : ℕ) → fin.get m q ≡ None) → fin.entries m ≡ []
no_entries m none =
    let empty : m ≡ fin.empty = same_map nat_cmp_total nat_cmp-IsAntisymmetric m fin.empty (λ q. none q ∙ sym (get-empty nat_cmp q)) in
    nil_from_length _ (sym (len-entries m) ∙ ap fin.len empty ∙ len-empty nat_cmp Reservation)

-- ---- Snapshots

abbrev FitsContents : Version → Bounds → ℕ → Contents → Type 0
FitsContents v b t c = EachAfter (FitsEntry v b t) [] (fin.entries c.entries) × FitsReservations v b t (fin.entries c.entries) c.reserved

holds : (v : Version) (b : Bounds) (t : ℕ) (c : Contents) → FitsReservations v b t (fin.entries c.entries) c.reserved → ((f : FiveTuple) (e : Entry) → fin.get c.entries f ≡ Some e → HoldsToken v e.token) → Holds v c
holds V1 b t c reservations tokens = record { reserved = none_at c.reserved reservations; entries = tokens }
holds V2 b t c reservations tokens = tt

is_snapshot : (v : Version) (b : Bounds) (t : ℕ) (c : Contents) → t < end_of_moments → fin.len c.entries ≤ b.allocations → FitsContents v b t c → IsSnapshot v b t c
is_snapshot v b t c moment few h =
    let one = of_entries tuple_total tuple_exact (IsOne v b t) c.entries (each_alone (IsOne v b t) [] (fin.entries c.entries) (each_more _ _ (λ before p fits. fits.1.1) [] (fin.entries c.entries) h.0)) in
    let apart : Apart tuple_cmp same_port (fin.entries c.entries) = apart_new tuple_cmp same_port tuple_total same_ports (fin.entries c.entries) (each_more _ _ (λ before p fits. fits.1.0) [] (fin.entries c.entries) h.0) in
    let at = of_entries nat_cmp_total nat_cmp-IsAntisymmetric (IsReserved t (fin.entries c.entries)) c.reserved (all_reserved v b t (fin.entries c.entries) c.reserved h.1) in
    record {
      at = record {
        moment = moment;
        values = λ f e is. let p = (one f e is).0 in (p.tuple, p.values);
        reserved = λ q r is. (at q r is).0;
        reserved_apart = λ q r is. port_is_free c q (not_is _ (at q r is).1);
        within = record { allocations = few; reserved = few_reserved v b t (fin.entries c.entries) c.reserved h.1; permissions = λ f e is. (one f e is).0.permissions; channels = λ f e is. (one f e is).0.channels };
        ports = λ f g x y is is2 e. by_keys tuple_cmp tuple_total tuple_exact same_port c.entries apart f g x y is is2 (eq-eqb y.port x.port (sym e));
        peers = λ f e is. (one f e is).0.peers;
      };
      holds = holds v b t c h.1 (λ f e is. (one f e is).1);
    }

holds_token : (v : Version) (c : Contents) → Holds v c → (f : FiveTuple) (e : Entry) → fin.get c.entries f ≡ Some e → HoldsToken v e.token
holds_token V1 c h f e is = h.entries f e is
holds_token V2 c h f e is = tt

reservations_are : (v : Version) (b : Bounds) (t : ℕ) (c : Contents) → IsSnapshot v b t c → FitsReservations v b t (fin.entries c.entries) c.reserved
reservations_are V1 b t c s = no_entries c.reserved s.holds.reserved
reservations_are V2 b t c s = (
  s.at.within.reserved,
  entries_rise _ c.reserved
      (alone_each (IsReserved t (fin.entries c.entries)) [] (fin.entries c.reserved)
      (all_entries nat_cmp_total nat_cmp-IsAntisymmetric (IsReserved t (fin.entries c.entries)) c.reserved (λ q r is. (s.at.reserved q r is, not_from _ (free_port_is c q (s.at.reserved_apart q r is)))))),
)

entries_are : (v : Version) (b : Bounds) (t : ℕ) (c : Contents) → IsSnapshot v b t c → EachAfter (FitsEntry v b t) [] (fin.entries c.entries)
entries_are v b t c s =
    let m = c.entries in
    let one : (f : FiveTuple) (e : Entry) → fin.get m f ≡ Some e → IsOne v b t (f, e) = λ f e is.
    let w = s.at.values f e is in
    (record { tuple = w.0; values = w.1; permissions = s.at.within.permissions f e is; channels = s.at.within.channels f e is; peers = s.at.peers f e is }, holds_token v c s.holds f e is) in
    let apart = from_keys tuple_cmp tuple_total tuple_exact same_port m (λ f g x y is is2 e. s.at.ports f g x y is is2 (sym (eqb-true y.port x.port e))) in
    let rises = rising_sorted tuple_cmp tuple_total (fin.entries m) (entries_sorted m) in
    let new = new_apart tuple_cmp same_port tuple_total same_ports (fin.entries m) (entries_sorted m) apart in
    let values = alone_each (IsOne v b t) [] (fin.entries m) (all_entries tuple_total tuple_exact (IsOne v b t) m one) in
    each_both _ _ _ (λ before p up more. (up, more)) [] (fin.entries m) rises (each_both _ _ (λ before p. (list_any (same_port p) before ≡ false) × IsOne v b t p) (λ before p other value. (other, value)) [] (fin.entries m) new values)

-- what a table has after its head
abbrev tail : Version → ℕ × Contents → List ℕ
tail v y = each (entry v) (fin.entries y.1.entries) ++ reserved v y.1.reserved

abbrev FitsTable : Version → Bounds → ℕ → ℕ → ℕ × Contents → Type 0
FitsTable v b t n y = (y.0 ≡ t) × (((length (fin.entries y.1.entries) ≡ n) × EachAfter (FitsEntry v b t) [] (fin.entries y.1.entries)) × FitsReservations v b t (fin.entries y.1.entries) y.1.reserved)

reads_table : (v : Version) (b : Bounds) → AreInRange b → (t : ℕ) → t + max_lifetime < 2 ^ 64 → (n : ℕ) → Reads (table_at v b t n []) (tail v) (FitsTable v b t n)
unfolding table_at
reads_table v b range t room n =
    reads_chain (many (entry_at v b t) n []) (each (entry v)) (λ es. (length es ≡ n) × EachAfter (FitsEntry v b t) [] es) (λ es bytes. reserved_at v b t es bytes) (λ es y. reserved v y.1.reserved) (λ (y : ℕ × Contents). fin.entries y.1.entries) (λ y. y.0 ≡ t) (λ es y. FitsReservations v b t es y.1.reserved)
    ((codec_many (entry_at v b t) (entry v) (FitsEntry v b t) (codec_entry {U = Unit {0}} v b (λ under. range) t (λ under. room)) n).reads tt)
    (λ es h. (codec_reserved t es (tuples_rise v b t es h.1) {U = Unit {0}} v b (λ under. range) (λ under. omega (arith, room))).reads tt)

abbrev FitsHead : Bounds → Head → Type 0
FitsHead b h = (h.moment < end_of_moments) × (h.count ≤ b.allocations)

pub codec_head : {U : Type 0} (b : Bounds) → (U → AreInRange b) → Codec U (head_at b) (λ h. head h.moment h.count) (FitsHead b) 12
unfolding head_at
codec_head b range =
    in_words (head_at b) _ (λ h. head h.moment h.count) _ (FitsHead b)
    (chain moment_at (to_be_bytes w64) (λ t. t < end_of_moments) (λ t bytes. total_at b bytes >>= λ n. Ok (record { moment = t; count = n.0 }, n.1)) _ (λ (h : Head). h.moment) (λ h. Unit {0}) _ codec_moment
    (λ t. chain (total_at b) (to_be_bytes w32) (λ n. n ≤ b.allocations) (λ n bytes. Ok (record { moment = t; count = n }, bytes)) _ (λ (h : Head). h.count) (λ h. Unit {0} × (h.moment ≡ t)) _ (codec_total b range)
    (λ n. made (record { moment = t; count = n }) (λ h. (Unit {0} × (h.moment ≡ t)) × (h.count ≡ n)) ((tt, refl), refl) (λ h q. rw (← q.0.1, ← q.1) refl))))
    (λ h. refl) (λ h p. (p.1.0, p.1.1.0)) (λ h p. (tt, (p.0, (p.1, tt))))

-- the head of a table at a moment
abbrev head_of : ℕ × Contents → Head
head_of y = record { moment = y.0; count = fin.len y.1.entries }

pub reads_snapshot : (v : Version) (b : Bounds) → AreInRange b → Reads (snapshot_at v b) (λ y. snapshot v y.0 y.1) (λ y. IsSnapshot v b y.0 y.1)
unfolding snapshot_at snapshot
reads_snapshot v b range =
    reads_in_words (snapshot_at v b) _ (λ y. snapshot v y.0 y.1) _ (λ y. IsSnapshot v b y.0 y.1)
    (reads_chain (head_at b) (λ h. head h.moment h.count) (FitsHead b) (λ h bytes. table_at v b h.moment h.count [] bytes) (λ h y. tail v y) head_of (λ y. Unit {0}) (λ h y. FitsContents v b h.moment y.1) ((codec_head {U = Unit {0}} b (λ under. range)).reads tt)
    (λ h fits. reads_in_words _ _ _ _ (λ y. (Unit {0} × (head_of y ≡ h)) × FitsContents v b h.moment y.1) (reads_table v b range h.moment (omega (arith, fits.0)) h.count)
    (λ y. refl) (λ y p. let moment = p.0 in let count = len-entries y.1.entries ∙ p.1.0.0 in ((tt, λ i. record { moment = moment i; count = count i }), (p.1.0.1, p.1.1)))
    (λ y p. (ap (λ (k : Head). k.moment) p.0.1, ((sym (len-entries y.1.entries) ∙ ap (λ (k : Head). k.count) p.0.1, p.1.0), p.1.1)))))
    (λ y. refl)
    (λ y p. is_snapshot v b y.0 y.1 p.1.0.0 p.1.0.1 p.1.1)
    (λ y s. (tt, ((s.at.moment, s.at.within.allocations), (entries_are v b y.0 y.1 s, reservations_are v b y.0 y.1 s))))

pub snapshot_found : (v : Version) (b : Bounds) → AreInRange b → (bytes : List ℕ) → IsBytes bytes → (y : ℕ × Contents) → snapshot_in v b bytes ≡ Ok y → EncodesSnapshot v b y.0 y.1 bytes
unfolding snapshot_in
snapshot_found v b range bytes fits y h = let p = whole_takes (snapshot_at v b) (λ y. snapshot v y.0 y.1) (λ y. IsSnapshot v b y.0 y.1) (reads_snapshot v b range) bytes y fits h in record { fits = p.0; is = p.1 }

pub snapshot_again : (v : Version) (b : Bounds) → AreInRange b → (bytes : List ℕ) (t : ℕ) (c : Contents) → EncodesSnapshot v b t c bytes → snapshot_in v b bytes ≡ Ok (t, c)
unfolding snapshot_in
snapshot_again v b range bytes t c h = ap (snapshot_in v b) h.is ∙ whole_again (snapshot_at v b) (λ y. snapshot v y.0 y.1) (λ y. IsSnapshot v b y.0 y.1) (reads_snapshot v b range) (t, c) h.fits

-- no encoding begins another's
pub one_snapshot : (v : Version) (b : Bounds) → AreInRange b → (t u : ℕ) (c d : Contents) (x y : List ℕ) → IsSnapshot v b t c → IsSnapshot v b u d → snapshot v t c ++ x ≡ snapshot v u d ++ y → (t ≡ u) × (c ≡ d) × (x ≡ y)
one_snapshot v b range t u c d x y p q e =
    let both = one_encoding (snapshot_at v b) (λ y. snapshot v y.0 y.1) (λ y. IsSnapshot v b y.0 y.1) (reads_snapshot v b range) (t, c) (u, d) x y p q e in
    (ap (λ (z : ℕ × Contents). z.0) both.0, ap (λ (z : ℕ × Contents). z.1) both.0, both.1)
