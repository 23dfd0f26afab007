-- What a step of a reader in pieces keeps.
use Rattle.std.proofs.Common.{◌≡◌, ◌⊎◌, ℕ, zero, suc, ◌+◌, ◌-◌, ◌<◌, ◌≤◌, Bool, true, false, eqb, List, [], ◌∷◌, ◌++◌, append_assoc, length, Option, Some, None, Result, Ok, Err, refl, sym, ap, subst, ◌∙◌, arith, inl, inr, IfOk, IfSome, if◌then◌else◌, is_lt, nat_cmp, Ordering, Less, Equal, Greater}
use Rattle.std.proofs.lemmas.Bool.{eqb-false, eqb-true, ne_eqb}
use Rattle.std.proofs.lemmas.List.{append-nil, length-append, nil_from_length}
use Rattle.turn_record.specs.declared.error.DecodeError.{DecodeError}
use Rattle.turn_record.specs.declared.error.DecodeError.TheVariants.{Short, BadTag, BadValue, OutOfOrder, TrailingBytes}
use Rattle.turn_record.specs.declared.error.ReadError.{ReadError}
use Rattle.turn_record.specs.declared.error.ReadError.TheVariants as errors
use Rattle.std.specs.FinMap as fin
use Rattle.std.specs.FinMap.{len-empty, len-entries}
use Rattle.turn_history.specs.Prelude.{Contents, Entry, Reservations, no_contents, FiveTuple, Bounds}
use Rattle.turn_history.specs.declared.reservation.Reservation.{Reservation}
use Rattle.turn_record.specs.Prelude.{Expects, HasRoom, IsCut, Place, IsWaiting, IsWaitingAt, Next, ends_with_entries, gives, if_whole, is_done, is_short, more_at, Head, entry_at, total_at, reservation_at, reserving_at, reserved_at, head_at, snapshot_at, snapshot_in, table_at, entry_size, max_entry, Field, Fails, Gives, moment_at, passes, whole}
use Rattle.turn_record.specs.declared.snapshot_progress.Remaining.{Remaining}
use Rattle.turn_record.specs.declared.snapshot_progress.Remaining.TheVariants.{Entries, Reserved}
use Rattle.turn_record.specs.declared.version.Version.{Version}
use Rattle.turn_record.specs.declared.version.Version.TheVariants.{V1, V2}
use Rattle.turn_record.proofs.Many.{many_err, many_more, many_none}
use Rattle.turn_record.proofs.Reserves.{codec_reservation}
use Rattle.turn_record.proofs.Snapshots.{codec_head, nothing_there}
use Rattle.turn_record.proofs.Tables.{codec_entry, codec_total, map_again, total_passes}
use Rattle.turn_table.specs.Prelude.{State}
use Rattle.turn_types.specs.Prelude.{tuple_cmp}
use Rattle.turn_record.proofs.Fronts.{Front, Grows, bind_ok, ok_is}

pub next_ok : {A : Type 0} {n : ℕ} (read : List ℕ → Field A) → Front read n → (bytes : List ℕ) (x : A) (rest : List ℕ) → read bytes ≡ Ok (x, rest) → (more : List ℕ) → read (bytes ++ more) ≡ Ok (x, rest ++ more)
next_ok {A} read front bytes x rest e more = subst (λ (r : Field A). Grows r more (read (bytes ++ more))) e (front.grows bytes more)

pub next_err : {A : Type 0} {n : ℕ} (read : List ℕ → Field A) → Front read n → (bytes : List ℕ) (f : DecodeError) → read bytes ≡ Err f → is_short f ≡ false → (more : List ℕ) → read (bytes ++ more) ≡ Err f
next_err {A} read front bytes f e long more = subst (λ (r : Field A). Grows r more (read (bytes ++ more))) e (front.grows bytes more) long

pub next_none : {A : Type 0} (read : List ℕ → Field A) (bytes : List ℕ) (f : DecodeError) → read bytes ≡ Err f → is_short f ≡ true → read bytes ≡ Err Short
next_none read bytes Short e s = e
next_none read bytes BadTag e s = absurd cc
next_none read bytes BadValue e s = absurd cc
next_none read bytes OutOfOrder e s = absurd cc
next_none read bytes TrailingBytes e s = absurd cc

-- what a field gives is what is next, where nothing is given yet while the bytes end inside it
pub next_of : {X Y : Type 0} {n : ℕ} (value : X → Y) (rest : X → List ℕ) (read : List ℕ → Field Y) → Front read n → (bytes : List ℕ) (r : Result X ReadError) → Gives (λ x. (value x, rest x)) r (read bytes)
    → Next value rest (if_whole r) read bytes
next_of value rest read front bytes (Ok x) gives = next_ok read front bytes (value x) (rest x) gives
next_of value rest read front bytes (Err errors.Memory) gives = λ more. tt
next_of value rest read front bytes (Err (errors.Malformed f)) gives = by_fault (is_short f) refl
  where
    by_fault : (b : Bool) → is_short f ≡ b → Next value rest (if b then Ok None else Err (errors.Malformed f)) read bytes
    by_fault true short = next_none read bytes f gives short
    by_fault false whole = next_err read front bytes f gives whole

pub whole_keeps : {X : Type 0} (P : X → Type 0) (r : Result X ReadError) → IfOk r P → IfOk (if_whole r) (λ o. IfSome o P)
whole_keeps P (Ok x) is = is
whole_keeps P (Err errors.Memory) is = tt
whole_keeps P (Err (errors.Malformed f)) is = by_fault (is_short f)
  where
    by_fault : (b : Bool) → IfOk (if b then Ok None else Err (errors.Malformed f)) (λ o. IfSome o P)
    by_fault true = tt
    by_fault false = tt

-- the test of whether bytes are left
pub is_some : (n : ℕ) → false ≡ eqb n 0 → 0 < n
is_some zero e = absurd (eqb-false 0 0 (sym e) refl)
is_some (suc n) e = omega arith

pub ended_late : (n : ℕ) → 0 < n → eqb n 0 ≡ false
ended_late n lt = ne_eqb n 0 (λ e. omega (arith, e, lt))

-- bytes after the last field
pub trails : {A : Type 0} (read : Field A) (x : A) (rest more : List ℕ) → read ≡ Ok (x, rest ++ more) → 0 < length rest → whole read ≡ Err TrailingBytes
trails read x rest more e some =
    let late : eqb (length (rest ++ more)) 0 ≡ false = ended_late _ (omega (arith, length-append rest more)) in
    rw (e, late) refl

pub fails_same : {Y : Type 0} (e : ReadError) (r s : Result Y DecodeError) → r ≡ s → Fails e s → Fails e r
fails_same errors.Memory r s is h = tt
fails_same (errors.Malformed f) r s is h = is ∙ h

-- ---- Places

module _ (v : Version) (s next : State) (bounds : next.bounds ≡ s.bounds) (moment : next.moment ≡ s.moment) where
  -- one entry more is in the table
  pub took_entry : (n : ℕ) (x : FiveTuple × Entry) (bytes rest more : List ℕ) → 0 < n → fin.entries next.contents.entries ≡ fin.entries s.contents.entries ++ x ∷ []
      → entry_at v s.bounds s.moment (fin.entries s.contents.entries) (bytes ++ more) ≡ Ok (x, rest ++ more)
      → more_at v (s, Entries n) (bytes ++ more) ≡ more_at v (next, Entries (n - 1)) (rest ++ more)
  unfolding table_at
  took_entry n x bytes rest more some entries read =
      let one = many_more (entry_at v s.bounds s.moment) n (fin.entries s.contents.entries) (bytes ++ more) x (rest ++ more) some read in
      rw (one, bounds, moment, entries) refl

  -- one reserved port more is in the table
  pub took_reserved : (n : ℕ) (r : ℕ × Reservation) (bytes rest more : List ℕ) → 0 < n → fin.entries next.contents.entries ≡ fin.entries s.contents.entries
      → fin.entries next.contents.reserved ≡ fin.entries s.contents.reserved ++ r ∷ []
      → reservation_at s.moment (fin.entries s.contents.entries) (fin.entries s.contents.reserved) (bytes ++ more) ≡ Ok (r, rest ++ more)
      → more_at v (s, Reserved n) (bytes ++ more) ≡ more_at v (next, Reserved (n - 1)) (rest ++ more)
  unfolding reserving_at
  took_reserved n r bytes rest more some same reserved read =
      let one = many_more (reservation_at s.moment (fin.entries s.contents.entries)) n (fin.entries s.contents.reserved) (bytes ++ more) r (rest ++ more) some read in
      rw (one, moment, same, reserved) refl

-- after the last entry the count of the reserved ports follows
after_entries : (v : Version) (b : Bounds) (t : ℕ) (before : List (FiveTuple × Entry)) (bytes : List ℕ) → table_at v b t 0 before bytes ≡ reserved_at v b t before bytes
unfolding table_at
after_entries v b t before bytes = rw (many_none (entry_at v b t) 0 before bytes refl) refl

pub took_total : (v : Version) (s : State) (n : ℕ) (bytes rest more : List ℕ) → ends_with_entries v ≡ false → fin.entries s.contents.reserved ≡ []
    → total_at s.bounds (bytes ++ more) ≡ Ok (n, rest ++ more) → more_at v (s, Entries 0) (bytes ++ more) ≡ more_at v (s, Reserved n) (rest ++ more)
unfolding reserved_at
took_total V1 s n bytes rest more follows none read = absurd cc
took_total V2 s n bytes rest more follows none read = after_entries V2 s.bounds s.moment (fin.entries s.contents.entries) (bytes ++ more) ∙ rw (read, none) refl

pub refused_entry : (v : Version) (s : State) (n : ℕ) (e : ReadError) (bytes : List ℕ) → 0 < n → Fails e (entry_at v s.bounds s.moment (fin.entries s.contents.entries) bytes) → Fails e (more_at v (s, Entries n) bytes)
unfolding table_at
refused_entry v s n errors.Memory bytes some h = tt
refused_entry v s n (errors.Malformed f) bytes some h = rw (many_err (entry_at v s.bounds s.moment) n (fin.entries s.contents.entries) bytes f some h) refl

pub refused_reserved : (v : Version) (s : State) (n : ℕ) (e : ReadError) (bytes : List ℕ) → 0 < n → Fails e (reservation_at s.moment (fin.entries s.contents.entries) (fin.entries s.contents.reserved) bytes) → Fails e (more_at v (s, Reserved n) bytes)
unfolding reserving_at
refused_reserved v s n errors.Memory bytes some h = tt
refused_reserved v s n (errors.Malformed f) bytes some h = rw (many_err (reservation_at s.moment (fin.entries s.contents.entries)) n (fin.entries s.contents.reserved) bytes f some h) refl

pub refused_total : (v : Version) (s : State) (e : ReadError) (bytes : List ℕ) → ends_with_entries v ≡ false → Fails e (total_at s.bounds bytes) → Fails e (more_at v (s, Entries 0) bytes)
unfolding reserved_at
refused_total V1 s e bytes follows h = absurd cc
refused_total V2 s errors.Memory bytes follows h = tt
refused_total V2 s (errors.Malformed f) bytes follows h = after_entries V2 s.bounds s.moment (fin.entries s.contents.entries) bytes ∙ rw h refl

-- ---- Where nothing is still to come

last_entry : (v : Version) (n : ℕ) → is_done v (Entries n) ≡ true → (v ≡ V1) × (n ≡ 0)
last_entry V1 n e = (refl, eqb-true n 0 e)
last_entry V2 n e = absurd cc

ends_here : (b : Bounds) (t : ℕ) (entries : List (FiveTuple × Entry)) (bytes : List ℕ) → reserved_at V1 b t entries bytes ≡ Ok ((t, record { entries = fin.from_sorted entries; reserved = fin.from_sorted [] }), bytes)
unfolding reserved_at
ends_here b t entries bytes = refl

-- a table is that of its lists
contents_again : (c : Contents) (rs : List (ℕ × Reservation)) → fin.entries c.reserved ≡ rs → record { entries = fin.from_sorted (fin.entries c.entries); reserved = fin.from_sorted rs } ≡ c
contents_again c rs is = λ i. record {
  entries = sym (map_again tuple_cmp c.entries) i;
  reserved = sym (map_again nat_cmp c.reserved ∙ ap (λ (es : List (ℕ × Reservation)). fin.from_sorted {R = nat_cmp} es) is) i;
}

pub all_there : (v : Version) (s : State) (r : Remaining) (bytes : List ℕ) → is_done v r ≡ true → HasRoom s r → more_at v (s, r) bytes ≡ Ok ((s.moment, s.contents), bytes)
unfolding reserving_at
all_there v s (Entries n) bytes done room =
    let last = last_entry v n done in
    let one : more_at v (s, Entries n) bytes ≡ reserved_at V1 s.bounds s.moment (fin.entries s.contents.entries) bytes = rw (last.0, last.1) (after_entries V1 s.bounds s.moment (fin.entries s.contents.entries) bytes) in
    one ∙ ends_here s.bounds s.moment (fin.entries s.contents.entries) bytes ∙ ap (λ (c : Contents). Ok ((s.moment, c), bytes)) (contents_again s.contents [] room.1)
all_there v s (Reserved n) bytes done room =
    let one : more_at v (s, Reserved n) bytes ≡ Ok ((s.moment, record { entries = fin.from_sorted (fin.entries s.contents.entries); reserved = fin.from_sorted (fin.entries s.contents.reserved) }), bytes) =
    rw (many_none (reservation_at s.moment (fin.entries s.contents.entries)) n (fin.entries s.contents.reserved) bytes (eqb-true n 0 done)) refl in
    one ∙ ap (λ (c : Contents). Ok ((s.moment, c), bytes)) (contents_again s.contents (fin.entries s.contents.reserved) refl)

-- ---- What is given at the end

pub given_none : (v : Version) (b : Bounds) (bytes : List ℕ) → head_at b bytes ≡ Err Short → gives v b None bytes ≡ Err Short
unfolding gives snapshot_in snapshot_at
given_none v b bytes h = rw h refl

cut_short : (v : Version) (s : State) (r : Remaining) (bytes : List ℕ) → is_done v r ≡ false → IsCut v s r bytes → more_at v (s, r) bytes ≡ Err Short
cut_short V1 s (Entries zero) bytes more cut = absurd cc
cut_short V2 s (Entries zero) bytes more cut = refused_total V2 s (errors.Malformed Short) bytes refl cut
cut_short v s (Entries (suc n)) bytes more cut = refused_entry v s (suc n) (errors.Malformed Short) bytes (omega arith) cut
cut_short v s (Reserved n) bytes more cut = refused_reserved v s n (errors.Malformed Short) bytes (is_some n (sym more)) cut

-- no place is both
not_both : (b : Bool) → b ≡ true → b ≡ false → ⊥
not_both true p q = cc
not_both false p q = cc

pub given_short : (v : Version) (b : Bounds) (p : Place) (bytes : List ℕ) → IsWaitingAt v p bytes → is_done v p.1 ≡ false → gives v b (Some p) bytes ≡ Err Short
unfolding gives
given_short v b p bytes (inl none) more = absurd (not_both _ none.0 more)
given_short v b p bytes (inr h) more = rw (cut_short v p.0 p.1 bytes more h.1) refl

pub given_all : (v : Version) (b : Bounds) (p : Place) (bytes : List ℕ) → IsWaitingAt v p bytes → is_done v p.1 ≡ true → HasRoom p.0 p.1 → gives v b (Some p) bytes ≡ Ok (p.0.moment, p.0.contents)
unfolding gives
given_all v b p bytes (inl none) done room = rw (all_there v p.0 p.1 bytes done room, none.1) refl
given_all v b p bytes (inr h) done room = absurd (not_both _ done h.0)

-- a snapshot begins with its head
pub begun : (v : Version) (b : Bounds) (bytes : List ℕ) (h : Head) (rest : List ℕ) → head_at b bytes ≡ Ok (h, rest) → gives v b None bytes ≡ whole (table_at v b h.moment h.count [] rest)
unfolding gives snapshot_in snapshot_at
begun v b bytes h rest e = rw e refl

pub not_begun : (v : Version) (b : Bounds) (e : ReadError) (bytes : List ℕ) → Fails e (head_at b bytes) → Fails e (gives v b None bytes)
unfolding gives snapshot_in snapshot_at
not_begun v b errors.Memory bytes h = tt
not_begun v b (errors.Malformed f) bytes h = rw h refl

-- ---- What a reader is to give

pub fed_nothing : (v : Version) (b : Bounds) (held : List ℕ) → held ≡ [] → Expects v b None None held []
unfolding gives head_at moment_at
fed_nothing v b held none = (λ more. rw none refl, rw none refl)

pub refused_end : (v : Version) (b : Bounds) (r : Option ReadError) (e : ReadError) (place : Option Place) (held fed : List ℕ) → r ≡ Some e → Expects v b r place held fed → Fails e (snapshot_in v b fed)
refused_end v b r e place held fed is at =
    subst (λ (u : List ℕ). Fails e (snapshot_in v b u)) (append-nil fed) ((subst (λ (q : Option ReadError). Expects v b q place held fed) is at) [])

pub expected_end : (v : Version) (b : Bounds) (r : Option ReadError) (place : Option Place) (held fed : List ℕ) → r ≡ None → Expects v b r place held fed → (snapshot_in v b fed ≡ gives v b place held) × IsWaiting v b place held
expected_end v b r place held fed is at =
    let now = subst (λ (q : Option ReadError). Expects v b q place held fed) is at in
    (ap (snapshot_in v b) (sym (append-nil fed)) ∙ now.0 [] ∙ ap (gives v b place) (append-nil held), now.1)

-- one piece more was fed
pub refused_still : (v : Version) (b : Bounds) (r : Option ReadError) (e : ReadError) (place : Option Place) (held fed piece : List ℕ) → r ≡ Some e → Expects v b r place held fed → Expects v b r place held (fed ++ piece)
refused_still v b r e place held fed piece is at =
    let was = subst (λ (q : Option ReadError). Expects v b q place held fed) is at in
    subst (λ (q : Option ReadError). Expects v b q place held (fed ++ piece)) (sym is) (λ more. subst (λ (u : List ℕ). Fails e (snapshot_in v b u)) (sym (append_assoc fed piece more)) (was (piece ++ more)))

-- said of the version and the limits that a reader was made with
at_own : (P : Version → Bounds → Type 0) (v w : Version) (b l : Bounds) → w ≡ v → l ≡ b → P w l → P v b
at_own P v w b l version limits p = subst (λ (x : Version). P x b) version (subst (P w) limits p)

pub fed_more : (v w : Version) (b l : Bounds) (r : Option ReadError) (place next : Option Place) (held after fed piece : List ℕ) → w ≡ v → l ≡ b → r ≡ None → Expects v b r place held fed
    → ((more : List ℕ) → gives w l place (held ++ (piece ++ more)) ≡ gives w l next (after ++ more)) → IsWaiting w l next after → Expects v b r next after (fed ++ piece)
fed_more v w b l r place next held after fed piece version same none at goes waits =
    let was = subst (λ (q : Option ReadError). Expects v b q place held fed) none at in
    subst (λ (q : Option ReadError). Expects v b q next after (fed ++ piece)) (sym none) (
      λ more. ap (snapshot_in v b) (append_assoc fed piece more) ∙ was.0 (piece ++ more) ∙ at_own (λ x m. gives x m place (held ++ (piece ++ more)) ≡ gives x m next (after ++ more)) v w b l version same (goes more),
      at_own (λ x m. IsWaiting x m next after) v w b l version same waits,
    )

pub refused_now : (v w : Version) (b l : Bounds) (r : Option ReadError) (e : ReadError) (place next : Option Place) (held after fed piece : List ℕ) → w ≡ v → l ≡ b → r ≡ None → Expects v b r place held fed
    → ((more : List ℕ) → Fails e (gives w l place (held ++ (piece ++ more)))) → Expects v b (Some e) next after (fed ++ piece)
refused_now v w b l r e place next held after fed piece version same none at fails = λ more.
    let was = subst (λ (q : Option ReadError). Expects v b q place held fed) none at in
    fails_same e _ _ (ap (snapshot_in v b) (append_assoc fed piece more) ∙ was.0 (piece ++ more)) (at_own (λ x m. Fails e (gives x m place (held ++ (piece ++ more)))) v w b l version same (fails more))

pub still_under : (b l : Bounds) (place taken next : Option Place) → l ≡ b → taken ≡ place → IfSome place (λ p. p.0.bounds ≡ b) → (IfSome taken (λ p. p.0.bounds ≡ l) → IfSome next (λ p. p.0.bounds ≡ l)) → IfSome next (λ p. p.0.bounds ≡ b)
still_under b l place taken next same is under keeps =
    let place_under = subst (λ (m : Bounds). IfSome place (λ p. p.0.bounds ≡ m)) (sym same) under in
    let taken_under = subst (λ (o : Option Place). IfSome o (λ p. p.0.bounds ≡ l)) (sym is) place_under in
    subst (λ (m : Bounds). IfSome next (λ p. p.0.bounds ≡ m)) same (keeps taken_under)

pub less_last : {A : Type 0} (order : A → Ordering) (o : Option A) → passes (λ x. is_lt (order x)) o ≡ true → IfSome o (λ x. order x ≡ Less)
less_last order None h = tt
less_last order (Some x) h = by_order (order x) refl h
  where
    by_order : (r : Ordering) → order x ≡ r → is_lt r ≡ true → order x ≡ Less
    by_order Less e h = e
    by_order Equal e h = absurd cc
    by_order Greater e h = absurd cc

-- ---- Steps

-- a table without room for an act has what it had
pub room_same : (s next : State) (r : Remaining) → next ≡ record s { room = None } → HasRoom s r → HasRoom next r
room_same s next (Entries n) is room = rw is room
room_same s next (Reserved n) is room = rw is room

pub entry_room : (s next : State) (x : FiveTuple × Entry) (n : ℕ) → fin.entries next.contents.entries ≡ fin.entries s.contents.entries ++ x ∷ [] → next.bounds ≡ s.bounds → next.contents.reserved ≡ s.contents.reserved
    → HasRoom s (Entries n) → 0 < n → HasRoom next (Entries (n - 1))
entry_room s next x n entries bounds same room some =
    let size : length (fin.entries next.contents.entries) ≡ length (fin.entries s.contents.entries) + 1 = ap length entries ∙ length-append (fin.entries s.contents.entries) (x ∷ []) in
    let most = ap (λ (b : Bounds). b.allocations) bounds in
    (omega (arith, size, most, len-entries s.contents.entries, len-entries next.contents.entries, room.0, some), ap (λ (m : Reservations). fin.entries m) same ∙ room.1)

pub total_room : (s : State) (n count : ℕ) → HasRoom s (Entries n) → count ≤ s.bounds.allocations → HasRoom s (Reserved count)
total_room s n count room few = omega (arith, len-entries s.contents.reserved, ap length room.1, few)

pub reserved_room : (s next : State) (r : ℕ × Reservation) (n : ℕ) → fin.entries next.contents.reserved ≡ fin.entries s.contents.reserved ++ r ∷ [] → next.bounds ≡ s.bounds → HasRoom s (Reserved n) → 0 < n → HasRoom next (Reserved (n - 1))
reserved_room s next r n reserved bounds room some =
    let size : length (fin.entries next.contents.reserved) ≡ length (fin.entries s.contents.reserved) + 1 = ap length reserved ∙ length-append (fin.entries s.contents.reserved) (r ∷ []) in
    let most = ap (λ (b : Bounds). b.allocations) bounds in
    omega (arith, size, most, len-entries s.contents.reserved, len-entries next.contents.reserved, room, some)

pub trailing : (v : Version) (b : Bounds) (p q : Place) (bytes rest more : List ℕ) → more_at v p (bytes ++ more) ≡ more_at v q (rest ++ more) → is_done v q.1 ≡ true → HasRoom q.0 q.1 → 0 < length rest → gives v b (Some p) (bytes ++ more) ≡ Err TrailingBytes
unfolding gives
trailing v b p q bytes rest more goes done room some = trails (more_at v p (bytes ++ more)) _ rest more (goes ∙ all_there v q.0 q.1 (rest ++ more) done room) some

pub goes_on_at : (v : Version) (b : Bounds) (p q : Place) (bytes rest more : List ℕ) → more_at v p (bytes ++ more) ≡ more_at v q (rest ++ more) → gives v b (Some p) (bytes ++ more) ≡ gives v b (Some q) (rest ++ more)
unfolding gives
goes_on_at v b p q bytes rest more goes = ap whole goes

pub empty_waits : (v : Version) (p : Place) (bytes : List ℕ) → is_done v p.1 ≡ true → true ≡ eqb (length bytes) 0 → IsWaitingAt v p bytes
empty_waits v p bytes done e = inl (done, nil_from_length bytes (eqb-true _ _ (sym e)))

pub still_waits : (v : Version) (p : Place) (bytes : List ℕ) → is_done v p.1 ≡ false → (is_done v p.1 ≡ true) ⊎ IsWaitingAt v p bytes → IsWaitingAt v p bytes
still_waits v p bytes more (inl done) = absurd (not_both _ done more)
still_waits v p bytes more (inr h) = h

pub cut_entry : (v : Version) (s : State) (n : ℕ) (bytes : List ℕ) → 0 < n → entry_at v s.bounds s.moment (fin.entries s.contents.entries) bytes ≡ Err Short → IsCut v s (Entries n) bytes
cut_entry v s zero bytes some cut = absurd (omega arith)
cut_entry v s (suc n) bytes some cut = cut

-- where something follows the last entry
pub follows_last : (v : Version) → is_done v (Entries 0) ≡ false → ends_with_entries v ≡ false
follows_last V1 more = absurd cc
follows_last V2 more = refl

-- a table without entries
abbrev pub nothing : Bounds → ℕ → State
nothing b t = record { bounds = b; moment = t; contents = no_contents; room = None }

no_entries : fin.entries no_contents.entries ≡ []
unfolding no_contents
no_entries = nil_from_length _ (sym (len-entries _) ∙ len-empty tuple_cmp Entry)

no_reserved : fin.entries no_contents.reserved ≡ []
unfolding no_contents
no_reserved = nothing_there

pub begun_at : (v : Version) (b : Bounds) (bytes rest more : List ℕ) (t n : ℕ) (s : State) → s ≡ nothing b t → head_at b (bytes ++ more) ≡ Ok (record { moment = t; count = n }, rest ++ more)
    → gives v b None (bytes ++ more) ≡ gives v b (Some (s, Entries n)) (rest ++ more)
unfolding gives
begun_at v b bytes rest more t n s is e =
    let one : gives v b None (bytes ++ more) ≡ whole (table_at v b t n [] (rest ++ more)) = begun v b (bytes ++ more) (record { moment = t; count = n }) (rest ++ more) e in
    one ∙ rw (is, no_entries) refl

pub head_count : (b : Bounds) (bytes : List ℕ) (h : Head) (rest : List ℕ) → head_at b bytes ≡ Ok (h, rest) → h.count ≤ b.allocations
unfolding head_at
head_count b bytes h rest e =
    let t = bind_ok (moment_at bytes) _ (h, rest) e in
    let n = bind_ok (total_at b t.0.1) _ (h, rest) t.2 in
    let same : n.0.0 ≡ h.count = ap (λ (x : Head × List ℕ). x.0.count) (ok_is _ (h, rest) n.2) in
    omega (arith, total_passes b t.0.1 n.0.0 n.0.1 n.1, same)

pub room_begun : (b : Bounds) (t n : ℕ) (s : State) → s ≡ nothing b t → n ≤ b.allocations → HasRoom s (Entries n)
room_begun b t n s is few = rw is (omega (arith, len-entries no_contents.entries, ap length no_entries, few), no_reserved)

pub ended : (v : Version) (b : Bounds) (place : Option Place) (bytes rest : List ℕ) → ((more : List ℕ) → gives v b None (bytes ++ more) ≡ gives v b place (rest ++ more)) → snapshot_in v b bytes ≡ gives v b place rest
unfolding gives
ended v b place bytes rest goes = ap (snapshot_in v b) (sym (append-nil bytes)) ∙ goes [] ∙ ap (gives v b place) (append-nil rest)

pub ended_in : (v : Version) (b : Bounds) (e : ReadError) (bytes : List ℕ) → ((more : List ℕ) → Fails e (gives v b None (bytes ++ more))) → Fails e (snapshot_in v b bytes)
unfolding gives
ended_in v b e bytes h = subst (λ (u : List ℕ). Fails e (snapshot_in v b u)) (append-nil bytes) (h [])

-- ---- What fields answer of the front of bytes

pub front_entry : (v : Version) (b : Bounds) (t : ℕ) (before : List (FiveTuple × Entry)) → Front (entry_at v b t before) (max_entry v b)
front_entry v b t before = (codec_entry {U = ⊥} v b (λ none. absurd none) t (λ none. absurd none) before).front

pub front_total : (b : Bounds) → Front (total_at b) 4
front_total b = (codec_total {U = ⊥} b (λ none. absurd none)).front

pub front_reservation : (t : ℕ) (entries : List (FiveTuple × Entry)) (before : List (ℕ × Reservation)) → Front (reservation_at t entries before) 18
front_reservation t entries before = (codec_reservation {U = ⊥} t (λ none. absurd none) entries before).front

pub front_head : (b : Bounds) → Front (head_at b) 12
front_head b = (codec_head {U = ⊥} b (λ none. absurd none)).front

-- ---- What a reader holds

entry_size_some : (v : Version) → 42 ≤ entry_size v
entry_size_some V1 = omega arith
entry_size_some V2 = omega arith

cut_at : (v : Version) (s : State) (r : Remaining) (held : List ℕ) → IsCut v s r held → length held < max_entry v s.bounds
cut_at v s (Entries zero) held cut = let lt = (front_total s.bounds).short held cut in omega (arith, lt, entry_size_some v)
cut_at v s (Entries (suc n)) held cut = (front_entry v s.bounds s.moment (fin.entries s.contents.entries)).short held cut
cut_at v s (Reserved n) held cut = let lt = (front_reservation s.moment (fin.entries s.contents.entries) (fin.entries s.contents.reserved)).short held cut in omega (arith, lt, entry_size_some v)

held_at : (v : Version) (b : Bounds) (p : Place) (held : List ℕ) → p.0.bounds ≡ b → IsWaitingAt v p held → length held < max_entry v b
held_at v b p held under (inl none) = let empty = ap length none.1 in omega (arith, empty, entry_size_some v)
held_at v b p held under (inr h) = subst (λ c. length held < max_entry v c) under (cut_at v p.0 p.1 held h.1)

pub held_is_short : (v : Version) (b : Bounds) (refused : Option ReadError) (place : Option Place) (held fed : List ℕ) → refused ≡ None → IfSome place (λ p. p.0.bounds ≡ b) → Expects v b refused place held fed → length held < max_entry v b
held_is_short v b (Some e) place held fed is under h = absurd cc
held_is_short v b None None held fed is under h = let lt = (front_head b).short held h.1 in omega (arith, lt, entry_size_some v)
held_is_short v b None (Some p) held fed is under h = held_at v b p held under h.1
