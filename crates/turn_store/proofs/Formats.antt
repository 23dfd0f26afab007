-- What a disk that is being formatted holds.
use Rattle.std.proofs.Common.{length-append, ◌≡◌, inl, ℕ, ◌*◌, ◌+◌, ◌<◌, ◌≤◌, List, [], ◌∷◌, ◌++◌, length, slice_index, refl, sym, ◌∙◌, ap, subst, arith, nat_cmp}
use Rattle.turn_history.proofs.Tokens.{nothing}
use Rattle.turn_disk.specs.Prelude.{State, ChangesOnly, StandsAt, WritesThrough}
use Rattle.turn_disk.proofs.Since.{image_settled}
use Rattle.std.specs.FinMap as fin
use Rattle.std.specs.FinMap.{len-empty, len-entries}
use Rattle.turn_history.specs.Prelude.{Entry, table, no_contents, map_of, reservations, FiveTuple, Bounds}
use Rattle.turn_journal.specs.Frames.{IsClosed}
use Rattle.turn_journal.specs.Layout.{open_gate}
use Rattle.turn_journal.proofs.Growing.{stands_front}
use Rattle.std.specs.Int.{to_be_bytes, w32}
use Rattle.turn_history.specs.declared.reservation.Reservation.{Reservation}
use Rattle.turn_record.specs.Prelude.{each, entry, head, reservation, reserved, snapshot}
use Rattle.turn_record.specs.Records as records
use Rattle.turn_store.proofs.Rows.{length-area_front}
use Rattle.turn_store.specs.Prelude.{Version, V1, V2, Form, IsForm, Holds, area_front, IsFormatted, IsLaid, fresh, EachImage, RepresentsAt, Encodes, superblock}
use Rattle.turn_store.proofs.Numbers.{stands_back, one_stands}
use Rattle.turn_store.proofs.Superblocks.{length-superblock}
use Rattle.turn_types.specs.Prelude.{tuple_cmp}

abbrev blank : Version → List ℕ
blank V1 = 0 ∷ 0 ∷ 0 ∷ 0 ∷ 0 ∷ 0 ∷ 0 ∷ 0 ∷ 0 ∷ 0 ∷ 0 ∷ 0 ∷ []
blank V2 = 0 ∷ 0 ∷ 0 ∷ 0 ∷ 0 ∷ 0 ∷ 0 ∷ 0 ∷ 0 ∷ 0 ∷ 0 ∷ 0 ∷ 0 ∷ 0 ∷ 0 ∷ 0 ∷ []

-- the bytes of a fresh area, its gate closed
abbrev pub fresh_area : Version → List ℕ
fresh_area V1 = 0 ∷ 1 ∷ 0 ∷ 0 ∷ 0 ∷ 0 ∷ 0 ∷ 0 ∷ 0 ∷ 1 ∷ 0 ∷ 0 ∷ 0 ∷ 12 ∷ 0 ∷ 0 ∷ 0 ∷ 0 ∷ 0 ∷ 0 ∷ 0 ∷ 0 ∷ 0 ∷ 0 ∷ 0 ∷ 0 ∷ 0 ∷ []
fresh_area V2 = 0 ∷ 2 ∷ 0 ∷ 0 ∷ 0 ∷ 0 ∷ 0 ∷ 0 ∷ 0 ∷ 1 ∷ 0 ∷ 0 ∷ 0 ∷ 16 ∷ 0 ∷ 0 ∷ 0 ∷ 0 ∷ 0 ∷ 0 ∷ 0 ∷ 0 ∷ 0 ∷ 0 ∷ 0 ∷ 0 ∷ 0 ∷ 0 ∷ 0 ∷ 0 ∷ 0 ∷ []

none_of : {X : Type 0} (xs : List X) → length xs ≡ 0 → xs ≡ []
none_of [] is = refl
none_of (x ∷ xs) is = absurd (omega (arith, is))

no_entries : fin.entries (fin.empty {X = Entry} {R = tuple_cmp}) ≡ []
no_entries = none_of _ (sym (len-entries (fin.empty {X = Entry} {R = tuple_cmp})) ∙ len-empty tuple_cmp Entry)

no_reservations : fin.entries (fin.empty {X = Reservation} {R = nat_cmp}) ≡ []
no_reservations = none_of _ (sym (len-entries (fin.empty {X = Reservation} {R = nat_cmp})) ∙ len-empty nat_cmp Reservation)

abbrev no_reserved : Version → List ℕ
no_reserved v = reserved v (fin.empty {X = Reservation} {R = nat_cmp})

-- the entries of no table
no_front : (v : Version) → fresh v ≡ head 0 0 ++ no_reserved v
unfolding snapshot no_contents
no_front v =
    ap (λ (n : ℕ). head 0 n ++ (each (entry v) (fin.entries (fin.empty {X = Entry} {R = tuple_cmp})) ++ no_reserved v)) (len-empty tuple_cmp Entry)
    ∙ ap (λ (es : List (FiveTuple × Entry)). head 0 0 ++ (each (entry v) es ++ no_reserved v)) no_entries

fresh_bytes : (v : Version) → fresh v ≡ blank v
unfolding reserved
fresh_bytes V1 = no_front V1
fresh_bytes V2 =
    no_front V2
    ∙ ap (λ (n : ℕ). head 0 0 ++ (to_be_bytes w32 n ++ each reservation (fin.entries (fin.empty {X = Reservation} {R = nat_cmp})))) (len-empty nat_cmp Reservation)
    ∙ ap (λ (rs : List (ℕ × Reservation)). head 0 0 ++ (to_be_bytes w32 0 ++ each reservation rs)) no_reservations

front_of_blank : (v : Version) → fresh_area v ≡ 0 ∷ (area_front v 1 (blank v) ++ 0 ∷ [])
unfolding area_front
front_of_blank V1 = refl
front_of_blank V2 = refl

pub fresh_is : (v : Version) → fresh_area v ≡ 0 ∷ (area_front v 1 (fresh v) ++ 0 ∷ [])
fresh_is v = front_of_blank v ∙ ap (λ (l : List ℕ). 0 ∷ (area_front v 1 l ++ 0 ∷ [])) (sym (fresh_bytes v))

length-blank : (v : Version) → length (blank v) ≤ 16
length-blank V1 = omega arith
length-blank V2 = omega arith

pub length-fresh : (v : Version) → length (fresh v) ≤ 16
length-fresh v = subst (λ (l : List ℕ). length l ≤ 16) (sym (fresh_bytes v)) (length-blank v)

empty_table : table [] 0 ≡ no_contents
unfolding table map_of no_contents reservations
empty_table = refl

closed_not : 0 ≡ open_gate → ⊥
closed_not is = absurd (omega (arith, is))

pub closed_at : (gate : ℕ) (c : List ℕ) → slice_index c gate ≡ 0 → IsClosed gate c
closed_at gate c is opened = closed_not (sym is ∙ opened)

pub laid_state : (v : Version) (size : ℕ) (old mid new : State) → 31 < size → length old.bytes ≡ 64 + 2 * size
    → ChangesOnly (64 + size) 1 old.bytes mid.bytes → StandsAt (64 + size) (0 ∷ []) mid.bytes → WritesThrough 64 (0 ∷ (area_front v 1 (fresh v) ++ 0 ∷ [])) mid new → IsLaid v size new
laid_state v size old mid new room whole changes closed writes = record {
  settled = writes.settled;
  whole = writes.content.size ∙ changes.size ∙ whole;
  closed = closed_at (64 + size) new.bytes (writes.content.after (64 + size) (omega (arith, room, length-append (area_front v 1 (fresh v)) (0 ∷ []), length-area_front v 1 (fresh v), length-fresh v)) ∙ one_stands (64 + size) 0 mid.bytes closed);
  stands = writes.written;
}

pub formatted : (v : Version) (form : Form) (laid named new : State) → IsForm v form → 31 < form.area → IsLaid v form.area laid
    → WritesThrough 0 (superblock form.area form.bounds) laid named → WritesThrough 64 (open_gate ∷ []) named new → IsFormatted v form new
formatted v form laid named new is_form room is_laid names opens =
    let long = length-superblock form.area form.bounds in
    let front_long = length-area_front v 1 (fresh v) in
    let fresh_long = length-fresh v in
    let later : (i : ℕ) → 65 ≤ i → slice_index new.bytes i ≡ slice_index laid.bytes i = λ i above. opens.content.after i (omega (arith, above)) ∙ names.content.after i (omega (arith, above, long)) in
    let behind = stands_back 64 (0 ∷ []) (area_front v 1 (fresh v) ++ 0 ∷ []) laid.bytes is_laid.stands in
    let front = stands_front 65 (area_front v 1 (fresh v)) (0 ∷ []) laid.bytes behind in
    let gate = one_stands (65 + length (area_front v 1 (fresh v))) 0 laid.bytes (stands_back 65 (area_front v 1 (fresh v)) (0 ∷ []) laid.bytes behind) in
    let last : 64 + 14 + length (fresh v) ≡ 65 + length (area_front v 1 (fresh v)) = omega (arith, front_long, fresh_long) in
    record {
      holds = record {
        settled = opens.settled;
        active = record {
          is_form = is_form;
          front = λ i below. opens.content.before (0 + i) (omega (arith, below, long)) ∙ names.written i below;
          whole = opens.content.size ∙ names.content.size ∙ is_laid.whole;
          places = inl (refl, refl);
          area = record {
            in_range = omega arith;
            short = omega (arith, fresh_long);
            is_open = opens.written 0 (omega arith);
            front = λ i below. later (65 + i) (omega arith) ∙ front i below;
            frames = (
              omega (arith, fresh_long, room),
              closed_at (64 + 14 + length (fresh v)) new.bytes (later (64 + 14 + length (fresh v)) (omega arith) ∙ ap (λ (i : ℕ). slice_index laid.bytes i) last ∙ gate),
            );
          };
        };
      };
      closed = λ is_open. is_laid.closed (sym (later (64 + form.area) (omega (arith, room))) ∙ is_open);
    }

holds_nothing : (v : Version) → records.Holds v (table [] 0)
holds_nothing V1 = nothing
holds_nothing V2 = tt

nothing_encodes : (v : Version) (b : Bounds) → Encodes v b [] 0 (fresh v) []
nothing_encodes v b = record {
  fitting = tt;
  before = [];
  batches = [];
  whole = refl;
  moment = 0;
  in_range = omega arith;
  late = omega arith;
  holds = holds_nothing v;
  from = tt;
  sizes = tt;
  is_snapshot = ap (snapshot v 0) (sym empty_table);
  are_payloads = refl;
  clock_is = omega arith;
}

pub represents_nothing : (v : Version) (form : Form) (state : State) → IsFormatted v form state → EachImage state (RepresentsAt form [] 0)
represents_nothing v form state is image left = record {
  version = v;
  snapshot = fresh v;
  payloads = [];
  holds = subst (Holds v form (fresh v) []) (sym (image_settled state is.holds.settled image left)) (record { start = 64; other = 64 + form.area; generation = 1; active = is.holds.active; yields = inl is.closed });
  encodes = nothing_encodes v form.bounds;
}
