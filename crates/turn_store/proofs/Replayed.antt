-- A log of batches that fit after a history, replayed.
use Rattle.std.proofs.Common.{◌≡◌, ⊎_elim, ◌≤◌, ℕ, List, [], ◌∷◌, ◌++◌, map, max, length, slice_index, sym, ap, ◌∙◌, subst, arith, append_assoc, append-nil}
use Rattle.std.proofs.lemmas.Bool.Decides.{nat_tests}
use Rattle.std.specs.List.{AllByRecursion}
use Rattle.turn_history.specs.Prelude.{Fits, FitsAfter, Follows, Event, History, clock, AllFrom, Contents, applied, purged, table, Bounds}
use Rattle.turn_history.proofs.Histories.{clock-append, clock-push, fits_from, table-follows}
use Rattle.turn_history.proofs.Steps.{table-later}
use Rattle.turn_journal.specs.Frames.{IsFrame, HoldsFrames, gate_after, last_gate}
use Rattle.turn_journal.specs.Scan.{IsFound}
use Rattle.turn_journal.specs.declared.found.Found.TheVariants.{Frame}
use Rattle.turn_journal.proofs.Once.{frame_once, found_is_good}
use Rattle.turn_journal.proofs.Growing.{last_gate_above}
use Rattle.turn_record.specs.Prelude.{payload, IsBatch, EncodesPayload, max_payload}
use Rattle.turn_record.proofs.Batches.{one_payload}
use Rattle.turn_record.proofs.Sizes.{payload_at_most}
use Rattle.turn_store.specs.Prelude.{Version, IsBadAt, Snapshot, IsNext, GoOn, GoesOn, Replays, HasFrames, after, after_all, all_of}
use Rattle.turn_store.proofs.Rows.{last_gate_below}
use Rattle.turn_store.proofs.Numbers.{frame_length}
use Rattle.turn_store.proofs.Encoding.{fits_rest, from_both, from_less}
use Rattle.turn_types.specs.Prelude.{AreInRange}

-- the table of a history
abbrev pub at : History → ℕ → Snapshot
at h m = record { moment = m; contents = table h m }

pub same_at : (g h : History) (m n : ℕ) → g ≡ h → m ≡ n → at g m ≡ at h n
same_at g h m n one two = ap (λ (l : History). at l m) one ∙ ap (λ (k : ℕ). at h k) two

-- an event that may follow a history is the next of its table
next : (b : Bounds) (g : History) (m : ℕ) (e : Event) → Follows b g e → m ≤ e.moment → IsNext b (at g m) e × (after (at g m) e ≡ at (g ++ e ∷ []) e.moment)
next b g m e follows le =
    let later : purged e.moment (table g m) ≡ table g e.moment = table-later g m e.moment le in (
      record { later = le; fits = subst (λ (c : Contents). Fits b c e.tuple e.act) (sym later) follows.fits },
      ap (λ (c : Contents). record { moment = e.moment; contents = c }) (ap (λ (c : Contents). applied e.moment e.tuple e.act c) later ∙ sym (table-follows b g e follows)),
    )

clock-cons : (e : Event) (es : List Event) → clock (e ∷ es) ≡ max e.moment (clock es)
clock-cons e es = grind (arith, nat_tests)

pub events_replay : (b : Bounds) (g : History) (m : ℕ) (es : List Event) → FitsAfter b g es → AllFrom m es → GoOn b (at g m) es × (after_all (at g m) es ≡ at (g ++ es) (max m (clock es)))
events_replay b g m [] fits from = (tt, same_at g (g ++ []) m (max m 0) (sym (append-nil g)) (omega arith))
events_replay b g m (e ∷ es) fits from =
    let one = next b g m e fits.0 from.0 in
    let later : AllFrom e.moment es = subst (λ (n : ℕ). AllFrom n es) (clock-push g e fits.0.later) (fits_from b (g ++ e ∷ []) es fits.1) in
    let rest = events_replay b (g ++ e ∷ []) e.moment es fits.1 later in
    let le = from.0 in
    let clocks = clock-cons e es in (
      (one.0, subst (λ (s : Snapshot). GoOn b s es) (sym one.1) rest.0),
      ap (λ (s : Snapshot). after_all s es) one.1 ∙ rest.1 ∙ same_at ((g ++ e ∷ []) ++ es) (g ++ e ∷ es) (max e.moment (clock es)) (max m (clock (e ∷ es))) (append_assoc g (e ∷ []) es) (omega arith),
    )

-- what a payload of a batch encodes is that batch
batch_of : (v : Version) (b : Bounds) → AreInRange b → (es : List Event) → IsBatch v b es → (s t : Snapshot) → GoesOn v b s (payload es) t → (t ≡ after_all s es) × GoOn b s es
batch_of v b range es is s t goes =
    let same : goes.events ≡ es = (one_payload b range v v goes.events es [] [] goes.encodes.batch is (ap (λ (l : List ℕ). l ++ []) (sym goes.encodes.is))).0 in
    (goes.ends ∙ ap (after_all s) same, subst (GoOn b s) same goes.goes)

from_rest : (m : ℕ) (es more : List Event) → AllFrom m (es ++ more) → AllFrom m more
from_rest m [] more from = from
from_rest m (e ∷ es) more from = from_rest m es more from.1

from_front : (m : ℕ) (es more : List Event) → AllFrom m (es ++ more) → AllFrom m es
from_front m [] more from = tt
from_front m (e ∷ es) more from = (from.0, from_front m es more from.1)

-- after a batch, the events after it fit from the batch's moment on
record Onwards (b : Bounds) (g : History) (m : ℕ) (es more : List Event) : Type 0 where
  goes : GoOn b (at g m) es
  ends : after_all (at g m) es ≡ at (g ++ es) (max m (clock es))
  fits : FitsAfter b (g ++ es) more
  from : AllFrom (max m (clock es)) more
  late : clock (g ++ es) ≤ max m (clock es)
  clocks : max (max m (clock es)) (clock more) ≡ max m (clock (es ++ more))

onwards : (b : Bounds) (g : History) (m : ℕ) (es more : List Event) → FitsAfter b g (es ++ more) → AllFrom m (es ++ more) → clock g ≤ m → Onwards b g m es more
onwards b g m es more fits from le =
    let parts = fits_rest b g es more fits in
    let replay = events_replay b g m es parts.0 (from_front m es more from) in
    let joined = clock-append g es in
    let tail = clock-append es more in
    let clock_from : AllFrom (clock es) more = from_less (clock es) (clock (g ++ es)) more (omega arith) (fits_from b (g ++ es) more parts.1) in
    record {
      goes = replay.0;
      ends = replay.1;
      fits = parts.1;
      from = from_both m (clock es) more (from_rest m es more from) clock_from;
      late = omega arith;
      clocks = omega arith;
    }

-- what the payloads of batches that fit after a history make of its table
pub batches_replay : (v : Version) (b : Bounds) → AreInRange b → (g : History) (m : ℕ) (bs : List (List Event)) (u : Snapshot) → FitsAfter b g (all_of bs) → AllFrom m (all_of bs) → clock g ≤ m → AllByRecursion (IsBatch v b) bs
    → Replays v b (at g m) (map payload bs) u → u ≡ at (g ++ all_of bs) (max m (clock (all_of bs)))
batches_replay v b range g m [] u fits from le are replays = replays ∙ same_at g (g ++ []) m (max m 0) (sym (append-nil g)) (omega arith)
batches_replay v b range g m (es ∷ bs) u fits from le are replays =
    let on = onwards b g m es (all_of bs) fits from le in
    let one = batch_of v b range es are.0 (at g m) replays.0 replays.1 in
    let there : Replays v b (at (g ++ es) (max m (clock es))) (map payload bs) u = subst (λ (s : Snapshot). Replays v b s (map payload bs) u) (one.0 ∙ on.ends) replays.2 in
    batches_replay v b range (g ++ es) (max m (clock es)) bs u on.fits on.from on.late are.1 there
    ∙ same_at ((g ++ es) ++ all_of bs) (g ++ (es ++ all_of bs)) (max (max m (clock es)) (clock (all_of bs))) (max m (clock (es ++ all_of bs))) (append_assoc g es (all_of bs)) on.clocks

-- a frame that an area holds is found, and so not bad
found_there : (v : Version) (b : Bounds) (gate limit : ℕ) (p : List ℕ) (ps : List (List ℕ)) (c : List ℕ) → HoldsFrames gate (p ∷ ps) limit c → length p ≤ max_payload v b → IsFound gate limit (max_payload v b) c (Frame (length p))
found_there v b gate limit p ps c holds short =
    let last = last_gate_below (gate_after gate p) ps limit c holds.1 in
    let from = last_gate_above (gate_after gate p) ps in
    (holds.0.is_open, frame_length gate p c holds.0, (short, omega arith))

-- frames of such batches have no bad one among them or after them
pub no_break : (v : Version) (b : Bounds) → AreInRange b → (g : History) (m : ℕ) (bs : List (List Event)) (gate limit : ℕ) (c : List ℕ) (qs : List (List ℕ)) (bad : ℕ) (t : Snapshot)
    → FitsAfter b g (all_of bs) → AllFrom m (all_of bs) → clock g ≤ m → AllByRecursion (IsBatch v b) bs → HoldsFrames gate (map payload bs) limit c
    → HasFrames gate qs c → last_gate gate qs ≡ bad → Replays v b (at g m) qs t → IsBadAt v b bad limit t c → ⊥
no_break v b range g m [] gate limit c [] bad t fits from le are holds frames ends replays is =
    let closed : slice_index c bad ≡ 165 → ⊥ = λ opened. holds.1 (ap (λ (i : ℕ). slice_index c i) ends ∙ opened) in
    ⊎_elim (λ broken. closed broken.0) (λ (other : (p : List ℕ) × IsFrame bad p c × ((es : List Event) → EncodesPayload v b es p → GoOn b t es → ⊥)). closed other.1.is_open) is
no_break v b range g m [] gate limit c (q ∷ qs) bad t fits from le are holds frames ends replays is = holds.1 frames.0.is_open
no_break v b range g m (es ∷ bs) gate limit c [] bad t fits from le are holds frames ends replays is =
    let on = onwards b g m es (all_of bs) fits from le in
    let here : IsBadAt v b gate limit (at g m) c = subst (λ (s : Snapshot). IsBadAt v b gate limit s c) replays (subst (λ (n : ℕ). IsBadAt v b n limit t c) (sym ends) is) in
    ⊎_elim
    (λ broken. found_is_good gate limit (max_payload v b) c (Frame (length (payload es))) (found_there v b gate limit (payload es) (map payload bs) c holds (payload_at_most v b es are.0)) broken)
    (λ (other : (p : List ℕ) × IsFrame gate p c × ((fs : List Event) → EncodesPayload v b fs p → GoOn b (at g m) fs → ⊥)).
    other.2 es (record { batch = are.0; is = frame_once gate other.0 (payload es) c other.1 holds.0 }) on.goes)
    here
no_break v b range g m (es ∷ bs) gate limit c (q ∷ qs) bad t fits from le are holds frames ends replays is =
    let on = onwards b g m es (all_of bs) fits from le in
    let same : q ≡ payload es = frame_once gate q (payload es) c frames.0 holds.0 in
    let goes : GoesOn v b (at g m) (payload es) replays.0 = subst (λ (p : List ℕ). GoesOn v b (at g m) p replays.0) same replays.1 in
    let one = batch_of v b range es are.0 (at g m) replays.0 goes in
    let there : Replays v b (at (g ++ es) (max m (clock es))) qs t = subst (λ (s : Snapshot). Replays v b s qs t) (one.0 ∙ on.ends) replays.2 in
    let frames_there : HasFrames (gate_after gate (payload es)) qs c = subst (λ (p : List ℕ). HasFrames (gate_after gate p) qs c) same frames.1 in
    let ends_there : last_gate (gate_after gate (payload es)) qs ≡ bad = subst (λ (p : List ℕ). last_gate (gate_after gate p) qs ≡ bad) same ends in
    no_break v b range (g ++ es) (max m (clock es)) bs (gate_after gate (payload es)) limit c qs bad t on.fits on.from on.late are.1 holds.1 frames_there ends_there there is
