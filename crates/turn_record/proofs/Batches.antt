-- What the readers promise, in the words of histories.
use Rattle.std.proofs.Common.{◌≡◌, ℕ, ◌≤◌, true, leb, List, [], ◌∷◌, ◌++◌, Result, Ok, Err, refl, sym, ap, ◌∙◌, arith, IfOk, leb-true, le-leb}
use Rattle.std.specs.List.{AllByRecursion}
use Rattle.turn_history.specs.Prelude.{IsInRange, Event, AllFrom, NeverFall, Bounds}
use Rattle.turn_record.specs.Prelude.{act_entry, payload, Gives, last_passes, passes, event_at, events_at, act_in, payload_in, IsBatch, EncodesAct, EncodesPayload, Writes}
use Rattle.turn_record.specs.declared.error.DecodeError.{DecodeError}
use Rattle.turn_record.specs.declared.error.ReadError.{ReadError}
use Rattle.turn_record.specs.declared.version.Version.{Version}
use Rattle.turn_record.specs.declared.version.Version.TheVariants.{V2}
use Rattle.turn_types.specs.Prelude.{AreInRange}
use Rattle.turn_record.proofs.Acts.{FitsAfter, FitsPayload, codec_event, codec_events}
use Rattle.turn_record.proofs.Rising.{last_of}
use Rattle.turn_record.proofs.Readers.{EachAfter, IsBytes, Reads, reads_in_words, whole_takes, whole_again, one_encoding}

-- ---- Moments

last_test : (before : List Event) (e : Event) (m : ℕ) → last_passes (λ last. leb last.moment m) (before ++ e ∷ []) ≡ leb e.moment m
last_test before e m = ap (passes (λ last. leb last.moment m)) (last_of before e)

from_weaker : (s t : ℕ) (es : List Event) → s ≤ t → AllFrom t es → AllFrom s es
from_weaker s t [] le h = tt
from_weaker s t (e ∷ es) le h = (omega (arith, le, h.0), from_weaker s t es le h.1)

all_from : (v : Version) (b : Bounds) (before : List Event) (e : Event) (es : List Event) → EachAfter (FitsAfter v b) (before ++ e ∷ []) es → AllFrom e.moment es
all_from v b before e [] h = tt
all_from v b before e (x ∷ xs) h =
    let le : e.moment ≤ x.moment = leb-true _ _ (sym (last_test before e x.moment) ∙ h.0.later) in
    (le, from_weaker e.moment x.moment xs le (all_from v b (before ++ e ∷ []) x xs h.1))

never_fall : (v : Version) (b : Bounds) (before es : List Event) → EachAfter (FitsAfter v b) before es → AllByRecursion (IsInRange b) es × NeverFall es × AllByRecursion (λ e. Writes v e.act) es
never_fall v b before [] h = (tt, tt, tt)
never_fall v b before (e ∷ es) h =
    let rest = never_fall v b (before ++ e ∷ []) es h.1 in
    ((h.0.fits, rest.0), (all_from v b before e es h.1, rest.1), (h.0.writes, rest.2))

-- the first moment is not below that of the last one before
abbrev IsNext : List Event → List Event → Type 0
IsNext before [] = Unit {0}
IsNext before (e ∷ es) = last_passes (λ last. leb last.moment e.moment) before ≡ true

next_after : (before : List Event) (e : Event) (es : List Event) → AllFrom e.moment es → IsNext (before ++ e ∷ []) es
next_after before e [] h = tt
next_after before e (x ∷ xs) h = last_test before e x.moment ∙ le-leb _ _ h.0

each_after : (v : Version) (b : Bounds) (before es : List Event) → AllByRecursion (IsInRange b) es → NeverFall es → AllByRecursion (λ e. Writes v e.act) es → IsNext before es → EachAfter (FitsAfter v b) before es
each_after v b before [] range later writes next = tt
each_after v b before (e ∷ es) range later writes next =
    (record { writes = writes.0; fits = range.0; later = next }, each_after v b (before ++ e ∷ []) es range.1 later.1 writes.1 (next_after before e es later.0))

starts : (es : List Event) → IsNext [] es
starts [] = tt
starts (e ∷ es) = refl

batch_of : (v : Version) (b : Bounds) (es : List Event) → FitsPayload v b es → IsBatch v b es
batch_of v b es h = let p = never_fall v b [] es h.each in record { some = omega (arith, h.some); few = h.few; in_range = p.0; later = p.1; writes = p.2 }

of_batch : (v : Version) (b : Bounds) (es : List Event) → IsBatch v b es → FitsPayload v b es
of_batch v b es h = record { some = omega (arith, h.some); few = h.few; each = each_after v b [] es h.in_range h.later h.writes (starts es) }

-- ---- Readers

-- an event that a reader takes
abbrev IsRead : Version → Bounds → Event → Type 0
IsRead v b e = IsInRange b e × Writes v e.act

reads_act : (v : Version) (b : Bounds) → AreInRange b → Reads (event_at v b []) act_entry (IsRead v b)
reads_act v b range =
    reads_in_words (event_at v b []) act_entry act_entry (FitsAfter v b []) (IsRead v b) ((codec_event {U = Unit {0}} v b (λ under. range) []).reads tt) (λ e. refl) (λ e h. (h.fits, h.writes)) (λ e h. record { writes = h.1; fits = h.0; later = refl })

reads_payload : (v : Version) (b : Bounds) → AreInRange b → Reads (events_at v b) payload (IsBatch v b)
reads_payload v b range = reads_in_words (events_at v b) payload payload (FitsPayload v b) (IsBatch v b) ((codec_events {U = Unit {0}} v b (λ under. range)).reads tt) (λ es. refl) (batch_of v b) (of_batch v b)

-- from what reading gives to what a function returned
pub found : {X Y : Type 0} (view : X → Y) (r : Result X ReadError) (read : Result Y DecodeError) (P : Y → Type 0) → ((y : Y) → read ≡ Ok y → P y) → Gives view r read → IfOk r (λ x. P (view x))
found view (Ok x) read P h given = h (view x) given
found view (Err e) read P h given = tt

pub act_found : (v : Version) (b : Bounds) → AreInRange b → (bytes : List ℕ) → IsBytes bytes → (e : Event) → act_in v b bytes ≡ Ok e → EncodesAct v b e bytes
unfolding act_in
act_found v b range bytes fits e h = let p = whole_takes (event_at v b []) act_entry (IsRead v b) (reads_act v b range) bytes e fits h in record { writes = p.0.1; in_range = p.0.0; is = p.1 }

pub act_again : (v : Version) (b : Bounds) → AreInRange b → (bytes : List ℕ) (e : Event) → EncodesAct v b e bytes → act_in v b bytes ≡ Ok e
unfolding act_in
act_again v b range bytes e h = ap (act_in v b) h.is ∙ whole_again (event_at v b []) act_entry (IsRead v b) (reads_act v b range) e (h.in_range, h.writes)

pub payload_found : (v : Version) (b : Bounds) → AreInRange b → (bytes : List ℕ) → IsBytes bytes → (es : List Event) → payload_in v b bytes ≡ Ok es → EncodesPayload v b es bytes
unfolding payload_in
payload_found v b range bytes fits es h = let p = whole_takes (events_at v b) payload (IsBatch v b) (reads_payload v b range) bytes es fits h in record { batch = p.0; is = p.1 }

pub payload_again : (v : Version) (b : Bounds) → AreInRange b → (bytes : List ℕ) (es : List Event) → EncodesPayload v b es bytes → payload_in v b bytes ≡ Ok es
unfolding payload_in
payload_again v b range bytes es h = ap (payload_in v b) h.is ∙ whole_again (events_at v b) payload (IsBatch v b) (reads_payload v b range) es h.batch

-- no encoding begins another's, whatever the version
pub one_act : (b : Bounds) → AreInRange b → (x y : Event) (u v : List ℕ) → IsInRange b x → IsInRange b y → act_entry x ++ u ≡ act_entry y ++ v → (x ≡ y) × (u ≡ v)
one_act b range x y u v p q = one_encoding (event_at V2 b []) act_entry (IsRead V2 b) (reads_act V2 b range) x y u v (p, tt) (q, tt)

all_written : (es : List Event) → AllByRecursion (λ e. Writes V2 e.act) es
all_written [] = tt
all_written (e ∷ es) = (tt, all_written es)

batch_carries_over : (v : Version) (b : Bounds) (es : List Event) → IsBatch v b es → IsBatch V2 b es
batch_carries_over v b es h = record { some = h.some; few = h.few; in_range = h.in_range; later = h.later; writes = all_written es }

pub one_payload : (b : Bounds) → AreInRange b → (v w : Version) (x y : List Event) (s t : List ℕ) → IsBatch v b x → IsBatch w b y → payload x ++ s ≡ payload y ++ t → (x ≡ y) × (s ≡ t)
one_payload b range v w x y s t p q = one_encoding (events_at V2 b) payload (IsBatch V2 b) (reads_payload V2 b range) x y s t (batch_carries_over v b x p) (batch_carries_over w b y q)
