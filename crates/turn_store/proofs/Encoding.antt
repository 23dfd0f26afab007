-- What snapshots and payloads encode.
use Rattle.std.proofs.Common.{◌≡◌, ◌≤◌, ◌<◌, ℕ, List, [], ◌∷◌, ◌++◌, map, max, refl, sym, ap, ◌∙◌, subst, arith, append_assoc, append-nil}
use Rattle.std.specs.List.{AllByRecursion}
use Rattle.turn_history.specs.Prelude.{IsFitting, FitsAfter, Event, History, clock, AllFrom, table, Bounds}
use Rattle.turn_history.proofs.Histories.{clock-append, fitting-split, fits_in_range, fits_never_fall}
use Rattle.turn_record.specs.Prelude.{payload, snapshot, Holds, IsBatch}
use Rattle.turn_store.specs.Prelude.{Version, all_of, HasSize, Encodes}
use Rattle.turn_types.specs.Prelude.{end_of_moments}

pub from_less : (c d : ℕ) (es : List Event) → c ≤ d → AllFrom d es → AllFrom c es
from_less c d [] le from = tt
from_less c d (e ∷ es) le from = (let first = from.0 in omega arith, from_less c d es le from.1)

pub from_both : (c d : ℕ) (es : List Event) → AllFrom c es → AllFrom d es → AllFrom (max c d) es
from_both c d [] one two = tt
from_both c d (e ∷ es) one two = (let first = one.0 in let second = two.0 in omega arith, from_both c d es one.1 two.1)

pub is_batch : (v : Version) (b : Bounds) (h : History) (es : List Event) → FitsAfter b h es → HasSize v b es → IsBatch v b es
is_batch v b h es fits size = record { some = size.some; few = size.few; in_range = fits_in_range b h es fits; later = fits_never_fall b h es fits; writes = size.writes }

-- events that fit after a history, cut in two
pub fits_rest : (b : Bounds) (h x y : History) → FitsAfter b h (x ++ y) → FitsAfter b h x × FitsAfter b (h ++ x) y
fits_rest b h [] y fits = (tt, subst (λ (l : History). FitsAfter b l y) (sym (append-nil h)) fits)
fits_rest b h (e ∷ x) y fits =
    let rest = fits_rest b (h ++ e ∷ []) x y fits.1 in
    ((fits.0, rest.0), subst (λ (l : History). FitsAfter b l y) (append_assoc h (e ∷ []) x) rest.1)

pub are_batches : (v : Version) (b : Bounds) (h : History) (batches : List (List Event)) → FitsAfter b h (all_of batches) → AllByRecursion (HasSize v b) batches → AllByRecursion (IsBatch v b) batches
are_batches v b h [] fits sized = tt
are_batches v b h (es ∷ more) fits sized =
    let parts = fits_rest b h es (all_of more) fits in
    (is_batch v b h es parts.0 sized.0, are_batches v b (h ++ es) more parts.1 sized.1)

pub of_encoded : (v : Version) (b : Bounds) (h : History) (c : ℕ) (bytes : List ℕ) (payloads : List (List ℕ)) (s : Encodes v b h c bytes payloads) → IsFitting b s.before × FitsAfter b s.before (all_of s.batches)
of_encoded v b h c bytes payloads s = fitting-split b s.before (all_of s.batches) (subst (IsFitting b) s.whole s.fitting)

-- no event is later than the clock
pub clock_late : (v : Version) (b : Bounds) (h : History) (c : ℕ) (bytes : List ℕ) (payloads : List (List ℕ)) → Encodes v b h c bytes payloads → clock h ≤ c
clock_late v b h c bytes payloads s =
    let is = s.clock_is in
    let late = s.late in
    let joined = ap clock s.whole ∙ clock-append s.before (all_of s.batches) in
    omega arith

pub snapshots_go_on : (v : Version) (b : Bounds) (h : History) (m : ℕ) → IsFitting b h → clock h ≤ m → m < end_of_moments → Holds v (table h m) → Encodes v b h m (snapshot v m (table h m)) []
snapshots_go_on v b h m fits le range none = record {
  fitting = fits;
  before = h;
  batches = [];
  whole = sym (append-nil h);
  moment = m;
  in_range = range;
  late = le;
  holds = none;
  from = tt;
  sizes = tt;
  is_snapshot = refl;
  are_payloads = refl;
  clock_is = omega arith;
}

all_of-push : (bs : List (List Event)) (es : List Event) → all_of (bs ++ es ∷ []) ≡ all_of bs ++ es
all_of-push [] es = append-nil es
all_of-push (x ∷ bs) es = ap (λ (l : History). x ++ l) (all_of-push bs es) ∙ sym (append_assoc x (all_of bs) es)

map-push : (bs : List (List Event)) (es : List Event) → map payload (bs ++ es ∷ []) ≡ map payload bs ++ payload es ∷ []
map-push [] es = refl
map-push (x ∷ bs) es = ap (λ l. payload x ∷ l) (map-push bs es)

all-append : {A : Type 0} (P : A → Type 0) (xs ys : List A) → AllByRecursion P xs → AllByRecursion P ys → AllByRecursion P (xs ++ ys)
all-append P [] ys a b = b
all-append P (x ∷ xs) ys a b = (a.0, all-append P xs ys a.1 b)

-- one frame more; its clock isn't later than a moment that the old clock and the events aren't later than
pub frames_go_on : (v : Version) (b : Bounds) (h : History) (c : ℕ) (bytes : List ℕ) (payloads : List (List ℕ)) (es : List Event) (m : ℕ)
    → Encodes v b h c bytes payloads → IsFitting b (h ++ es) → AllFrom c es → HasSize v b es → c ≤ m → clock (h ++ es) ≤ m
    → (d : ℕ) × (d ≤ m) × Encodes v b (h ++ es) d bytes (payloads ++ payload es ∷ [])
frames_go_on v b h c bytes payloads es m s fits from size cm hm =
    let is = s.clock_is in
    let more = s.batches ++ es ∷ [] in
    let joined : all_of more ≡ all_of s.batches ++ es = all_of-push s.batches es in
    let whole : h ++ es ≡ s.before ++ all_of more =
    ap (λ (l : History). l ++ es) s.whole ∙ append_assoc s.before (all_of s.batches) es ∙ ap (λ (l : History). s.before ++ l) (sym joined) in
    let same : clock (h ++ es) ≡ max (clock s.before) (clock (all_of more)) = ap clock whole ∙ clock-append s.before (all_of more) in (
      max s.moment (clock (all_of more)),
      omega arith,
      record {
        fitting = fits;
        before = s.before;
        batches = more;
        whole = whole;
        moment = s.moment;
        in_range = s.in_range;
        late = s.late;
        holds = s.holds;
        from = subst (AllFrom s.moment) (sym joined) (all-append (λ e. s.moment ≤ e.moment) (all_of s.batches) es s.from (from_less s.moment c es (omega arith) from));
        sizes = all-append (HasSize v b) s.batches (es ∷ []) s.sizes (size, tt);
        is_snapshot = s.is_snapshot;
        are_payloads = ap (λ l. l ++ payload es ∷ []) s.are_payloads ∙ sym (map-push s.batches es);
        clock_is = refl;
      },
    )
