-- How a run of device calls goes on.
use Rattle.std.proofs.Common.{Result, Ok, Err, ◌+◌, ◌<◌, ◌≤◌, arith, ◌≡◌, ◌⊎◌, inl, inr, ℕ, List, [], ◌∷◌, ◌++◌, refl, sym, ◌∙◌, ap, subst, ⊎_elim, length, slice_index, append_assoc, ext_get_or}
use Rattle.turn_disk.specs.Prelude.{Range, State, Trace, IsImage, IsOutside, ChangesOnly, EachImageOf, EachImageSince, Overwrites, Syncs, inside_write, AllWithin, IsSettled, IsSettledBut, ThroughOutcome, WritesOnce, WriteOutcome, SyncOutcome}

-- what a stop may leave after a write is what it may leave inside it
pub image_during : (at count : ℕ) (old new : Trace) → Overwrites at count old new → (image : List ℕ) → IsImage new.now image → IsImage (inside_write at count old.now) image
image_during at count old new writes image is = record {
  size = is.size ∙ writes.content.size;
  same = λ i outside.
      let out : IsOutside new.now.pending i = subst (λ (l : List Range). IsOutside l i) (sym writes.pending) outside in
      is.same i out ∙ ⊎_elim (λ below. writes.content.before i below) (λ above. writes.content.after i above) outside.0;
}

-- what a stop may leave before a write it may leave inside it
pub image_before : (at count : ℕ) (state : State) (image : List ℕ) → IsImage state image → IsImage (inside_write at count state) image
image_before at count state image is = record { size = is.size; same = λ i outside. is.same i outside.1 }

pub image_synced : (old new : Trace) → Syncs old new → (image : List ℕ) → IsImage new.now image → IsImage old.now image
image_synced old new syncs image is = record {
  size = is.size ∙ ap length syncs.content;
  same = λ i outside.
      let out : IsOutside new.now.pending i = subst (λ (l : List Range). IsOutside l i) (sym syncs.pending) tt in
      is.same i out ∙ ap (λ (l : List ℕ). slice_index l i) syncs.content;
}

EachImageOf-append : (states later : List State) (P : List ℕ → Type 0) → EachImageOf states P → EachImageOf later P → EachImageOf (states ++ later) P
EachImageOf-append [] later P a b = b
EachImageOf-append (state ∷ states) later P a b = (a.0, EachImageOf-append states later P a.1 b)

EachImageOf-weaken : (states : List State) (P Q : List ℕ → Type 0) → ((image : List ℕ) → P image → Q image) → EachImageOf states P → EachImageOf states Q
EachImageOf-weaken [] P Q to a = tt
EachImageOf-weaken (state ∷ states) P Q to a = ((λ image is. to image (a.0 image is)), EachImageOf-weaken states P Q to a.1)

-- no call
pub since_same : (old new : Trace) (P : List ℕ → Type 0) → new ≡ old → ((image : List ℕ) → IsImage old.now image → P image) → EachImageSince old new P
since_same old new P same here = record {
  added = [];
  past = ap (λ (t : Trace). t.past) same;
  inside = tt;
  before = here;
  after = λ image is. here image (subst (λ (t : Trace). IsImage t.now image) same is);
}

-- a write, done or not, if each image inside it has P
pub since_write : (at count : ℕ) (old new : Trace) (P : List ℕ → Type 0) → Overwrites at count old new ⊎ (new ≡ old) → ((image : List ℕ) → IsImage (inside_write at count old.now) image → P image) → EachImageSince old new P
since_write at count old new P (inl writes) here = record {
  added = inside_write at count old.now ∷ [];
  past = writes.past;
  inside = (here, tt);
  before = λ image is. here image (image_before at count old.now image is);
  after = λ image is. here image (image_during at count old new writes image is);
}
since_write at count old new P (inr same) here = since_same old new P same (λ image is. here image (image_before at count old.now image is))

pub since_sync : (old new : Trace) (P : List ℕ → Type 0) → Syncs old new ⊎ (new ≡ old) → ((image : List ℕ) → IsImage old.now image → P image) → EachImageSince old new P
since_sync old new P (inl syncs) here = record {
  added = old.now ∷ [];
  past = syncs.past;
  inside = (here, tt);
  before = here;
  after = λ image is. here image (image_synced old new syncs image is);
}
since_sync old new P (inr same) here = since_same old new P same here

pub since_join : (old mid new : Trace) (P : List ℕ → Type 0) → EachImageSince old mid P → EachImageSince mid new P → EachImageSince old new P
since_join old mid new P first second = record {
  added = second.added ++ first.added;
  past = second.past ∙ ap (λ (l : List State). second.added ++ l) first.past ∙ sym (append_assoc second.added first.added old.past);
  inside = EachImageOf-append second.added first.added P second.inside first.inside;
  before = first.before;
  after = second.after;
}

pub since_weaken : (old new : Trace) (P Q : List ℕ → Type 0) → ((image : List ℕ) → P image → Q image) → EachImageSince old new P → EachImageSince old new Q
since_weaken old new P Q to since = record {
  added = since.added;
  past = since.past;
  inside = EachImageOf-weaken since.added P Q to since.inside;
  before = λ image is. to image (since.before image is);
  after = λ image is. to image (since.after image is);
}

outside_within : (from count : ℕ) (ranges : List Range) (i : ℕ) → AllWithin from count ranges → (i < from) ⊎ (from + count ≤ i) → IsOutside ranges i
outside_within from count [] i within apart = tt
outside_within from count (range ∷ ranges) i within apart =
    (⊎_elim (λ (below : i < from). let l : i < range.at = omega (arith, within.0) in inl l) (λ (above : from + count ≤ i). let l : range.at + range.count ≤ i = omega (arith, within.1) in inr l) apart, outside_within from count ranges i within.2 apart)

-- a stop changes nothing outside the range
pub image_but : (from count : ℕ) (base : List ℕ) (state : State) → IsSettledBut from count base state → (image : List ℕ) → IsImage state image → ChangesOnly from count base image
image_but from count base state but image is = record {
  size = is.size ∙ but.content.size;
  before = λ i below. is.same i (outside_within from count state.pending i but.pending (inl below)) ∙ but.content.before i below;
  after = λ i above. is.same i (outside_within from count state.pending i but.pending (inr above)) ∙ but.content.after i above;
}

pub during_but : (from count : ℕ) (base : List ℕ) (state : State) → IsSettledBut from count base state → (at n : ℕ) → from ≤ at → at + n ≤ from + count → IsSettledBut from count base (inside_write at n state)
during_but from count base state but at n low high = record { content = but.content; pending = (low, high, but.pending) }

pub overwrites_but : (from count : ℕ) (base : List ℕ) (old new : Trace) → IsSettledBut from count base old.now → (at n : ℕ) → from ≤ at → at + n ≤ from + count → Overwrites at n old new → IsSettledBut from count base new.now
overwrites_but from count base old new but at n low high writes = record {
  content = record {
    size = writes.content.size ∙ but.content.size;
    before = λ i below. writes.content.before i (omega arith) ∙ but.content.before i below;
    after = λ i above. writes.content.after i (omega arith) ∙ but.content.after i above;
  };
  pending = subst (λ (l : List Range). AllWithin from count l) (sym writes.pending) (low, high, but.pending);
}

pub settled_but : (at count : ℕ) (state : State) → IsSettled state → IsSettledBut at count state.bytes state
settled_but at count state settled = record {
  content = record { size = refl; before = λ i below. refl; after = λ i above. refl };
  pending = subst (λ (l : List Range). AllWithin at count l) (sym settled) tt;
}

-- a write within the range
pub since_within : (from count : ℕ) (base : List ℕ) (old new : Trace) → IsSettledBut from count base old.now → (at n : ℕ) → from ≤ at → at + n ≤ from + count → Overwrites at n old new ⊎ (new ≡ old)
    → EachImageSince old new (ChangesOnly from count base) × IsSettledBut from count base new.now
since_within from count base old new but at n low high outcome = (
  since_write at n old new (ChangesOnly from count base) outcome (image_but from count base (inside_write at n old.now) (during_but from count base old.now but at n low high)),
  ⊎_elim (overwrites_but from count base old new but at n low high) (λ same. subst (λ (t : Trace). IsSettledBut from count base t.now) (sym same) but) outcome,
)

pub outcome_range : {E : Type 0} (at : ℕ) (bytes : List ℕ) (old new : Trace) (result : Result Unit E) → WriteOutcome at bytes old new result → Overwrites at (length bytes) old new ⊎ (new ≡ old)
outcome_range at bytes old new (Ok u) writes = inl writes.range
outcome_range at bytes old new (Err e) failed = failed

pub outcome_sync : {E : Type 0} (old new : Trace) (result : Result Unit E) → SyncOutcome old new result → Syncs old new ⊎ (new ≡ old)
outcome_sync old new (Ok u) syncs = inl syncs
outcome_sync old new (Err e) same = inr same

-- a sync after writes within the range
pub since_sync_but : (from count : ℕ) (base : List ℕ) (old new : Trace) → IsSettledBut from count base old.now → Syncs old new ⊎ (new ≡ old) → EachImageSince old new (ChangesOnly from count base)
since_sync_but from count base old new but outcome = since_sync old new (ChangesOnly from count base) outcome (image_but from count base old.now but)

-- with nothing pending a stop leaves the content
pub image_settled : (state : State) → IsSettled state → (image : List ℕ) → IsImage state image → image ≡ state.bytes
image_settled state settled image is = ext_get_or 0 image state.bytes is.size (λ i below. is.same i (subst (λ (l : List Range). IsOutside l i) (sym settled) tt))

-- one of the calls failed
pub through_failed : {E : Type 0} (at : ℕ) (bytes : List ℕ) (old new : Trace) (result : Result Unit E) (e : E) → result ≡ Err e → Overwrites at (length bytes) old new ⊎ (new ≡ old) → ThroughOutcome at bytes old new result
through_failed {E = E} at bytes old new result e is failed = subst (λ (r : Result Unit E). ThroughOutcome at bytes old new r) (sym is) failed

-- a write and a sync, whatever came of them
pub through_once : {E : Type 0} (at : ℕ) (bytes : List ℕ) (old new : Trace) (result : Result Unit E) → ThroughOutcome at bytes old new result → WritesOnce at (length bytes) old new
through_once at bytes old new (Ok u) through = inr (inr (through.0, through.1.range, through.2))
through_once at bytes old new (Err e) failed = ⊎_elim (λ writes. inr (inl writes)) (λ same. inl same) failed

-- the same within the range
pub since_through_but : {E : Type 0} (from count : ℕ) (base : List ℕ) (old new : Trace) → IsSettledBut from count base old.now → (at : ℕ) (bytes : List ℕ) → from ≤ at → at + length bytes ≤ from + count → (result : Result Unit E)
    → ThroughOutcome at bytes old new result → EachImageSince old new (ChangesOnly from count base)
since_through_but from count base old new but at bytes low high (Ok u) through =
    let wrote = since_within from count base old through.0 but at (length bytes) low high (inl through.1.range) in
    since_join old through.0 new (ChangesOnly from count base) wrote.0 (since_sync_but from count base through.0 new wrote.1 (inl through.2))
since_through_but from count base old new but at bytes low high (Err e) failed =
    (since_within from count base old new but at (length bytes) low high failed).0
