-- What a stop leaves in each step of a commit.
use Rattle.std.proofs.Common.{◌^◌, ◌≡◌, ◌⊎◌, inl, inr, ⊎_elim, ℕ, ◌+◌, ◌<◌, ◌≤◌, Bool, true, false, List, [], ◌∷◌, ◌++◌, length, slice_index, refl, sym, ◌∙◌, ap, subst, arith}
use Rattle.std.specs.Int.{to_be_bytes, w32, w64}
use Rattle.std.proofs.lemmas.Bool.{cases_eq}
use Rattle.turn_disk.proofs.Since.{image_settled}
use Rattle.turn_disk.specs.Prelude.{IsImage, ChangesOnly, StandsAt, State, WritesThrough, IsSettled}
use Rattle.turn_journal.specs.Frames.{IsOpen, IsClosed, last_gate, HoldsFrames, HoldsFramesTo, HoldsWithout, HoldsWithOrWithout, HoldsWith}
use Rattle.turn_journal.specs.Layout.{open_gate}
use Rattle.turn_journal.proofs.Growing.{stands_keeps, stands_front, frames_keep, last_gate_above, last_is_closed}
use Rattle.turn_store.specs.Prelude.{Version, Form, version_byte, area_front, AreaHolds, IsBelow, Yields, AreAreas, Holds, HoldsAt, HoldsIn, RecoversToParts, superblock, least_area}
use Rattle.turn_store.proofs.Numbers.{stands_back, one_stands}
use Rattle.turn_store.proofs.Superblocks.{length-superblock}

pub length-area_front : (v : Version) (generation : ℕ) (snapshot : List ℕ) → length (area_front v generation snapshot) ≡ 13 + length snapshot
unfolding area_front
length-area_front v generation snapshot = omega arith

-- the generation follows the version
pub front_generation : (v : Version) (start generation : ℕ) (snapshot c : List ℕ) → StandsAt (start + 1) (area_front v generation snapshot) c → StandsAt (start + 2) (to_be_bytes w64 generation) c
unfolding area_front
front_generation v start generation snapshot c stands =
    let rest = to_be_bytes w32 (length snapshot) ++ snapshot in
    let place : start + 1 + 1 ≡ start + 2 = omega arith in
    subst (λ (at : ℕ). StandsAt at (to_be_bytes w64 generation) c) place
    (stands_front (start + 1 + 1) (to_be_bytes w64 generation) rest c (stands_back (start + 1) (version_byte v ∷ []) (to_be_bytes w64 generation ++ rest) c stands))

pub last_gate_below : (at : ℕ) (payloads : List (List ℕ)) (limit : ℕ) (c : List ℕ) → HoldsFrames at payloads limit c → last_gate at payloads < limit
last_gate_below at [] limit c frames = frames.0
last_gate_below at (p ∷ payloads) limit c frames = last_gate_below (at + 5 + length p) payloads limit c frames.1

-- an area is what its own bytes make it
area_keeps : (v : Version) (start size generation : ℕ) (snapshot : List ℕ) (payloads : List (List ℕ)) (c d : List ℕ) → AreaHolds v start size generation snapshot payloads c
    → ((i : ℕ) → start ≤ i → i < start + size → slice_index d i ≡ slice_index c i) → AreaHolds v start size generation snapshot payloads d
area_keeps v start size generation snapshot payloads c d area same =
    let first = start + 14 + length snapshot in
    let above = last_gate_above first payloads in
    let below = last_gate_below first payloads (start + size) c area.frames in
    let long = length-area_front v generation snapshot in
    record {
      in_range = area.in_range;
      short = area.short;
      is_open = same start (omega arith) (omega arith) ∙ area.is_open;
      front = stands_keeps (start + 1) (area_front v generation snapshot) c d area.front (λ i low high. same i (omega arith) (omega arith));
      frames = frames_keep first payloads (start + size) c d area.frames (λ i low high. same i (omega arith) (omega arith))
          (λ opened. last_is_closed first payloads (start + size) c area.frames (sym (same (last_gate first payloads) (omega arith) (omega arith)) ∙ opened));
    }

below_keeps : (start generation : ℕ) (c d : List ℕ) → IsBelow start generation c → ((i : ℕ) → start + 2 ≤ i → i < start + 10 → slice_index d i ≡ slice_index c i) → IsBelow start generation d
below_keeps start generation c d below same = record {
  lower = below.lower;
  less = below.less;
  stands = stands_keeps (start + 2) (to_be_bytes w64 below.lower) c d below.stands (λ i low high. same i (omega arith) (omega arith));
}

yields_keeps : (start generation : ℕ) (c d : List ℕ) → Yields start generation c → ((i : ℕ) → start ≤ i → i < start + 10 → slice_index d i ≡ slice_index c i) → Yields start generation d
yields_keeps start generation c d (inl closed) same = inl (λ opened. closed (sym (same start (omega arith) (omega arith)) ∙ opened))
yields_keeps start generation c d (inr below) same = inr (below_keeps start generation c d below (λ i low high. same i (omega arith) high))

-- a change within one area leaves the other as it was
apart : (size start other from count : ℕ) (c d : List ℕ) → AreAreas size start other → ChangesOnly from count c d → other ≤ from → from + count ≤ other + size → (i : ℕ) → start ≤ i → i < start + size → slice_index d i ≡ slice_index c i
apart size start other from count c d (inl places) changes low high i above below = changes.before i (omega (arith, places.0, places.1))
apart size start other from count c d (inr places) changes low high i above below = changes.after i (omega (arith, places.0, places.1))

after_superblock : (size start other : ℕ) → AreAreas size start other → (64 ≤ start) × (64 ≤ other)
after_superblock size start other (inl places) = (omega (arith, places.0), omega (arith, places.1))
after_superblock size start other (inr places) = (omega (arith, places.0), omega (arith, places.1))

swapped : (size start other : ℕ) → AreAreas size start other → AreAreas size other start
swapped size start other (inl places) = inr (places.1, places.0)
swapped size start other (inr places) = inl (places.1, places.0)

module _ (v : Version) (form : Form) (start other generation : ℕ) (snapshot : List ℕ) (payloads : List (List ℕ)) (state : State) (holds : HoldsAt v form start other generation snapshot payloads state) where
  abbrev size : ℕ
  size = form.area

  abbrev sb : List ℕ
  sb = superblock form.area form.bounds

  abbrev first : ℕ
  first = start + 14 + length snapshot

  above : first ≤ last_gate first payloads
  above = last_gate_above first payloads

  below_end : last_gate first payloads < start + size
  below_end = last_gate_below first payloads (start + size) state.bytes holds.active.area.frames

  long_enough : 14 < size
  long_enough = omega (arith, above, below_end)

  -- the superblock stays where bytes after it alone have changed
  front_kept : (from count : ℕ) (image : List ℕ) → ChangesOnly from count state.bytes image → 64 ≤ from → StandsAt 0 sb image
  front_kept from count image changes after =
      let long = length-superblock form.area form.bounds in
      stands_keeps 0 sb state.bytes image holds.active.front (λ i l h. changes.before i (omega (arith, long, after)))

  -- bytes of the other area alone have changed
  kept : (from count : ℕ) (image : List ℕ) → ChangesOnly from count state.bytes image → other ≤ from → from + count ≤ other + size → HoldsIn v form start other generation snapshot payloads image
  kept from count image changes low high =
      let after = after_superblock size start other holds.active.places in
      record {
        is_form = holds.active.is_form;
        front = front_kept from count image changes (omega (arith, after.1));
        whole = changes.size ∙ holds.active.whole;
        places = holds.active.places;
        area = area_keeps v start size generation snapshot payloads state.bytes image holds.active.area (apart size start other from count state.bytes image holds.active.places changes low high);
      }

  -- the same, where the other area yields
  other_changes : (from count : ℕ) (image : List ℕ) → ChangesOnly from count state.bytes image → other ≤ from → from + count ≤ other + size → Yields other generation image → Holds v form snapshot payloads image
  other_changes from count image changes low high yields =
      record { start = start; other = other; generation = generation; active = kept from count image changes low high; yields = yields }

  -- no call
  pub row_none : (image : List ℕ) → image ≡ state.bytes → Yields other generation state.bytes → Holds v form snapshot payloads image
  row_none image same yields = subst (Holds v form snapshot payloads) (sym same) (record { start = start; other = other; generation = generation; active = holds.active; yields = yields })

  -- close: the gate may be torn open, where the generation is below
  pub row_close : (image : List ℕ) → ChangesOnly other 1 state.bytes image → IsBelow other generation state.bytes → Holds v form snapshot payloads image
  row_close image changes below =
      let enough = long_enough in
      other_changes other 1 image changes (omega arith) (omega arith) (inr (below_keeps other generation state.bytes image below (λ i low high. changes.after i (omega arith))))

  -- fill: the gate stays closed
  pub row_fill : (count : ℕ) (image : List ℕ) → ChangesOnly (other + 1) count state.bytes image → count + 1 ≤ size → IsClosed other state.bytes → Holds v form snapshot payloads image
  row_fill count image changes fits closed =
      other_changes (other + 1) count image changes (omega arith) (omega arith) (inl (λ opened. closed (sym (changes.before other (omega arith)) ∙ opened)))

  -- bytes from the area's last gate on have changed alone
  module _ (end from count : ℕ) (image : List ℕ) (ends : last_gate (start + 14 + length snapshot) payloads ≡ start + end) (low : start + end ≤ from) (fits : from + count ≤ start + size) (changes : ChangesOnly from count state.bytes image) (now : List (List ℕ)) (frames : HoldsFrames (start + 14 + length snapshot) now (start + size) image) where
    area_with : AreaHolds v start size generation snapshot now image
    area_with =
        let ab = above in
        let long = length-area_front v generation snapshot in
        record {
          in_range = holds.active.area.in_range;
          short = holds.active.area.short;
          is_open = changes.before start (omega (arith, ends)) ∙ holds.active.area.is_open;
          front = stands_keeps (start + 1) (area_front v generation snapshot) state.bytes image holds.active.area.front (λ i l h. changes.before i (omega (arith, ends)));
          frames = frames;
        }

    other_same : (i : ℕ) → other ≤ i → i < other + size → slice_index image i ≡ slice_index state.bytes i
    other_same = apart size other start from count state.bytes image (swapped size start other holds.active.places) changes (omega arith) fits

    active_with : HoldsIn v form start other generation snapshot now image
    active_with =
        let ab = above in
        let after = after_superblock size start other holds.active.places in
        record {
          is_form = holds.active.is_form;
          front = front_kept from count image changes (omega (arith, after.0, ends));
          whole = changes.size ∙ holds.active.whole;
          places = holds.active.places;
          area = area_with;
        }

    holds_with : Yields other generation state.bytes → Holds v form snapshot now image
    holds_with yields =
        let enough = long_enough in
        record {
          start = start;
          other = other;
          generation = generation;
          active = active_with;
          yields = yields_keeps other generation state.bytes image yields (λ i l h. other_same i l (omega arith));
        }

  module _ (end : ℕ) (is_below : Bool) (recovers : RecoversToParts v form start other generation end is_below snapshot payloads state) where
    -- frame, before its gate is written: the frames from before
    pub row_staged : (count : ℕ) (image : List ℕ) → end + 1 + count ≤ size → HoldsWithout (start + 14 + length snapshot) payloads (start + end) count (start + size) state.bytes image
        → Holds v form snapshot payloads image
    row_staged count image fits is = holds_with end (start + end + 1) count image recovers.ends (omega arith) (omega arith) is.others payloads is.frames recovers.yields

    -- frame: the frames from before, with the new one or without
    pub row_frame : (payload image : List ℕ) → end + (6 + length payload) ≤ size
        → HoldsWithOrWithout (start + 14 + length snapshot) payloads payload (start + end) (6 + length payload) (start + size) state.bytes image
        → Holds v form snapshot payloads image ⊎ Holds v form snapshot (payloads ++ payload ∷ []) image
    row_frame payload image fits is =
        ⊎_elim
        (λ frames. inl (holds_with end (start + end) (6 + length payload) image recovers.ends (omega arith) (omega arith) is.others payloads frames recovers.yields))
        (λ frames. inr (holds_with end (start + end) (6 + length payload) image recovers.ends (omega arith) (omega arith) is.others (payloads ++ payload ∷ []) frames recovers.yields))
        is.frames

    -- and once the frame's gate is open
    pub after_frame : (payload : List ℕ) (new : State) → end + (6 + length payload) ≤ size
        → IsSettled new → HoldsWith (start + 14 + length snapshot) payloads payload (start + end) (6 + length payload) (start + size) state.bytes new.bytes
        → RecoversToParts v form start other generation (end + 5 + length payload) is_below snapshot (payloads ++ payload ∷ []) new
    after_frame payload new fits settled is =
        let enough = long_enough in
        let more = payloads ++ payload ∷ [] in
        let same = other_same end (start + end) (6 + length payload) new.bytes recovers.ends (omega arith) (omega arith) is.others more is.frames.frames in
        record {
          holds = record {
            settled = settled;
            active = active_with end (start + end) (6 + length payload) new.bytes recovers.ends (omega arith) (omega arith) is.others more is.frames.frames;
          };
          ends = is.frames.ends ∙ omega arith;
          below = (
            (λ b. below_keeps other generation state.bytes new.bytes (recovers.below.0 b) (λ i l h. same i (omega arith) (omega arith))),
            (λ b. recovers.below.1 (below_keeps other generation new.bytes state.bytes b (λ i l h. sym (same i (omega arith) (omega arith))))),
          );
          yields = yields_keeps other generation state.bytes new.bytes recovers.yields (λ i l h. same i l (omega arith));
        }

  -- switch: the other area has a snapshot of the next generation after its closed gate
  module _ (w : Version) (next_room : least_area w form.bounds ≤ size) (next : List ℕ) (next_fits : generation + 1 < 2 ^ 64) (next_short : length next < 2 ^ 32) (room : 14 + length next < size) (image : List ℕ) (changes : ChangesOnly other 1 state.bytes image) (filled : StandsAt (other + 1) (area_front w (generation + 1) next ++ 0 ∷ []) state.bytes) where
    front_there : StandsAt (other + 1) (area_front w (generation + 1) next) image
    front_there = stands_keeps (other + 1) (area_front w (generation + 1) next) state.bytes image (stands_front (other + 1) (area_front w (generation + 1) next) (0 ∷ []) state.bytes filled) (λ i low high. changes.after i (omega arith))

    first_gate : slice_index image (other + 14 + length next) ≡ 0
    first_gate =
        let long = length-area_front w (generation + 1) next in
        let place : other + 14 + length next ≡ other + 1 + length (area_front w (generation + 1) next) = omega arith in
        changes.after (other + 14 + length next) (omega arith)
        ∙ ap (λ (i : ℕ). slice_index state.bytes i) place
        ∙ one_stands (other + 1 + length (area_front w (generation + 1) next)) 0 state.bytes (stands_back (other + 1) (area_front w (generation + 1) next) (0 ∷ []) state.bytes filled)

    next_holds : IsOpen other image → AreaHolds w other size (generation + 1) next [] image
    next_holds is_open = record {
      in_range = next_fits;
      short = next_short;
      is_open = is_open;
      front = front_there;
      frames = ((omega arith), (λ gate. absurd (omega (arith, sym first_gate ∙ gate))));
    }

    old_same : (i : ℕ) → start ≤ i → i < start + size → slice_index image i ≡ slice_index state.bytes i
    old_same = let enough = long_enough in apart size start other other 1 state.bytes image holds.active.places changes (omega arith) (omega arith)

    old_below : IsBelow start (generation + 1) image
    old_below =
        let enough = long_enough in
        record {
          lower = generation;
          less = omega arith;
          stands = stands_keeps (start + 2) (to_be_bytes w64 generation) state.bytes image (front_generation v start generation snapshot state.bytes holds.active.area.front) (λ i low high. old_same i (omega arith) (omega arith));
        }

    next_active : IsOpen other image → HoldsIn w form other start (generation + 1) next [] image
    next_active is_open =
        let after = after_superblock size start other holds.active.places in
        record {
          is_form = record { in_range = holds.active.is_form.in_range; room = next_room; addressable = holds.active.is_form.addressable };
          front = front_kept other 1 image changes after.1;
          whole = changes.size ∙ holds.active.whole;
          places = swapped size start other holds.active.places;
          area = next_holds is_open;
        }

    pub row_switch : Holds v form snapshot payloads image ⊎ Holds w form next [] image
    row_switch =
        let enough = long_enough in
        elim (cases_eq (slice_index image other) open_gate) [
          | inl is_open ↦ inr (record { start = other; other = start; generation = generation + 1; active = next_active is_open; yields = inr old_below })
          | inr closed ↦ inl (other_changes other 1 image changes (omega arith) (omega arith) (inl closed))
        ]

  -- and once the gate is open
  pub after_switch : (w : Version) → least_area w form.bounds ≤ size → (next : List ℕ) → generation + 1 < 2 ^ 64 → length next < 2 ^ 32 → 14 + length next < size → (new : State) → WritesThrough other (165 ∷ []) state new → StandsAt (other + 1) (area_front w (generation + 1) next ++ 0 ∷ []) state.bytes
      → RecoversToParts w form other start (generation + 1) (14 + length next) true next [] new
  after_switch w next_room next next_fits next_short room new wrote filled =
      let is_open : IsOpen other new.bytes = one_stands other 165 new.bytes wrote.written in
      let below = old_below w next_room next next_fits next_short room new.bytes wrote.content filled in
      record {
        holds = record { settled = wrote.settled; active = next_active w next_room next next_fits next_short room new.bytes wrote.content filled is_open };
        ends = omega arith;
        below = ((λ b. below), (λ b. refl));
        yields = inr below;
      }

  -- the gate is closed
  pub closed_after : (new : State) → WritesThrough other (0 ∷ []) state new → HoldsAt v form start other generation snapshot payloads new × IsClosed other new.bytes
  closed_after new wrote =
      let enough = long_enough in
      let closed = one_stands other 0 new.bytes wrote.written in
      (record { settled = wrote.settled; active = kept other 1 new.bytes wrote.content (omega arith) (omega arith) }, λ is_open. absurd (omega (arith, sym closed ∙ is_open)))

  -- the area after the closed gate is filled
  pub filled_after : (front : List ℕ) (new : State) → length front < size → IsClosed other state.bytes → WritesThrough (other + 1) front state new
      → HoldsAt v form start other generation snapshot payloads new × IsClosed other new.bytes × StandsAt (other + 1) front new.bytes
  filled_after front new fits closed wrote =
      (record { settled = wrote.settled; active = kept (other + 1) (length front) new.bytes wrote.content (omega arith) (omega arith) }, (λ is_open. closed (sym (wrote.content.before other (omega arith)) ∙ is_open)), wrote.written)

-- where the generation isn't below, the gate is closed
pub closed_there : (v : Version) (form : Form) (start other generation end : ℕ) (is_below : Bool) (snapshot : List ℕ) (payloads : List (List ℕ)) (state : State) → RecoversToParts v form start other generation end is_below snapshot payloads state
    → is_below ≡ false → IsClosed other state.bytes
closed_there v form start other generation end is_below snapshot payloads state recovers is_false =
    ⊎_elim (λ closed. closed) (λ below. let yes = recovers.below.1 below in absurd (cc)) recovers.yields

-- what each image of a store at rest holds
pub recovers_image : (v : Version) (form : Form) (start other generation end : ℕ) (is_below : Bool) (snapshot : List ℕ) (payloads : List (List ℕ)) (state : State) → RecoversToParts v form start other generation end is_below snapshot payloads state
    → (image : List ℕ) → IsImage state image → Holds v form snapshot payloads image
recovers_image v form start other generation end is_below snapshot payloads state recovers image left =
    row_none v form start other generation snapshot payloads state recovers.holds image (image_settled state recovers.holds.settled image left) recovers.yields

pub recovers_frames : (v : Version) (form : Form) (start other generation end : ℕ) (is_below : Bool) (snapshot : List ℕ) (payloads : List (List ℕ)) (state : State) → RecoversToParts v form start other generation end is_below snapshot payloads state
    → HoldsFramesTo (start + 14 + length snapshot) payloads (start + end) (start + form.area) state.bytes
recovers_frames v form start other generation end is_below snapshot payloads state recovers = record { frames = recovers.holds.active.area.frames; ends = recovers.ends }
