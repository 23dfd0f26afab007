-- What writes after frames and to their last gate leave of them.
use Rattle.std.proofs.Common.{◌≡◌, inl, inr, ℕ, ◌+◌, ◌<◌, ◌≤◌, ◌^◌, List, [], ◌∷◌, ◌++◌, length, slice_index, refl, sym, ◌∙◌, ap, subst, arith, length-append}
use Rattle.std.specs.Int.{to_be_bytes, w32}
use Rattle.std.proofs.lemmas.Bool.{cases_eq}
use Rattle.std.proofs.lemmas.List.{get_or_append_left, get_or_at}
use Rattle.turn_disk.specs.Prelude.{ChangesOnly, StandsAt}
use Rattle.turn_journal.specs.Layout.{open_gate}
use Rattle.turn_journal.specs.Frames.{framed, IsOpen, IsClosed, IsFrame, gate_after, last_gate, HoldsFrames, HoldsFramesTo, IsWaiting, HoldsWithout, HoldsWithOrWithout, HoldsWith}

pub length-framed : (payload : List ℕ) → length (framed payload) ≡ 4 + length payload
unfolding framed
length-framed payload = length-append (to_be_bytes w32 (length payload)) payload

pub last_gate_above : (at : ℕ) (payloads : List (List ℕ)) → at ≤ last_gate at payloads
last_gate_above at [] = omega arith
last_gate_above at (payload ∷ payloads) = omega (arith, last_gate_above (gate_after at payload) payloads)

pub last_gate-push : (at : ℕ) (payloads : List (List ℕ)) (payload : List ℕ) → last_gate at (payloads ++ payload ∷ []) ≡ gate_after (last_gate at payloads) payload
last_gate-push at [] payload = refl
last_gate-push at (p ∷ payloads) payload = last_gate-push (gate_after at p) payloads payload

-- bytes of a content are in another that is the same there
pub stands_keeps : (at : ℕ) (bytes c d : List ℕ) → StandsAt at bytes c → ((i : ℕ) → at ≤ i → i < at + length bytes → slice_index d i ≡ slice_index c i) → StandsAt at bytes d
stands_keeps at bytes c d stands same i below = same (at + i) (omega arith) (omega arith) ∙ stands i below

pub stands_front : (at : ℕ) (xs ys c : List ℕ) → StandsAt at (xs ++ ys) c → StandsAt at xs c
stands_front at xs ys c stands i below = stands i (omega (arith, length-append xs ys)) ∙ get_or_append_left xs ys 0 i below

-- a frame is in a content that is the same up to the gate after it
pub frame_keeps : (at : ℕ) (payload c d : List ℕ) → IsFrame at payload c → ((i : ℕ) → at ≤ i → i < gate_after at payload → slice_index d i ≡ slice_index c i) → IsFrame at payload d
frame_keeps at payload c d frame same =
    let size = length-framed payload in
    record {
      is_open = same at (omega arith) (omega arith) ∙ frame.is_open;
      short = frame.short;
      stands = stands_keeps (at + 1) (framed payload) c d frame.stands (λ i low high. same i (omega arith) (omega arith));
    }

-- So are frames and the closed gate after them, where that gate is closed in the other content too.
pub frames_keep : (at : ℕ) (payloads : List (List ℕ)) (limit : ℕ) (c d : List ℕ) → HoldsFrames at payloads limit c → ((i : ℕ) → at ≤ i → i < last_gate at payloads → slice_index d i ≡ slice_index c i)
    → IsClosed (last_gate at payloads) d → HoldsFrames at payloads limit d
frames_keep at [] limit c d holds same shut = (holds.0, shut)
frames_keep at (p ∷ payloads) limit c d holds same shut =
    let above = last_gate_above (gate_after at p) payloads in
    (frame_keeps at p c d holds.0 (λ i low high. same i low (omega arith)), frames_keep (gate_after at p) payloads limit c d holds.1 (λ i low high. same i (omega arith) high) shut)

pub last_is_closed : (at : ℕ) (payloads : List (List ℕ)) (limit : ℕ) (c : List ℕ) → HoldsFrames at payloads limit c → IsClosed (last_gate at payloads) c
last_is_closed at [] limit c holds = holds.1
last_is_closed at (p ∷ payloads) limit c holds = last_is_closed (gate_after at p) payloads limit c holds.1

-- a frame at the last gate, and a closed gate after it, are one frame more
pub frames_grow : (at : ℕ) (payloads : List (List ℕ)) (limit : ℕ) (c d payload : List ℕ) → HoldsFrames at payloads limit c → ((i : ℕ) → at ≤ i → i < last_gate at payloads → slice_index d i ≡ slice_index c i)
    → IsFrame (last_gate at payloads) payload d → gate_after (last_gate at payloads) payload < limit → IsClosed (gate_after (last_gate at payloads) payload) d
    → HoldsFrames at (payloads ++ payload ∷ []) limit d
frames_grow at [] limit c d payload holds same frame fits shut = (frame, (fits, shut))
frames_grow at (p ∷ payloads) limit c d payload holds same frame fits shut =
    let above = last_gate_above (gate_after at p) payloads in
    (frame_keeps at p c d holds.0 (λ i low high. same i low (omega arith)), frames_grow (gate_after at p) payloads limit c d payload holds.1 (λ i low high. same i (omega arith) high) frame fits shut)

-- a change of fewer bytes, after one of more
pub changes_join : (at count from n : ℕ) (a b c : List ℕ) → ChangesOnly at count a b → ChangesOnly from n b c → at ≤ from → from + n ≤ at + count → ChangesOnly at count a c
changes_join at count from n a b c first second low high = record {
  size = second.size ∙ first.size;
  before = λ i below. second.before i (omega arith) ∙ first.before i below;
  after = λ i above. second.after i (omega arith) ∙ first.after i above;
}

pub changes_widen : (at count from n : ℕ) (a b : List ℕ) → ChangesOnly from n a b → at ≤ from → from + n ≤ at + count → ChangesOnly at count a b
changes_widen at count from n a b changes low high = record {
  size = changes.size;
  before = λ i below. changes.before i (omega arith);
  after = λ i above. changes.after i (omega arith);
}

module _ (at : ℕ) (payloads : List (List ℕ)) (gate limit : ℕ) (old : List ℕ) (is : HoldsFramesTo at payloads gate limit old) where
  was_closed : IsClosed gate old
  was_closed = rw (← is.ends) (last_is_closed at payloads limit old is.frames)

  -- a content with the gate closed, and the same before it
  without : (image : List ℕ) → ((i : ℕ) → i < gate → slice_index image i ≡ slice_index old i) → IsClosed gate image → HoldsFrames at payloads limit image
  without image same shut = frames_keep at payloads limit old image is.frames (λ i low high. same i (omega (arith, is.ends))) (subst (λ (g : ℕ). IsClosed g image) (sym is.ends) shut)

  -- a write after the closed gate
  pub after_write : (count : ℕ) (image : List ℕ) → ChangesOnly (gate + 1) count old image → HoldsWithout at payloads gate count limit old image
  after_write count image changes = record {
    others = changes;
    frames = without image (λ i below. changes.before i (omega arith)) (λ opened. was_closed (sym (changes.before gate (omega arith)) ∙ opened));
  }

  -- a write of the gate, with a frame that waits after it
  module _ (payload : List ℕ) (waits : IsWaiting gate payload limit old) (image : List ℕ) (changes : ChangesOnly gate 1 old image) where
    -- the gate is open: one frame more
    grown : IsOpen gate image → HoldsFrames at (payloads ++ payload ∷ []) limit image
    grown opened =
        let frame : IsFrame gate payload image = record {
          is_open = opened;
          short = waits.short;
          stands = stands_keeps (gate + 1) (framed payload) old image waits.stands (λ i low high. changes.after i (omega arith));
        } in
        let shut : IsClosed (gate_after gate payload) image = λ is_open. waits.closed (sym (changes.after (gate_after gate payload) (omega arith)) ∙ is_open) in
        let to_last = λ (P : ℕ → Type 0) (here : P gate). subst P (sym is.ends) here in
        frames_grow at payloads limit old image payload is.frames (λ i low high. changes.before i (omega (arith, is.ends)))
        (to_last (λ g. IsFrame g payload image) frame) (to_last (λ g. gate_after g payload < limit) waits.fits) (to_last (λ g. IsClosed (gate_after g payload) image) shut)

    pub at_gate : HoldsWithOrWithout at payloads payload gate 1 limit old image
    at_gate = record {
      others = changes;
      frames = elim (cases_eq (slice_index image gate) open_gate) [
        | inl opened ↦ inr (grown opened)
        | inr shut ↦ inl (without image (λ i below. changes.before i below) shut)
      ];
    }

    pub with_open_gate : IsOpen gate image → HoldsWith at payloads payload gate 1 limit old image
    with_open_gate opened = record {
      others = changes;
      frames = record { frames = grown opened; ends = last_gate-push at payloads payload ∙ ap (λ (g : ℕ). gate_after g payload) is.ends };
    }

  pub still_holds : (count : ℕ) (mid : List ℕ) → ChangesOnly (gate + 1) count old mid → HoldsFramesTo at payloads gate limit mid
  still_holds count mid staged = record { frames = (after_write count mid staged).frames; ends = is.ends }

-- a payload's frame with a closed gate after it, as it is written
module _ (payload bytes : List ℕ) (bytes_are : bytes ≡ framed payload ++ 0 ∷ []) where
  pub staged_size : length bytes ≡ 5 + length payload
  staged_size = omega (arith, ap length bytes_are, length-append (framed payload) (0 ∷ []), length-framed payload)

  -- where it follows a gate, the frame waits there
  module _ (gate limit : ℕ) (short : length payload < 2 ^ 32) (fits : gate + 6 + length payload ≤ limit) (content : List ℕ) (written : StandsAt (gate + 1) bytes content) where
    there : StandsAt (gate + 1) (framed payload ++ 0 ∷ []) content
    there = subst (λ (b : List ℕ). StandsAt (gate + 1) b content) bytes_are written

    next : slice_index content (gate_after gate payload) ≡ 0
    next =
        let long = length-framed payload in
        let place : gate_after gate payload ≡ gate + 1 + length (framed payload) = omega arith in
        rw place (there (length (framed payload)) (omega (arith, length-append (framed payload) (0 ∷ [])))) ∙ get_or_at (framed payload) 0 [] 0 (length (framed payload)) refl

    pub waits_there : IsWaiting gate payload limit content
    waits_there = record {
      short = short;
      stands = stands_front (gate + 1) (framed payload) (0 ∷ []) content there;
      fits = omega (arith, fits);
      closed = λ opened. absurd (omega (arith, sym next ∙ opened));
    }

-- the two steps of an append, as changes of the whole frame
module _ (at : ℕ) (payloads : List (List ℕ)) (payload : List ℕ) (gate count limit : ℕ) (old : List ℕ) (size : count ≡ 5 + length payload) where
  pub in_first : (image : List ℕ) → HoldsWithout at payloads gate count limit old image → HoldsWithOrWithout at payloads payload gate (6 + length payload) limit old image
  in_first image holds = record {
    others = changes_widen gate (6 + length payload) (gate + 1) count old image holds.others (omega arith) (omega (arith, size));
    frames = inl holds.frames;
  }

  pub in_stage : (image : List ℕ) → HoldsWithout at payloads gate count limit old image → HoldsWithout at payloads gate (5 + length payload) limit old image
  in_stage image holds = rw (← size) holds

  module _ (mid : List ℕ) (staged : ChangesOnly (gate + 1) count old mid) where
    both : (new : List ℕ) → ChangesOnly gate 1 mid new → ChangesOnly gate (6 + length payload) old new
    both new opened = changes_join gate (6 + length payload) gate 1 old mid new (changes_widen gate (6 + length payload) (gate + 1) count old mid staged (omega arith) (omega (arith, size))) opened (omega arith) (omega arith)

    pub in_second : (image : List ℕ) → HoldsWithOrWithout at payloads payload gate 1 limit mid image → HoldsWithOrWithout at payloads payload gate (6 + length payload) limit old image
    in_second image holds = record { others = both image holds.others; frames = holds.frames }

    pub after_second : (new : List ℕ) → HoldsWith at payloads payload gate 1 limit mid new → HoldsWith at payloads payload gate (6 + length payload) limit old new
    after_second new holds = record { others = both new holds.others; frames = holds.frames }

-- no step
unchanged : (at count : ℕ) (old : List ℕ) → ChangesOnly at count old old
unchanged at count old = record { size = refl; before = λ i below. refl; after = λ i above. refl }

pub untouched : (at : ℕ) (payloads : List (List ℕ)) (payload : List ℕ) (gate count limit : ℕ) (old : List ℕ) → HoldsFramesTo at payloads gate limit old
    → (image : List ℕ) → image ≡ old → HoldsWithOrWithout at payloads payload gate count limit old image
untouched at payloads payload gate count limit old is image same = rw same (record { others = unchanged gate count old; frames = inl is.frames })

pub untouched_alone : (at : ℕ) (payloads : List (List ℕ)) (gate count limit : ℕ) (old : List ℕ) → HoldsFramesTo at payloads gate limit old
    → (image : List ℕ) → image ≡ old → HoldsWithout at payloads gate count limit old image
untouched_alone at payloads gate count limit old is image same = rw same (record { others = unchanged (gate + 1) count old; frames = is.frames })
