-- How a frame is added, step by step.
use Rattle.std.proofs.Common.{◌≡◌, inl, inr, ℕ, ◌+◌, ◌<◌, ◌≤◌, ◌^◌, List, [], ◌∷◌, ◌++◌, length, take, refl, ap, ◌∙◌}
use Rattle.turn_disk.proofs.Since.{since_same, since_join, since_weaken, image_settled}
use Rattle.turn_disk.specs.Prelude.{EachImageSince, IsSettled, Trace, WritesOnce, WritesThrough}
use Rattle.turn_journal.specs.Frames.{framed, AddsFrame, HoldsFramesTo, IsWaiting, HoldsWithout, HoldsWithOrWithout, HoldsWith}
use Rattle.turn_journal.proofs.Growing.{staged_size, waits_there, still_holds, in_first, in_stage, in_second, after_second, untouched, untouched_alone}

-- both stages as one
pub stop_of : (from : ℕ) (payloads : List (List ℕ)) (payload : List ℕ) (gate limit : ℕ) (old new : Trace) → AddsFrame from payloads payload gate limit old new
    → EachImageSince old new (HoldsWithOrWithout from payloads payload gate (6 + length payload) limit old.now.bytes)
stop_of from payloads payload gate limit old new adds =
    since_join old adds.mid new _ (since_weaken old adds.mid _ _ (in_first from payloads payload gate _ limit _ refl) adds.first) adds.second

module _ (from : ℕ) (payloads : List (List ℕ)) (payload : List ℕ) (gate limit : ℕ) (old : Trace) (settled : IsSettled old.now) (is : HoldsFramesTo from payloads gate limit old.now.bytes) where
  -- nothing was written
  pub adds_nothing : AddsFrame from payloads payload gate limit old old
  adds_nothing = record {
    mid = old;
    first = since_same old old (HoldsWithout from payloads gate _ limit _) refl (λ image left. untouched_alone from payloads gate _ limit _ is image (image_settled _ settled image left));
    there = inl refl;
    second = since_same old old (HoldsWithOrWithout from payloads payload gate _ limit _) refl (λ image left. untouched from payloads payload gate _ limit _ is image (image_settled _ settled image left));
    once = inl refl;
  }

  -- The frame was written after its closed gate, with a closed gate after it: they are the first bytes of a buffer.
  module _ (buffer : List ℕ) (frame : take (length payload + 5) buffer ≡ framed payload ++ 0 ∷ []) (written : List ℕ) (same : written ≡ buffer) (mid : Trace)
      (staged : EachImageSince old mid (HoldsWithout from payloads gate (length (take (length payload + 5) written)) limit old.now.bytes)) where
    abbrev bytes : List ℕ
    bytes = take (length payload + 5) written

    bytes_are : bytes ≡ framed payload ++ 0 ∷ []
    bytes_are = ap (λ (l : List ℕ). take (length payload + 5) l) same ∙ frame

    size : length bytes ≡ 5 + length payload
    size = staged_size payload bytes bytes_are

    first : EachImageSince old mid (HoldsWithout from payloads gate (5 + length payload) limit old.now.bytes)
    first = since_weaken old mid _ _ (in_stage from payloads payload gate _ limit _ size) staged

    -- if that failed, no more was
    pub adds_staged : AddsFrame from payloads payload gate limit old mid
    adds_staged = record {
      mid = mid;
      first = first;
      there = inl refl;
      second = since_same mid mid (HoldsWithOrWithout from payloads payload gate _ limit _) refl (λ image left. in_first from payloads payload gate _ limit _ size image (staged.after image left));
      once = inl refl;
    }

    -- else the gate was opened
    module _ (short : length payload < 2 ^ 32) (fits : gate + 6 + length payload ≤ limit) (wrote : WritesThrough (gate + 1) bytes old.now mid.now) (new : Trace) where
      held : HoldsFramesTo from payloads gate limit mid.now.bytes
      held = still_holds from payloads gate limit old.now.bytes is _ mid.now.bytes wrote.content

      waits : IsWaiting gate payload limit mid.now.bytes
      waits = waits_there payload bytes bytes_are gate limit short fits mid.now.bytes wrote.written

      pub adds_opened : (HoldsFramesTo from payloads gate limit mid.now.bytes → IsWaiting gate payload limit mid.now.bytes
          → EachImageSince mid new (HoldsWithOrWithout from payloads payload gate 1 limit mid.now.bytes))
          → WritesOnce gate 1 mid new → AddsFrame from payloads payload gate limit old new
      adds_opened opens once = record {
        mid = mid;
        first = first;
        there = inr (wrote.settled, waits);
        second = since_weaken mid new _ _ (in_second from payloads payload gate _ limit _ size _ wrote.content) (opens held waits);
        once = once;
      }

      pub holds_opened : (HoldsFramesTo from payloads gate limit mid.now.bytes → IsWaiting gate payload limit mid.now.bytes
          → IsSettled new.now × HoldsWith from payloads payload gate 1 limit mid.now.bytes new.now.bytes)
          → IsSettled new.now × HoldsWith from payloads payload gate (6 + length payload) limit old.now.bytes new.now.bytes
      holds_opened opened = ((opened held waits).0, after_second from payloads payload gate _ limit _ size _ wrote.content _ (opened held waits).1)
