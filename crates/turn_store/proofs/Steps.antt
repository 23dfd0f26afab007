-- What the steps of a commit make of what a store shows.
use Rattle.std.proofs.Common.{◌≡◌, ◌⊎◌, inl, inr, ⊎_elim, ℕ, ◌+◌, ◌≤◌, false, true, List, [], ◌∷◌, ◌++◌, length, refl, sym, ◌∙◌, ap, subst, arith, append_assoc, length-append}
use Rattle.std.specs.Int.{to_be_bytes, w32, w64}
use Rattle.turn_disk.specs.Prelude.{State, Trace, IsSettled}
use Rattle.turn_disk.proofs.Since.{since_weaken}
use Rattle.turn_journal.specs.Area.{end_of, limit_of}
use Rattle.turn_journal.specs.Frames.{gate_after, AddsFrame, HoldsWith}
use Rattle.turn_journal.specs.declared.area.Area.{Area}
use Rattle.turn_store.specs.Prelude.{Version, Form, version_byte, area_front, Holds, RecoversToParts, InStagesAt, Shows, StoreState, form_of}
use Rattle.turn_store.proofs.Rows.{length-area_front, row_staged, row_frame, after_frame}
use Rattle.turn_store.proofs.Staged.{stages_join}

-- a store that has no fault
abbrev pub running : {D : Type 0} → StoreState D → D → Area → ℕ → StoreState D
running store disk area frames = record store { disk = disk; area = area; frames = frames; stopped = false }

module _ {D : Type 0} (store : StoreState D) (old : Trace) (s : List ℕ) (ps : List (List ℕ)) (shows : Shows store old.now s ps) (payload : List ℕ) (room : store.area.end + 6 + length payload ≤ store.area.size) where
  abbrev form : Form
  form = form_of store

  abbrev v : Version
  v = store.version

  abbrev from : ℕ
  from = store.area.start + 14 + length s

  abbrev new_payloads : List (List ℕ)
  new_payloads = ps ++ payload ∷ []

  pub frame_stages : (new : Trace) → AddsFrame from ps payload (end_of store.area) (limit_of store.area) old new
      → InStagesAt (end_of store.area) old new (Holds v form s ps) (λ image. Holds v form s ps image ⊎ Holds v form s new_payloads image)
  frame_stages new adds =
      let recovers = shows.recovers in
      let mid = adds.mid in
      stages_join (end_of store.area) old mid new (Holds v form s ps) (λ (image : List ℕ). Holds v form s ps image ⊎ Holds v form s new_payloads image)
      (since_weaken old mid _ (Holds v form s ps) (λ image is. row_staged v form store.area.start store.other store.generation s ps old.now recovers.holds store.area.end store.other_is_below recovers (5 + length payload) image (omega arith) is) adds.first)
      (⊎_elim (λ same. inl same) (λ waits. inr waits.0) adds.there)
      (since_weaken mid new _ (λ (image : List ℕ). Holds v form s ps image ⊎ Holds v form s new_payloads image)
      (λ image is. row_frame v form store.area.start store.other store.generation s ps old.now recovers.holds store.area.end store.other_is_below recovers payload image (omega arith) is) adds.second)
      adds.once

  pub frame_shown : (new : State) (disk : D) (area : Area) (frames : ℕ) → area ≡ record store.area { end = gate_after store.area.end payload } → frames ≡ store.frames + 1
      → IsSettled new × HoldsWith from ps payload (end_of store.area) (6 + length payload) (limit_of store.area) old.now.bytes new.bytes
      → Shows (running store disk area frames) new s new_payloads
  frame_shown new disk area frames area_is frames_are done =
      let recovers = shows.recovers in
      let count = shows.frames in
      let more : frames ≡ length new_payloads = omega (arith, frames_are, count, length-append ps (payload ∷ [])) in
      let next = after_frame v form store.area.start store.other store.generation s ps old.now recovers.holds store.area.end store.other_is_below recovers payload new (omega arith) done.0 done.1 in
      subst (λ (a : Area). Shows (running store disk a frames) new s new_payloads) (sym area_is) (record { recovers = next; frames = more })

module _ {D : Type 0} (store : StoreState D) (old : Trace) (s : List ℕ) (ps : List (List ℕ)) (shows : Shows store old.now s ps) where
  pub swap_shown : (new : State) (disk : D) (area : Area) (start size : ℕ) (next : List ℕ) → start ≡ store.area.start → size ≡ length next → area ≡ record store.area { start = store.other; end = 14 + size }
      → RecoversToParts store.version (form_of store) store.other store.area.start (store.generation + 1) (14 + length next) true next [] new
      → Shows (record store { disk = disk; area = area; other = start; generation = store.generation + 1; frames = 0; other_is_below = true; stopped = false }) new next []
  swap_shown new disk area start size next start_is size_is area_is done =
      let there : area ≡ record store.area { start = store.other; end = 14 + length next } = area_is ∙ ap (λ (n : ℕ). record store.area { start = store.other; end = 14 + n }) size_is in
      let before = subst (λ (a : Area). Shows (record store { disk = disk; area = a; other = store.area.start; generation = store.generation + 1; frames = 0; other_is_below = true; stopped = false }) new next []) (sym there) (record { recovers = done; frames = refl }) in
      subst (λ (n : ℕ). Shows (record store { disk = disk; area = area; other = n; generation = store.generation + 1; frames = 0; other_is_below = true; stopped = false }) new next []) (sym start_is) before

-- the bytes after an area's gate, in their parts
pub front_is : (v : Version) (generation size : ℕ) (next head a b c : List ℕ) → head ≡ version_byte v ∷ (to_be_bytes w64 generation ++ to_be_bytes w32 size) → size ≡ length next → a ≡ head → b ≡ next → c ≡ 0 ∷ [] → a ++ (b ++ c) ≡ area_front v generation next ++ 0 ∷ []
unfolding area_front
front_is v generation size next head a b c head_is size_is one two three =
    let number = to_be_bytes w64 generation in
    let count = to_be_bytes w32 (length next) in
    let closed : List ℕ = 0 ∷ [] in
    let left : (number ++ count) ++ (next ++ closed) ≡ number ++ (count ++ (next ++ closed)) = append_assoc number count (next ++ closed) in
    let right : (number ++ (count ++ next)) ++ closed ≡ number ++ (count ++ (next ++ closed)) = append_assoc number (count ++ next) closed ∙ ap (λ (l : List ℕ). number ++ l) (append_assoc count next closed) in
    let whole : a ≡ version_byte v ∷ (number ++ count) = one ∙ head_is ∙ ap (λ (n : ℕ). version_byte v ∷ (number ++ to_be_bytes w32 n)) size_is in
    ap (λ (l : List ℕ). l ++ (b ++ c)) whole ∙ ap (λ (l : List ℕ). (version_byte v ∷ (number ++ count)) ++ (l ++ c)) two ∙ ap (λ (l : List ℕ). (version_byte v ∷ (number ++ count)) ++ (next ++ l)) three ∙ ap (λ (l : List ℕ). version_byte v ∷ l) (left ∙ sym right)

pub length-front : (v : Version) (generation : ℕ) (next front : List ℕ) → front ≡ area_front v generation next ++ 0 ∷ [] → length front ≡ 14 + length next
length-front v generation next front is = omega (arith, ap length is, length-append (area_front v generation next) (0 ∷ []), length-area_front v generation next)
