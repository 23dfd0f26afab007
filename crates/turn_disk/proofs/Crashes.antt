-- A crash, one write after the other.
use Rattle.std.proofs.Common.{◌≡◌, ⊎_elim, ℕ, ◌+◌, ◌-◌, ◌/◌, ◌<◌, ◌≤◌, List, [], ◌∷◌, ◌++◌, length, take, drop, reverse, refl, sym, ◌∙◌, ap, subst, arith}
use Rattle.std.proofs.lemmas.List.{length-take, length-drop, length-replicate, take_at, take-take, drop-take, drop-drop}
use Rattle.turn_disk.specs.Prelude.{IsImage, replaced_at, part_of, left_of, left_by, pending_of, past_of, trace_of, IsRecord}
use Rattle.turn_disk.proofs.Replaced.{size_is, front_is, back_is, take_front, drop_front, drop_back}
use Rattle.turn_disk.proofs.Recorded.{reverse_push}
use Rattle.turn_disk.specs.declared.call.Call.{Call}
use Rattle.turn_disk.specs.declared.call.Call.TheVariants.{Wrote, Synced}
use Rattle.turn_disk.specs.declared.outcome.CrashOutcome.{CrashOutcome}
use Rattle.turn_disk.specs.declared.outcome.CrashOutcome.TheVariants.{Lost, Kept, Half, Fill}

pub part_short : (outcome : CrashOutcome) (bytes : List ℕ) → length (part_of outcome bytes) ≤ length bytes
part_short Lost bytes = omega arith
part_short Kept bytes = omega arith
part_short Half bytes = omega (arith, length-take (length bytes / 2) bytes)
part_short (Fill byte) bytes = omega (arith, length-replicate (length bytes) byte)

-- what a crash leaves is an image
pub left_image : (outcome : CrashOutcome) (calls : List Call) (replaced content : List ℕ) → IsRecord calls (length replaced) (length content)
    → IsImage (record { bytes = content; pending = pending_of calls }) (left_of outcome (pending_of calls) (past_of calls replaced content) content)
left_image outcome [] replaced content is = record { size = refl; same = λ i out. refl }
left_image outcome (Synced ∷ calls) replaced content is = record { size = refl; same = λ i out. refl }
left_image outcome (Wrote at count ∷ calls) replaced content is =
    let kept = length replaced - count in
    let old = drop kept replaced in
    let before = replaced_at at old content in
    let rest = take kept replaced in
    let old_size : length old ≡ count = omega (arith, length-drop kept replaced, is.0) in
    let fits : at + length old ≤ length content = omega (arith, is.1) in
    let same_size = size_is at old content fits in
    let rest_size : length rest ≡ kept = omega (arith, length-take kept replaced) in
    let its : IsRecord calls (length rest) (length before) =
    subst (λ (n : ℕ). IsRecord calls n (length before)) (sym rest_size) (subst (λ (n : ℕ). IsRecord calls kept n) (sym same_size) is.2) in
    let older = left_image outcome calls rest before its in
    let left = left_of outcome (pending_of calls) (past_of calls rest before) before in
    let part = part_of outcome (take count (drop at content)) in
    let part_size : length part ≤ count = omega (arith, part_short outcome (take count (drop at content)), length-take count (drop at content)) in
    let part_fits : at + length part ≤ length left = omega (arith, older.size, same_size, is.1) in
    record {
      size = size_is at part left part_fits ∙ older.size ∙ same_size;
      same = λ i out.
          ⊎_elim (λ (low : i < at). front_is at part left part_fits i low) (λ (high : at + count ≤ i). back_is at part left part_fits i (omega (arith, part_size))) out.0
          ∙ older.same i out.1
          ∙ ⊎_elim (λ (low : i < at). front_is at old content fits i low) (λ (high : at + count ≤ i). back_is at old content fits i (omega (arith, old_size))) out.0;
    }

-- One write, the newest: it was undone, the older ones left their parts, and it leaves its own. In the meantime its bytes were in the record.
module _ (outcome : CrashOutcome) (calls older : List Call) (at count kept : ℕ) (content replaced : List ℕ)
    (calls_are : calls ≡ older ++ Wrote at count ∷ []) (fits : kept ≤ length replaced) (is : IsRecord (reverse calls) kept (length content))
    (taken_back exchanged : List ℕ) (taken_back_is : taken_back ≡ replaced_at at (take count (drop (kept - count) replaced)) content)
    (exchanged_is : exchanged ≡ replaced_at (kept - count) (take count (drop at content)) replaced) where
  newest : reverse calls ≡ Wrote at count ∷ reverse older
  newest = ap reverse calls_are ∙ reverse_push older (Wrote at count)

  within : IsRecord (Wrote at count ∷ reverse older) kept (length content)
  within = subst (λ (cs : List Call). IsRecord cs kept (length content)) newest is

  wrote_size : length (take count (drop at content)) ≡ count
  wrote_size = omega (arith, length-take count (drop at content), length-drop at content, within.1)

  exchange_fits : kept - count + length (take count (drop at content)) ≤ length replaced
  exchange_fits = omega (arith, wrote_size, within.0, fits)

  kept_back : kept - count + count ≡ kept
  kept_back = omega (arith, within.0)

  -- before its bytes, its bytes, and after them
  front : take (kept - count) exchanged ≡ take (kept - count) (take kept replaced)
  front = ap (λ (l : List ℕ). take (kept - count) l) exchanged_is ∙ take_front (kept - count) _ replaced exchange_fits
      ∙ sym (take-take (kept - count) kept replaced (omega arith))

  its : take count (drop (kept - count) exchanged) ≡ take count (drop at content)
  its = ap (λ (l : List ℕ). take count (drop (kept - count) l)) exchanged_is
      ∙ ap (λ (l : List ℕ). take count l) (drop_front (kept - count) (take count (drop at content)) replaced exchange_fits)
      ∙ take_at (take count (drop at content)) _ count wrote_size

  pub rest_is : drop kept exchanged ≡ drop kept replaced
  rest_is =
      let there : kept - count + length (take count (drop at content)) ≡ kept = omega (arith, wrote_size, within.0) in
      ap (λ (l : List ℕ). drop kept l) exchanged_is
      ∙ subst (λ (n : ℕ). drop n (replaced_at (kept - count) (take count (drop at content)) replaced) ≡ drop n replaced) there (drop_back (kept - count) (take count (drop at content)) replaced exchange_fits)

  old_is : drop (kept - count) (take kept replaced) ≡ take count (drop (kept - count) replaced)
  old_is = ap (λ (n : ℕ). drop (kept - count) (take n replaced)) (sym kept_back) ∙ drop-take (kept - count) count replaced

  after : List ℕ → List ℕ → List ℕ
  after rest before = replaced_at at (part_of outcome (take count (drop at content))) (left_of outcome (pending_of (reverse older)) (past_of (reverse older) rest before) before)

  whole : left_by outcome (trace_of calls (take kept replaced) content) ≡ after (take (kept - count) (take kept replaced)) (replaced_at at (drop (kept - count) (take kept replaced)) content)
  unfolding after
  whole =
      let all : length (take kept replaced) ≡ kept = omega (arith, length-take kept replaced, fits) in
      ap (λ (cs : List Call). left_of outcome (pending_of cs) (past_of cs (take kept replaced) content) content) newest
      ∙ ap (λ (n : ℕ). after (take (n - count) (take kept replaced)) (replaced_at at (drop (n - count) (take kept replaced)) content)) all

  pub rest_of_older : (later : List ℕ) → drop (kept - count) later ≡ drop (kept - count) exchanged → drop kept later ≡ drop kept replaced
  rest_of_older later same =
      let cut : (l : List ℕ) → drop kept l ≡ drop count (drop (kept - count) l) = λ l. ap (λ (n : ℕ). drop n l) (sym kept_back ∙ omega arith) ∙ sym (drop-drop count (kept - count) l) in
      cut later ∙ ap (λ (l : List ℕ). drop count l) same ∙ sym (cut exchanged) ∙ rest_is

  pub one_left : (later left new : List ℕ) → drop (kept - count) later ≡ drop (kept - count) exchanged
      → left ≡ left_by outcome (trace_of older (take (kept - count) exchanged) taken_back)
      → new ≡ replaced_at at (part_of outcome (take (kept - (kept - count)) (drop (kept - count) later))) left
      → new ≡ left_by outcome (trace_of calls (take kept replaced) content)
  unfolding after
  one_left later left new same left_is new_is =
      let size : kept - (kept - count) ≡ count = omega (arith, within.0) in
      let bytes : take (kept - (kept - count)) (drop (kept - count) later) ≡ take count (drop at content) =
      ap (λ (n : ℕ). take n (drop (kept - count) later)) size ∙ ap (λ (l : List ℕ). take count l) same ∙ its in
      new_is
      ∙ ap (λ (b : List ℕ). replaced_at at (part_of outcome b) left) bytes
      ∙ ap (λ (l : List ℕ). replaced_at at (part_of outcome (take count (drop at content))) l) left_is
      ∙ ap (λ (r : List ℕ). after r taken_back) front
      ∙ ap (λ (b : List ℕ). after (take (kept - count) (take kept replaced)) b) (taken_back_is ∙ ap (λ (o : List ℕ). replaced_at at o content) (sym old_is))
      ∙ sym whole
