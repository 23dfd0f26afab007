-- What a stop leaves of a disk that is being formatted.
use Rattle.std.proofs.Common.{length-append, ◌≡◌, inl, inr, ℕ, ◌*◌, ◌+◌, ◌<◌, ◌≤◌, List, [], ◌∷◌, ◌++◌, length, slice_index, refl, sym, ◌∙◌, ap, subst, arith, Err, Result}
use Rattle.std.proofs.lemmas.Bool.{cases_eq}
use Rattle.turn_disk.specs.Prelude.{Uses, State, Trace, ChangesOnly, EachImageSince, IsSettled, IsSettledBut, Overwrites, Syncs, ThroughOutcome, WriteOutcome, Writes, WritesThrough}
use Rattle.turn_disk.specs.declared.disk.Disk as disks
use Rattle.turn_disk.proofs.Device.{uses_as}
use Rattle.turn_disk.proofs.Since.{outcome_range, settled_but, since_join, since_through_but, since_weaken, since_within}
use Rattle.turn_journal.specs.Frames.{IsClosed}
use Rattle.turn_journal.specs.Layout.{open_gate}
use Rattle.turn_store.specs.Prelude.{Version, Form, IsForm, AreAreas, area_front, FormatsInOrder, HoldsNothing, HoldsNothingOrRepresents, IsLaid, fresh, Formats, least_area, superblock}
use Rattle.turn_store.specs.declared.formatting.FormatError.TheVariants.{Device}
use Rattle.turn_store.proofs.Formats.{closed_at, formatted, length-fresh, represents_nothing}
use Rattle.turn_store.proofs.Numbers.{stands_one}
use Rattle.turn_store.proofs.Rows.{length-area_front}
use Rattle.turn_store.proofs.Superblocks.{length-superblock}
use Rattle.turn_types.specs.declared.limits.Bounds.{Bounds}

first_byte : (area : ℕ) (b : Bounds) → slice_index (superblock area b) 0 ≡ 0x52
unfolding superblock
first_byte area b = refl

-- zeros stand where the superblock would
pub no_superblock : (image : List ℕ) → slice_index image 0 ≡ 0 → HoldsNothing image
no_superblock image is v form s ps holds =
    let there = holds.active.front 0 (omega (arith, length-superblock form.area form.bounds)) ∙ first_byte form.area form.bounds in
    absurd (omega (arith, is, there))

pub wiped_nothing : (count : ℕ) (bytes image : List ℕ) → slice_index bytes 0 ≡ 0 → ChangesOnly 64 count bytes image → HoldsNothing image
wiped_nothing count bytes image is changes = no_superblock image (changes.before 0 (omega arith) ∙ is)

closed_both : (size start other : ℕ) (image : List ℕ) → AreAreas size start other → IsClosed 64 image → IsClosed (64 + size) image → slice_index image start ≡ open_gate → ⊥
closed_both size start other image (inl places) first second opened = first (ap (λ (i : ℕ). slice_index image i) (sym places.0) ∙ opened)
closed_both size start other image (inr places) first second opened = second (ap (λ (i : ℕ). slice_index image i) (sym places.0) ∙ opened)

-- both gates are closed
pub both_closed : (size : ℕ) (image : List ℕ) → length image ≡ 64 + 2 * size → IsClosed 64 image → IsClosed (64 + size) image → HoldsNothing image
both_closed size image whole first second v form s ps holds =
    let its = holds.active.whole in
    let same : form.area ≡ size = omega (arith, its, whole) in
    closed_both size holds.start holds.other image (subst (λ (n : ℕ). AreAreas n holds.start holds.other) same holds.active.places) first second holds.active.area.is_open

-- the bytes of the first area
pub length-laid : (v : Version) → length (0 ∷ (area_front v 1 (fresh v) ++ 0 ∷ [])) ≤ 31
length-laid v = omega (arith, length-append (area_front v 1 (fresh v)) (0 ∷ []), length-area_front v 1 (fresh v), length-fresh v)

module _ (v : Version) (form : Form) (laid : State) (room : 31 < form.area) (is_laid : IsLaid v form.area laid) where
  first_closed : IsClosed 64 laid.bytes
  first_closed = closed_at 64 laid.bytes (is_laid.stands 0 (omega arith))

  -- while the superblock is written
  pub named_nothing : (count : ℕ) → count ≤ 64 → (image : List ℕ) → ChangesOnly 0 count laid.bytes image → HoldsNothing image
  named_nothing count short image changes =
      both_closed form.area image (changes.size ∙ is_laid.whole)
      (λ opened. first_closed (sym (changes.after 64 (omega arith)) ∙ opened))
      (λ opened. is_laid.closed (sym (changes.after (64 + form.area) (omega arith)) ∙ opened))

  -- while the first gate is opened
  pub opened_or_nothing : (named : State) → IsForm v form → WritesThrough 0 (superblock form.area form.bounds) laid named → (image : List ℕ) → ChangesOnly 64 1 named.bytes image → HoldsNothingOrRepresents form image
  opened_or_nothing named is_form names image changes = elim (cases_eq (slice_index image 64) open_gate) [
    | inl opened ↦
        let after : State = record { bytes = image; pending = [] } in
        let made = formatted v form laid named after is_form room is_laid names (record { content = changes; written = stands_one 64 open_gate image opened; settled = refl }) in
        inr (represents_nothing v form after made image (record { size = refl; same = λ i outside. refl }))
    | inr closed ↦
        let long = length-superblock form.area form.bounds in
        inl (both_closed form.area image (changes.size ∙ names.content.size ∙ is_laid.whole) closed
        (λ opened. is_laid.closed (sym (changes.after (64 + form.area) (omega (arith, room)) ∙ names.content.after (64 + form.area) (omega (arith, room, long))) ∙ opened)))
  ]

  -- the superblock was written, or a part of it
  pub named_since : (old named : Trace) (bytes : List ℕ) → bytes ≡ superblock form.area form.bounds → EachImageSince old named (ChangesOnly 0 (length bytes) laid.bytes) → EachImageSince old named (HoldsNothingOrRepresents form)
  named_since old named bytes is since =
      let short : length bytes ≤ 64 = omega (arith, ap length is, length-superblock form.area form.bounds) in
      since_weaken old named (ChangesOnly 0 (length bytes) laid.bytes) (HoldsNothingOrRepresents form) (λ image changes. inl (named_nothing (length bytes) short image changes)) since

  -- and then the first gate was opened, or not
  pub opened_since : (old named new : Trace) (bytes : List ℕ) → bytes ≡ superblock form.area form.bounds → IsForm v form → EachImageSince old named (ChangesOnly 0 (length bytes) laid.bytes)
      → WritesThrough 0 bytes laid named.now → EachImageSince named new (ChangesOnly 64 1 named.now.bytes) → EachImageSince old new (HoldsNothingOrRepresents form)
  opened_since old named new bytes is is_form since wrote opens =
      let names = subst (λ (l : List ℕ). WritesThrough 0 l laid named.now) is wrote in
      since_join old named new (HoldsNothingOrRepresents form) (named_since old named bytes is since)
      (since_weaken named new (ChangesOnly 64 1 named.now.bytes) (HoldsNothingOrRepresents form) (opened_or_nothing named.now is_form names) opens)

-- Since the superblock holds zeros, the areas alone were written.
pub wiped_since : (form : Form) (count : ℕ) (wiped laid : Trace) → slice_index wiped.now.bytes 0 ≡ 0 → EachImageSince wiped laid (ChangesOnly 64 count wiped.now.bytes) → EachImageSince wiped laid (HoldsNothingOrRepresents form)
wiped_since form count wiped laid zero = since_weaken wiped laid (ChangesOnly 64 count wiped.now.bytes) (HoldsNothingOrRepresents form) (λ image changes. inl (wiped_nothing count wiped.now.bytes image zero changes))

-- The second area's gate is written: a stop changes nothing before the areas.
module _ {E : Type 0} (area : ℕ) (room : 31 < area) (old mid : Trace) (settled : IsSettled old.now) (at : ℕ) (second : at ≡ 64 + area) (result : Result Unit E) (closes : WriteOutcome at (0 ∷ []) old mid result) where
  closed_second : EachImageSince old mid (ChangesOnly 64 (2 * area) old.now.bytes) × IsSettledBut 64 (2 * area) old.now.bytes mid.now
  closed_second =
      since_within 64 (2 * area) old.now.bytes old mid (settled_but 64 (2 * area) old.now settled) at 1 (omega (arith, second)) (omega (arith, second, room)) (outcome_range at (0 ∷ []) old mid result closes)

  pub second_since : EachImageSince old mid (ChangesOnly 64 (2 * area) old.now.bytes)
  second_since = closed_second.0

  -- and then the first area
  pub areas_since : (v : Version) (new : Trace) (last : Result Unit E) → ThroughOutcome 64 (0 ∷ (area_front v 1 (fresh v) ++ 0 ∷ [])) mid new last → EachImageSince old new (ChangesOnly 64 (2 * area) old.now.bytes)
  areas_since v new last lays =
      since_join old mid new (ChangesOnly 64 (2 * area) old.now.bytes) closed_second.0
      (since_through_but 64 (2 * area) old.now.bytes mid new closed_second.1 64 (0 ∷ (area_front v 1 (fresh v) ++ 0 ∷ [])) (omega arith) (omega (arith, length-laid v, room)) last lays)

-- the first sync was made
pub in_order : (form : Form) (old wiped new : Trace) {zeros : List ℕ} → length zeros ≡ 64 → (written : Trace) × Writes 0 zeros old written × Syncs written wiped → EachImageSince wiped new (HoldsNothingOrRepresents form) → FormatsInOrder form old new
in_order form old wiped new long through since = inr (inr (through.0, wiped, subst (λ (n : ℕ). Overwrites 0 n old through.0) long through.1.range, through.2, since))

-- A formatting whose areas are large enough, and in which a device call failed.
pub format_failed : {D : Type 0} {disk : disks.Ghosts D} {P : Type 0} (v : Version) (form : Form) (old new : D) → least_area v form.bounds ≤ form.area → Uses disk old new P → P
    → (disk.follows_crash_model new → FormatsInOrder form (disk.trace old) (disk.trace new)) → Formats disk v form old new (Err Device)
format_failed v form old new room uses failed order = record {
  uses = uses_as (λ _. failed) (λ _. refl) uses;
  too_small = λ needed. (λ e. cc, λ both. let small = both.0 in absurd (omega arith));
  untouched = λ small. absurd (omega arith);
  formatted = λ crash_model. tt;
  done = λ crash_model. tt;
  order = order;
}
