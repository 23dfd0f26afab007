-- What represents a history is not refused, and its table is read.
use Rattle.std.proofs.Common.{◌≡◌, ◌≢◌, ◌⊎◌, inl, inr, ⊎_elim, ℕ, ◌*◌, ◌+◌, ◌<◌, ◌≤◌, ◌++◌, List, length, map, max, sym, ◌∙◌, ap, subst, arith, Result, IfErr}
use Rattle.std.proofs.lemmas.Result.{IfErr-weaker}
use Rattle.turn_history.specs.Prelude.{History, clock, table, Bounds}
use Rattle.turn_journal.specs.Frames.{HoldsFrames}
use Rattle.turn_journal.proofs.Once.{list_once}
use Rattle.turn_record.specs.Prelude.{payload, EncodesSnapshot}
use Rattle.turn_store.specs.Prelude.{Version, V1, Form, AreAreas, AreaHolds, Yields, Beats, NoneIsActive, RepresentsAt, IsPlain, IsBadLog, IsBadSnapshot, AreaIsBad, StoreIsBad, WhyRefused, Snapshot, Replays, Encodes, all_of, HasSuperblock, least_area}
use Rattle.turn_store.specs.declared.error.OpenError.{OpenError}
use Rattle.turn_store.specs.declared.error.OpenError.TheVariants.{Device, Memory, NotAStore, LimitsDiffer, Damaged}
use Rattle.turn_store.specs.declared.heads.Head.{Head}
use Rattle.turn_store.proofs.Replayed.{at, same_at, batches_replay, no_break}
use Rattle.turn_store.proofs.Fronts.{front_is, front_short, encoded_once}
use Rattle.turn_store.proofs.Sound.{version_once, Counts, counts_is, front_size, none_no, none_turned, beats_no, superblock_in}
use Rattle.turn_store.proofs.Sizes.{smallest}
use Rattle.turn_store.proofs.Encoding.{of_encoded, are_batches}
use Rattle.turn_store.proofs.Superblocks.{superblock_once}
use Rattle.turn_types.specs.Prelude.{AreInRange}

module _ (v : Version) (b : Bounds) (range : AreInRange b) (h : History) (clock_is : ℕ) (snapshot : List ℕ) (payloads : List (List ℕ)) (s : Encodes v b h clock_is snapshot payloads) where
  -- what the payloads of a history make of the table of its snapshot
  pub replayed : (first t : Snapshot) → EncodesSnapshot v b first.moment first.contents snapshot → Replays v b first payloads t → t ≡ at h clock_is
  replayed first t encodes replays =
      let parts = of_encoded v b h clock_is snapshot payloads s in
      let start : first ≡ at s.before s.moment = encoded_once v b range first (at s.before s.moment) snapshot encodes (front_is v b h clock_is snapshot payloads s) in
      let there = subst (λ (ps : List (List ℕ)). Replays v b (at s.before s.moment) ps t) s.are_payloads (subst (λ (x : Snapshot). Replays v b x payloads t) start replays) in
      batches_replay v b range s.before s.moment s.batches t parts.1 s.from s.late (are_batches v b s.before s.batches parts.1 s.sizes) there
      ∙ same_at (s.before ++ all_of s.batches) h (max s.moment (clock (all_of s.batches))) clock_is (sym s.whole) (sym s.clock_is)

  -- what follows a head of this version isn't bad
  after_no : (start size generation : ℕ) (head rival : Head) (c : List ℕ) (place : ℕ) → AreaHolds v start size generation snapshot payloads c → Counts v head rival generation (length snapshot)
      → ((place ≡ start + 14) × IsBadSnapshot v b (start + 14) head.snapshot c) ⊎ IsBadLog v b start size head c place → ⊥
  after_no start size generation head rival c place holds counts (inl (there, bad)) =
      let same : bad.bytes ≡ snapshot = list_once (start + 14) bad.bytes snapshot c (bad.has.long ∙ counts.size) bad.has.stands (front_size v start generation snapshot c holds.front).1 in
      bad.none s.moment (table s.before s.moment) (subst (EncodesSnapshot v b s.moment (table s.before s.moment)) (sym same) (front_is v b h clock_is snapshot payloads s))
  after_no start size generation head rival c place holds counts (inr (first, good, breaks)) =
      let same : good.bytes ≡ snapshot = list_once (start + 14) good.bytes snapshot c (good.has.long ∙ counts.size) good.has.stands (front_size v start generation snapshot c holds.front).1 in
      let parts = of_encoded v b h clock_is snapshot payloads s in
      let begin : first ≡ at s.before s.moment = encoded_once v b range first (at s.before s.moment) snapshot (subst (EncodesSnapshot v b first.moment first.contents) same good.encodes) (front_is v b h clock_is snapshot payloads s) in
      let frames : HoldsFrames (start + 14 + head.snapshot) (map payload s.batches) (start + size) c =
      subst (λ (n : ℕ). HoldsFrames (start + 14 + n) (map payload s.batches) (start + size) c) (sym counts.size) (subst (λ (ps : List (List ℕ)). HoldsFrames (start + 14 + length snapshot) ps (start + size) c) s.are_payloads holds.frames) in
      let before = breaks.before in
      no_break v b range s.before s.moment s.batches (start + 14 + head.snapshot) (start + size) c before.payloads place breaks.reached parts.1 s.from s.late (are_batches v b s.before s.batches parts.1 s.sizes) frames
      before.frames before.ends (subst (λ (x : Snapshot). Replays v b x before.payloads breaks.reached) begin before.replays) breaks.bad

  -- an area that holds them isn't bad
  area_no : (start size generation : ℕ) (head rival : Head) (c : List ℕ) (place : ℕ) → least_area v b ≤ size → AreaHolds v start size generation snapshot payloads c → Counts v head rival generation (length snapshot)
      → AreaIsBad b start size head c place → ⊥
  area_no start size generation head rival c place room holds counts (inl (there, none)) =
      let short = front_short v b h clock_is snapshot payloads s in
      none v (record { version = counts.version; room = room; short = omega (arith, counts.size, short) })
  area_no start size generation head rival c place room holds counts (inr (w, is, bad)) =
      let same : w ≡ v = version_once w v (sym is.version ∙ counts.version) in
      after_no start size generation head rival c place holds counts
      (subst (λ (x : Version). ((place ≡ start + 14) × IsBadSnapshot x b (start + 14) head.snapshot c) ⊎ IsBadLog x b start size head c place) same bad)

  -- nor a store
  pub store_no : (size start other generation : ℕ) (c : List ℕ) (place : ℕ) → AreAreas size start other → least_area v b ≤ size → AreaHolds v start size generation snapshot payloads c → Yields other generation c → StoreIsBad b size c place → ⊥
  store_no size start other generation c place (inl places) room holds yields bad =
      let holds_64 = subst (λ (n : ℕ). AreaHolds v n size generation snapshot payloads c) places.0 holds in
      let counts = counts_is v 64 (64 + size) size generation snapshot payloads bad.first bad.second c holds_64 (subst (λ (n : ℕ). Yields n generation c) places.1 yields) bad.is_first bad.is_second in
      ⊎_elim (λ (none : (place ≡ 64) × NoneIsActive bad.first bad.second). none_no v bad.first bad.second generation (length snapshot) counts none.1)
      (λ (one : (Beats bad.first bad.second × AreaIsBad b 64 size bad.first c place) ⊎ (Beats bad.second bad.first × AreaIsBad b (64 + size) size bad.second c place)).
      ⊎_elim (λ (first : Beats bad.first bad.second × AreaIsBad b 64 size bad.first c place). area_no 64 size generation bad.first bad.second c place room holds_64 counts first.1)
      (λ (second : Beats bad.second bad.first × AreaIsBad b (64 + size) size bad.second c place). beats_no v bad.first bad.second generation (length snapshot) counts second.0) one)
      bad.why
  store_no size start other generation c place (inr places) room holds yields bad =
      let holds_far = subst (λ (n : ℕ). AreaHolds v n size generation snapshot payloads c) places.0 holds in
      let counts = counts_is v (64 + size) 64 size generation snapshot payloads bad.second bad.first c holds_far (subst (λ (n : ℕ). Yields n generation c) places.1 yields) bad.is_second bad.is_first in
      ⊎_elim (λ (none : (place ≡ 64) × NoneIsActive bad.first bad.second). none_no v bad.second bad.first generation (length snapshot) counts (none_turned bad.second bad.first none.1))
      (λ (one : (Beats bad.first bad.second × AreaIsBad b 64 size bad.first c place) ⊎ (Beats bad.second bad.first × AreaIsBad b (64 + size) size bad.second c place)).
      ⊎_elim (λ (first : Beats bad.first bad.second × AreaIsBad b 64 size bad.first c place). beats_no v bad.second bad.first generation (length snapshot) counts first.0)
      (λ (second : Beats bad.second bad.first × AreaIsBad b (64 + size) size bad.second c place). area_no (64 + size) size generation bad.second bad.first c place room holds_far counts second.1) one)
      bad.why

module _ (form : Form) (h : History) (clock_is : ℕ) (c : List ℕ) (stands : RepresentsAt form h clock_is c) where
  pub has_superblock : HasSuperblock form.area form.bounds c
  has_superblock = superblock_in stands.version form stands.holds.start stands.holds.other stands.holds.generation stands.snapshot stands.payloads c stands.holds.active

  -- it is refused for want of the device or of memory alone
  pub why_plain : (fault : OpenError) → WhyRefused form.bounds c fault → IsPlain fault
  why_plain Device why = tt
  why_plain Memory why = tt
  why_plain NotAStore why = absurd (why form.area form.bounds has_superblock)
  why_plain LimitsDiffer why = absurd (why.3 (superblock_once why.0 form.area why.1 form.bounds c why.2 has_superblock).1)
  why_plain (Damaged place) why =
      let holds = stands.holds in
      let same : why.0 ≡ form.area = (superblock_once why.0 form.area form.bounds form.bounds c why.1 has_superblock).0 in
      ⊎_elim
      (λ (size : (place ≡ 8) × ((why.0 < least_area V1 form.bounds) ⊎ (length c ≢ 64 + 2 * why.0))).
      ⊎_elim (λ (low : why.0 < least_area V1 form.bounds). absurd (omega (arith, low, same, holds.active.is_form.room, smallest stands.version form.bounds))) (λ (wrong : length c ≢ 64 + 2 * why.0). absurd (wrong (holds.active.whole ∙ ap (λ (n : ℕ). 64 + 2 * n) (sym same)))) size.1)
      (λ (bad : (least_area V1 form.bounds ≤ why.0) × (length c ≡ 64 + 2 * why.0) × StoreIsBad form.bounds why.0 c place).
      store_no stands.version form.bounds holds.active.is_form.in_range h clock_is stands.snapshot stands.payloads stands.encodes form.area holds.start holds.other holds.generation c place holds.active.places holds.active.is_form.room holds.active.area holds.yields
      (subst (λ (n : ℕ). StoreIsBad form.bounds n c place) same bad.2))
      why.2

-- so is every call whose refusals have their reasons
pub plain_of : {T : Type 0} (result : Result T OpenError) (form : Form) (h : History) (clock : ℕ) (c : List ℕ) (b : Bounds) → form.bounds ≡ b → RepresentsAt form h clock c → IfErr result (WhyRefused b c) → IfErr result IsPlain
plain_of result form h clock c b same stands =
    IfErr-weaker result (WhyRefused b c) IsPlain (λ fault why. why_plain form h clock c stands fault (subst (λ (b : Bounds). WhyRefused b c fault) (sym same) why))
