-- An area that was read, and which one is active.
use Rattle.std.proofs.Common.{◌≡◌, ◌⊎◌, inl, inr, ⊎_elim, ◌^◌, ℕ, ◌+◌, ◌*◌, ◌<◌, ◌≤◌, Bool, true, false, nat_lt, List, [], ◌∷◌, ◌++◌, length, slice_index, sym, ◌∙◌, ap, subst, arith}
use Rattle.std.proofs.lemmas.Bool.Decides.{nat_tests}
use Rattle.std.specs.Int.{to_be_bytes, w32, w64}
use Rattle.turn_disk.specs.Prelude.{StandsAt, Trace}
use Rattle.turn_journal.specs.Frames.{HoldsFrames, last_gate}
use Rattle.turn_store.specs.Prelude.{Version, V1, version_byte, area_front, AreAreas, IsBelow, IsHead, Beats, AreaIsRead, IsChosen, LogIsRead, AreaIsBad, FaultWith, IsGoodSnapshot, StoreIsBad, WhyRefused, Snapshot, HasSuperblock, least_area}
use Rattle.turn_store.specs.declared.error.OpenError.{OpenError}
use Rattle.turn_store.specs.declared.error.OpenError.TheVariants.{Device, Memory, NotAStore, LimitsDiffer, Damaged}
use Rattle.turn_store.specs.declared.heads.Head.{Head}
use Rattle.turn_store.specs.declared.heads.Placed.{Placed}
use Rattle.turn_store.proofs.Numbers.{stands_join, stands_one, number_once_8}
use Rattle.turn_types.specs.declared.limits.Bounds.{Bounds}

front_stands : (v : Version) (start generation count : ℕ) (snapshot c : List ℕ) → slice_index c (start + 1) ≡ version_byte v → StandsAt (start + 2) (to_be_bytes w64 generation) c → StandsAt (start + 10) (to_be_bytes w32 count) c → StandsAt (start + 14) snapshot c
    → length snapshot ≡ count → StandsAt (start + 1) (area_front v generation snapshot) c
unfolding area_front
front_stands v start generation count snapshot c version gen size body long =
    let p1 : start + 2 ≡ start + 1 + 1 = omega arith in
    let p2 : start + 10 ≡ start + 2 + 8 = omega arith in
    let p3 : start + 14 ≡ start + 10 + 4 = omega arith in
    let size_is = subst (λ (n : ℕ). StandsAt (start + 10) (to_be_bytes w32 n) c) (sym long) size in
    let tail = stands_join (start + 10) (to_be_bytes w32 (length snapshot)) snapshot c size_is (subst (λ (at : ℕ). StandsAt at snapshot c) p3 body) in
    let mid = stands_join (start + 2) (to_be_bytes w64 generation) (to_be_bytes w32 (length snapshot) ++ snapshot) c gen (subst (λ (at : ℕ). StandsAt at (to_be_bytes w32 (length snapshot) ++ snapshot) c) p2 tail) in
    stands_join (start + 1) (version_byte v ∷ []) (to_be_bytes w64 generation ++ (to_be_bytes w32 (length snapshot) ++ snapshot)) c (stands_one (start + 1) (version_byte v) c version)
    (subst (λ (at : ℕ). StandsAt at (to_be_bytes w64 generation ++ (to_be_bytes w32 (length snapshot) ++ snapshot)) c) p1 mid)

pub area_is_read : (v : Version) (b : Bounds) (start size : ℕ) (head : Head) (first t : Snapshot) (end frames : ℕ) (c : List ℕ) → head.generation < 2 ^ 64 → head.snapshot < 2 ^ 32 → head.version ≡ version_byte v
    → IsGoodSnapshot v b (start + 14) head.snapshot first c → LogIsRead v b (start + (14 + head.snapshot)) first (start + end) (start + size) frames t c → AreaIsRead v b start size head end frames t c
area_is_read v b start size head first t end frames c range short version good log =
    let long = good.has.long in
    let place : start + (14 + head.snapshot) ≡ start + 14 + length good.bytes = omega (arith, long) in
    record {
      snapshot = good.bytes;
      first = first;
      payloads = log.payloads;
      holds = λ is_open is_head. record {
        in_range = range;
        short = subst (λ (n : ℕ). n < 2 ^ 32) (sym long) short;
        is_open = is_head.gate.0 is_open;
        front = front_stands v start head.generation head.snapshot good.bytes c (is_head.version ∙ version) is_head.generation is_head.snapshot good.has.stands long;
        frames = subst (λ (at : ℕ). HoldsFrames at log.payloads (start + size) c) place log.holds.frames;
      };
      encodes = good.encodes;
      ends = ap (λ (at : ℕ). last_gate at log.payloads) (sym place) ∙ log.holds.ends;
      replays = log.replays;
      count = log.count;
    }

not_true : (b : Bool) → b ≡ true → b ≡ false → ⊥
not_true b one two = cc

pub chosen_is : (v : Version) (b : Bounds) (size start other : ℕ) (head rival : Head) (end frames : ℕ) (t : Snapshot) (c : List ℕ) → AreAreas size start other → AreaIsRead v b start size head end frames t c
    → Beats head rival → IsHead start head c → IsHead other rival c → IsChosen v b size start other head.generation end frames (nat_lt rival.generation head.generation) t c
chosen_is v b size start other head rival end frames t c places read beats is_head is_rival =
    let below : rival.generation < head.generation → IsBelow other head.generation c = λ less. record { lower = rival.generation; less = less; stands = is_rival.generation } in
    record {
      snapshot = read.snapshot;
      first = read.first;
      payloads = read.payloads;
      places = places;
      area = read.holds beats.is_open is_head;
      ends = read.ends;
      below = (
        (λ is. below (grind (arith, nat_tests))),
        (λ is.
            let same : is.lower ≡ rival.generation = number_once_8 (other + 2) is.lower rival.generation c (let small = is_head.in_range in let less = is.less in omega arith) is_rival.in_range is.stands is_rival.generation in
            let less : rival.generation < head.generation = omega (arith, same, is.less) in
            grind (arith, nat_tests)),
      );
      yields = ⊎_elim
          (λ (closed : rival.is_open ≡ false). inl (λ opened. not_true rival.is_open (is_rival.gate.1 opened) closed))
          (λ (less : rival.generation < head.generation). inr (below less))
          beats.yields;
      encodes = read.encodes;
      replays = read.replays;
      count = read.count;
    }

-- two areas as they were read, in either order
pub record AreRead (size : ℕ) (first second area other : Placed) (c : List ℕ) : Type 0 where
  pub first_start : first.start ≡ 64
  pub second_start : second.start ≡ 64 + size
  pub first_head : IsHead 64 first.head c
  pub second_head : IsHead (64 + size) second.head c
  pub both : ((area ≡ first) × (other ≡ second)) ⊎ ((area ≡ second) × (other ≡ first))

-- the second one after the first, and the disk was the same
pub read_both : (size : ℕ) (first second area other : Placed) (old mid : Trace) → mid ≡ old → first.start ≡ 64 → second.start ≡ 64 + size → IsHead 64 first.head old.now.bytes → IsHead (64 + size) second.head mid.now.bytes
    → ((area ≡ first) × (other ≡ second)) ⊎ ((area ≡ second) × (other ≡ first)) → AreRead size first second area other old.now.bytes
read_both size first second area other old mid same one two first_head second_head both = record {
  first_start = one;
  second_start = two;
  first_head = first_head;
  second_head = subst (λ (t : Trace). IsHead (64 + size) second.head t.now.bytes) same second_head;
  both = both;
}

module _ (size : ℕ) (first second area other : Placed) (c : List ℕ) (read : AreRead size first second area other c) where
  abbrev Found : Placed → Placed → Type 0
  Found p q = AreAreas size p.start q.start × IsHead p.start p.head c × IsHead q.start q.head c

  first_found : IsHead first.start first.head c
  first_found = subst (λ (at : ℕ). IsHead at first.head c) (sym read.first_start) read.first_head

  second_found : IsHead second.start second.head c
  second_found = subst (λ (at : ℕ). IsHead at second.head c) (sym read.second_start) read.second_head

  pub found : Found area other
  found =
      ⊎_elim
      (λ (same : (area ≡ first) × (other ≡ second)). subst (λ (q : Placed). Found area q) (sym same.1) (subst (λ (p : Placed). Found p second) (sym same.0) (inl (read.first_start, read.second_start), first_found, second_found)))
      (λ (crossed : (area ≡ second) × (other ≡ first)). subst (λ (q : Placed). Found area q) (sym crossed.1) (subst (λ (p : Placed). Found p first) (sym crossed.0) (inr (read.second_start, read.first_start), second_found, first_found)))
      read.both

  pub bad_store : (b : Bounds) → Beats area.head other.head → (place : ℕ) → AreaIsBad b area.start size area.head c place → StoreIsBad b size c place
  bad_store b beats place bad = record {
    first = first.head;
    second = second.head;
    is_first = read.first_head;
    is_second = read.second_head;
    why = inr (⊎_elim
        (λ (same : (area ≡ first) × (other ≡ second)). inl (
          subst (λ (q : Placed). Beats first.head q.head) same.1 (subst (λ (p : Placed). Beats p.head other.head) same.0 beats),
          subst (λ (at : ℕ). AreaIsBad b at size first.head c place) read.first_start (subst (λ (p : Placed). AreaIsBad b p.start size p.head c place) same.0 bad),
        ))
        (λ (crossed : (area ≡ second) × (other ≡ first)). inr (
          subst (λ (q : Placed). Beats second.head q.head) crossed.1 (subst (λ (p : Placed). Beats p.head other.head) crossed.0 beats),
          subst (λ (at : ℕ). AreaIsBad b at size second.head c place) read.second_start (subst (λ (p : Placed). AreaIsBad b p.start size p.head c place) crossed.0 bad),
        ))
        read.both);
  }

-- a store whose size is right is refused for what is wrong with its areas
pub why_of_bad : (b : Bounds) (area : ℕ) (c : List ℕ) → HasSuperblock area b c → least_area V1 b ≤ area → length c ≡ 64 + 2 * area → (fault : OpenError) → FaultWith (StoreIsBad b area c) fault → WhyRefused b c fault
why_of_bad b area c has room whole Device why = tt
why_of_bad b area c has room whole Memory why = tt
why_of_bad b area c has room whole NotAStore why = absurd why
why_of_bad b area c has room whole LimitsDiffer why = absurd why
why_of_bad b area c has room whole (Damaged place) why = (area, has, inr (room, whole, why))
