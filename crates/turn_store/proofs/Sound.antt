-- A store that represents a history is not refused, and what is read of it is that history's table.
use Rattle.std.proofs.Common.{◌≡◌, ◌⊎◌, inl, inr, ⊎_elim, ℕ, ◌+◌, ◌^◌, ◌<◌, Bool, List, [], ◌∷◌, ◌++◌, true, false, length, slice_index, refl, sym, ap, ◌∙◌, subst, arith}
use Rattle.std.specs.Int.{to_be_bytes, w32, w64}
use Rattle.turn_disk.specs.Prelude.{StandsAt}
use Rattle.turn_journal.specs.Frames.{HoldsFrames}
use Rattle.turn_journal.proofs.Growing.{stands_front}
use Rattle.turn_journal.proofs.Once.{frames_once, list_once}
use Rattle.turn_store.specs.Prelude.{Version, V1, V2, Form, version_byte, area_front, AreAreas, AreaHolds, Holds, HoldsIn, Yields, HasSuperblock, IsHead, Beats, NoneIsActive}
use Rattle.turn_store.specs.declared.heads.Head.{Head}
use Rattle.turn_store.proofs.Numbers.{stands_back, one_stands, number_once_4, number_once_8}
use Rattle.turn_store.proofs.Rows.{front_generation}
use Rattle.turn_store.proofs.Superblocks.{superblock_once}
use Rattle.turn_types.specs.declared.limits.Bounds.{Bounds}

-- each version has a byte of its own
pub version_once : (v w : Version) → version_byte v ≡ version_byte w → v ≡ w
version_once V1 V1 same = refl
version_once V1 V2 same = absurd (omega (arith, same))
version_once V2 V1 same = absurd (omega (arith, same))
version_once V2 V2 same = refl

front_version : (v : Version) (start generation : ℕ) (snapshot c : List ℕ) → StandsAt (start + 1) (area_front v generation snapshot) c → slice_index c (start + 1) ≡ version_byte v
unfolding area_front
front_version v start generation snapshot c stands =
    one_stands (start + 1) (version_byte v) c (stands_front (start + 1) (version_byte v ∷ []) (to_be_bytes w64 generation ++ (to_be_bytes w32 (length snapshot) ++ snapshot)) c stands)

pub front_size : (v : Version) (start generation : ℕ) (snapshot c : List ℕ) → StandsAt (start + 1) (area_front v generation snapshot) c → StandsAt (start + 10) (to_be_bytes w32 (length snapshot)) c × StandsAt (start + 14) snapshot c
unfolding area_front
front_size v start generation snapshot c stands =
    let rest = to_be_bytes w32 (length snapshot) ++ snapshot in
    let ten : start + 1 + 1 + 8 ≡ start + 10 = omega arith in
    let fourteen : start + 1 + 1 + 8 + 4 ≡ start + 14 = omega arith in
    let one = stands_back (start + 1) (version_byte v ∷ []) (to_be_bytes w64 generation ++ rest) c stands in
    let two = stands_back (start + 1 + 1) (to_be_bytes w64 generation) rest c one in (
      subst (λ (at : ℕ). StandsAt at (to_be_bytes w32 (length snapshot)) c) ten (stands_front (start + 1 + 1 + 8) (to_be_bytes w32 (length snapshot)) snapshot c two),
      subst (λ (at : ℕ). StandsAt at snapshot c) fourteen (stands_back (start + 1 + 1 + 8) (to_be_bytes w32 (length snapshot)) snapshot c two),
    )

-- ---- One reading of an image

area_once : (v w : Version) (start size g h : ℕ) (s t : List ℕ) (ps qs : List (List ℕ)) (c : List ℕ) → AreaHolds v start size g s ps c → AreaHolds w start size h t qs c → (v ≡ w) × (g ≡ h) × (s ≡ t) × (ps ≡ qs)
area_once v w start size g h s t ps qs c first second =
    let one = front_size v start g s c first.front in
    let two = front_size w start h t c second.front in
    let long : length s ≡ length t = number_once_4 (start + 10) (length s) (length t) c first.short second.short one.0 two.0 in
    let same : s ≡ t = list_once (start + 14) s t c long one.1 two.1 in
    let there = subst (λ (r : List ℕ). HoldsFrames (start + 14 + length r) qs (start + size) c) (sym same) second.frames in (
      version_once v w (sym (front_version v start g s c first.front) ∙ front_version w start h t c second.front),
      number_once_8 (start + 2) g h c first.in_range second.in_range (front_generation v start g s c first.front) (front_generation w start h t c second.front),
      same,
      frames_once (start + 14 + length s) ps qs (start + size) c first.frames there,
    )

-- an open area beside one that counts has a generation below
below_it : (v : Version) (start size g h : ℕ) (t : List ℕ) (qs : List (List ℕ)) (c : List ℕ) → g < 2 ^ 64 → AreaHolds v start size h t qs c → Yields start g c → h < g
below_it v start size g h t qs c fits holds (inl closed) = absurd (closed holds.is_open)
below_it v start size g h t qs c fits holds (inr below) =
    let same : below.lower ≡ h = number_once_8 (start + 2) below.lower h c (omega (arith, below.less)) holds.in_range below.stands (front_generation v start h t c holds.front) in
    omega (arith, below.less, same)

places_once : (size a b x y : ℕ) → AreAreas size a b → AreAreas size x y → ((a ≡ x) × (b ≡ y)) ⊎ ((a ≡ y) × (b ≡ x))
places_once size a b x y (inl p) (inl q) = inl (p.0 ∙ sym q.0, p.1 ∙ sym q.1)
places_once size a b x y (inl p) (inr q) = inr (p.0 ∙ sym q.1, p.1 ∙ sym q.0)
places_once size a b x y (inr p) (inl q) = inr (p.0 ∙ sym q.1, p.1 ∙ sym q.0)
places_once size a b x y (inr p) (inr q) = inl (p.0 ∙ sym q.0, p.1 ∙ sym q.1)

areas_once : (v w : Version) (size a b g x y h : ℕ) (s t : List ℕ) (ps qs : List (List ℕ)) (c : List ℕ) → AreAreas size a b → AreaHolds v a size g s ps c → Yields b g c
    → AreAreas size x y → AreaHolds w x size h t qs c → Yields y h c → (v ≡ w) × (s ≡ t) × (ps ≡ qs)
areas_once v w size a b g x y h s t ps qs c places first yields other_places second other_yields =
    ⊎_elim
    (λ (same : (a ≡ x) × (b ≡ y)). let one = area_once v w x size g h s t ps qs c (subst (λ (at : ℕ). AreaHolds v at size g s ps c) same.0 first) second in (one.0, one.2, one.3))
    (λ (crossed : (a ≡ y) × (b ≡ x)).
    let one = below_it w x size g h t qs c first.in_range second (subst (λ (at : ℕ). Yields at g c) crossed.1 yields) in
    let two = below_it v a size h g s ps c second.in_range first (subst (λ (at : ℕ). Yields at h c) (sym crossed.0) other_yields) in
    absurd (omega (arith, one, two)))
    (places_once size a b x y places other_places)

-- the superblock before an area that holds something
pub superblock_in : (v : Version) (form : Form) (start other generation : ℕ) (snapshot : List ℕ) (payloads : List (List ℕ)) (c : List ℕ) → HoldsIn v form start other generation snapshot payloads c
    → HasSuperblock form.area form.bounds c
superblock_in v form start other generation snapshot payloads c holds =
    let whole = holds.whole in
    let fits = holds.is_form.addressable in
    record { long = omega arith; addressable = omega arith; in_range = holds.is_form.in_range; stands = holds.front }

abbrev form_by : Bounds → ℕ → Form
form_by b n = record { bounds = b; area = n }

form_is : (b d : Bounds) (m n : ℕ) → b ≡ d → m ≡ n → form_by b m ≡ form_by d n
form_is b d m n one two = ap (λ (x : Bounds). form_by x m) one ∙ ap (λ (k : ℕ). form_by d k) two

-- an image is of one form and version, and holds one snapshot and the same payloads
pub holds_once : (v w : Version) (f g : Form) (s t : List ℕ) (ps qs : List (List ℕ)) (c : List ℕ) → Holds v f s ps c → Holds w g t qs c → (f ≡ g) × (v ≡ w) × (s ≡ t) × (ps ≡ qs)
holds_once v w f g s t ps qs c one two =
    let a = one.active in
    let b = two.active in
    let blocks = superblock_once f.area g.area f.bounds g.bounds c (superblock_in v f one.start one.other one.generation s ps c a) (superblock_in w g two.start two.other two.generation t qs c b) in
    let there = subst (λ (n : ℕ). AreAreas n two.start two.other) (sym blocks.0) b.places in
    let second = subst (λ (n : ℕ). AreaHolds w two.start n two.generation t qs c) (sym blocks.0) b.area in
    let same = areas_once v w f.area one.start one.other one.generation two.start two.other two.generation s t ps qs c a.places a.area one.yields there second two.yields in
    (form_is f.bounds g.bounds f.area g.area blocks.1 blocks.0, same.0, same.1, same.2)

-- ---- Heads

-- this head is that of the active area, and the rival that of the other one
pub record Counts (v : Version) (head rival : Head) (generation count : ℕ) : Type 0 where
  pub is_open : head.is_open ≡ true
  pub version : head.version ≡ version_byte v
  pub size : head.snapshot ≡ count
  pub number : head.generation ≡ generation
  pub yields : (rival.is_open ≡ false) ⊎ (rival.generation < generation)

closed_or_open : (b : Bool) → (b ≡ false) ⊎ (b ≡ true)
closed_or_open true = inr refl
closed_or_open false = inl refl

pub not_both : (b : Bool) → b ≡ true → b ≡ false → ⊥
not_both b one two = cc

rival_yields : (other generation : ℕ) (rival : Head) (c : List ℕ) → generation < 2 ^ 64 → IsHead other rival c → Yields other generation c → (rival.is_open ≡ false) ⊎ (rival.generation < generation)
rival_yields other generation rival c fits is (inl closed) = ⊎_elim (λ (no : rival.is_open ≡ false). inl no) (λ (yes : rival.is_open ≡ true). absurd (closed (is.gate.0 yes))) (closed_or_open rival.is_open)
rival_yields other generation rival c fits is (inr below) =
    let same : rival.generation ≡ below.lower = number_once_8 (other + 2) rival.generation below.lower c is.in_range (omega (arith, below.less, fits)) is.generation below.stands in
    inr (omega (arith, same, below.less))

pub counts_is : (v : Version) (start other size generation : ℕ) (snapshot : List ℕ) (payloads : List (List ℕ)) (head rival : Head) (c : List ℕ)
    → AreaHolds v start size generation snapshot payloads c → Yields other generation c → IsHead start head c → IsHead other rival c → Counts v head rival generation (length snapshot)
counts_is v start other size generation snapshot payloads head rival c holds yields is rival_is = record {
  is_open = is.gate.1 holds.is_open;
  version = sym is.version ∙ front_version v start generation snapshot c holds.front;
  size = number_once_4 (start + 10) head.snapshot (length snapshot) c is.short holds.short is.snapshot (front_size v start generation snapshot c holds.front).0;
  number = number_once_8 (start + 2) head.generation generation c is.in_range holds.in_range is.generation (front_generation v start generation snapshot c holds.front);
  yields = rival_yields other generation rival c holds.in_range rival_is yields;
}

pub none_no : (v : Version) (head rival : Head) (generation count : ℕ) → Counts v head rival generation count → NoneIsActive head rival → ⊥
none_no v head rival generation count counts (inl closed) = not_both head.is_open counts.is_open closed.0
none_no v head rival generation count counts (inr both) =
    ⊎_elim (λ (no : rival.is_open ≡ false). not_both rival.is_open both.1 no) (λ (less : rival.generation < generation). absurd (omega (arith, less, counts.number, both.2))) counts.yields

pub none_turned : (head rival : Head) → NoneIsActive rival head → NoneIsActive head rival
none_turned head rival (inl closed) = inl (closed.1, closed.0)
none_turned head rival (inr both) = inr (both.1, both.0, sym both.2)

pub beats_no : (v : Version) (head rival : Head) (generation count : ℕ) → Counts v head rival generation count → Beats rival head → ⊥
beats_no v head rival generation count counts beats =
    ⊎_elim (λ (closed : head.is_open ≡ false). not_both head.is_open counts.is_open closed)
    (λ (less : head.generation < rival.generation).
    ⊎_elim (λ (no : rival.is_open ≡ false). not_both rival.is_open beats.is_open no) (λ (lower : rival.generation < generation). absurd (omega (arith, less, lower, counts.number))) counts.yields)
    beats.yields
