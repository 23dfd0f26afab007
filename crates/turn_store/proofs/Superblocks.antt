-- The superblock's bytes and fields.
use Rattle.std.proofs.Common.{◌≡◌, ◌+◌, ◌<◌, ◌^◌, ℕ, List, [], ◌∷◌, length, slice_index, refl, sym, ◌∙◌, ap, subst, arith}
use Rattle.std.specs.Int.{to_be_bytes, from_be_bytes, w16, w32, w64}
use Rattle.std.proofs.lemmas.Nat.{from_be_bytes-to_be_bytes_2, from_be_bytes-to_be_bytes_4, from_be_bytes-to_be_bytes_8}
use Rattle.turn_disk.specs.Prelude.{StandsAt}
use Rattle.turn_journal.proofs.Once.{list_once}
use Rattle.turn_store.specs.Prelude.{superblock, zeros, HasSuperblock}
use Rattle.turn_types.specs.Prelude.{AreInRange}
use Rattle.turn_types.specs.declared.limits.Bounds.{Bounds}

pub length-superblock : (area : ℕ) (b : Bounds) → length (superblock area b) ≡ 64
unfolding superblock
length-superblock area b = refl

-- the bytes as an array of them is written
abbrev pub laid_out : List ℕ → List ℕ → List ℕ → List ℕ → List ℕ → List ℕ → List ℕ
laid_out s a p h t n =
    0x52 ∷ 0x54 ∷ 0x55 ∷ 0x52 ∷ 0x4E ∷ 0x53 ∷ 0x54 ∷ 0x31
    ∷ slice_index s 0 ∷ slice_index s 1 ∷ slice_index s 2 ∷ slice_index s 3 ∷ slice_index s 4 ∷ slice_index s 5 ∷ slice_index s 6 ∷ slice_index s 7
    ∷ slice_index a 0 ∷ slice_index a 1 ∷ slice_index a 2 ∷ slice_index a 3
    ∷ slice_index p 0 ∷ slice_index p 1 ∷ slice_index h 0 ∷ slice_index h 1 ∷ slice_index t 0 ∷ slice_index t 1 ∷ slice_index n 0 ∷ slice_index n 1 ∷ zeros

laid_is : (area : ℕ) (b : Bounds) → laid_out (to_be_bytes w64 area) (to_be_bytes w32 b.allocations) (to_be_bytes w16 b.permissions) (to_be_bytes w16 b.channels) (to_be_bytes w16 b.acts) (to_be_bytes w16 b.name_bytes) ≡ superblock area b
unfolding superblock
laid_is area b = refl

pub laid : (s a p h t n : List ℕ) (area : ℕ) (b : Bounds) → s ≡ to_be_bytes w64 area → a ≡ to_be_bytes w32 b.allocations → p ≡ to_be_bytes w16 b.permissions → h ≡ to_be_bytes w16 b.channels
    → t ≡ to_be_bytes w16 b.acts → n ≡ to_be_bytes w16 b.name_bytes → laid_out s a p h t n ≡ superblock area b
laid s a p h t n area b e1 e2 e3 e4 e5 e6 =
    ap (λ (l : List ℕ). laid_out l a p h t n) e1
    ∙ ap (λ (l : List ℕ). laid_out (to_be_bytes w64 area) l p h t n) e2
    ∙ ap (λ (l : List ℕ). laid_out (to_be_bytes w64 area) (to_be_bytes w32 b.allocations) l h t n) e3
    ∙ ap (λ (l : List ℕ). laid_out (to_be_bytes w64 area) (to_be_bytes w32 b.allocations) (to_be_bytes w16 b.permissions) l t n) e4
    ∙ ap (λ (l : List ℕ). laid_out (to_be_bytes w64 area) (to_be_bytes w32 b.allocations) (to_be_bytes w16 b.permissions) (to_be_bytes w16 b.channels) l n) e5
    ∙ ap (λ (l : List ℕ). laid_out (to_be_bytes w64 area) (to_be_bytes w32 b.allocations) (to_be_bytes w16 b.permissions) (to_be_bytes w16 b.channels) (to_be_bytes w16 b.acts) l) e6
    ∙ laid_is area b

abbrev pub number_8 : List ℕ → ℕ → List ℕ
number_8 l i = slice_index l i ∷ slice_index l (i + 1) ∷ slice_index l (i + 2) ∷ slice_index l (i + 3) ∷ slice_index l (i + 4) ∷ slice_index l (i + 5) ∷ slice_index l (i + 6) ∷ slice_index l (i + 7) ∷ []

abbrev pub number_4 : List ℕ → ℕ → List ℕ
number_4 l i = slice_index l i ∷ slice_index l (i + 1) ∷ slice_index l (i + 2) ∷ slice_index l (i + 3) ∷ []

abbrev pub number_2 : List ℕ → ℕ → List ℕ
number_2 l i = slice_index l i ∷ slice_index l (i + 1) ∷ []

record Fields (area : ℕ) (b : Bounds) (l : List ℕ) : Type 0 where
  size : number_8 l 8 ≡ to_be_bytes w64 area
  allocations : number_4 l 16 ≡ to_be_bytes w32 b.allocations
  permissions : number_2 l 20 ≡ to_be_bytes w16 b.permissions
  channels : number_2 l 22 ≡ to_be_bytes w16 b.channels
  acts : number_2 l 24 ≡ to_be_bytes w16 b.acts
  name_bytes : number_2 l 26 ≡ to_be_bytes w16 b.name_bytes

own_fields : (area : ℕ) (b : Bounds) → Fields area b (superblock area b)
unfolding superblock
own_fields area b = record { size = refl; allocations = refl; permissions = refl; channels = refl; acts = refl; name_bytes = refl }

abbrev bounds_of : ℕ → ℕ → ℕ → ℕ → ℕ → Bounds
bounds_of a p h t n = record { allocations = a; permissions = p; channels = h; acts = t; name_bytes = n }

same_bounds : (b : Bounds) (a p h t n : ℕ) → a ≡ b.allocations → p ≡ b.permissions → h ≡ b.channels → t ≡ b.acts → n ≡ b.name_bytes
    → bounds_of a p h t n ≡ b
same_bounds b a p h t n e1 e2 e3 e4 e5 =
    ap (λ (x : ℕ). bounds_of x p h t n) e1 ∙ ap (λ (x : ℕ). bounds_of b.allocations x h t n) e2 ∙ ap (λ (x : ℕ). bounds_of b.allocations b.permissions x t n) e3
    ∙ ap (λ (x : ℕ). bounds_of b.allocations b.permissions b.channels x n) e4 ∙ ap (λ (x : ℕ). bounds_of b.allocations b.permissions b.channels b.acts x) e5

-- what is read of a superblock's fields is what they were written from
pub fields_are : (l : List ℕ) (area : ℕ) (b : Bounds) → area < 2 ^ 64 → AreInRange b → l ≡ superblock area b
    → (size a p h t n : ℕ) → size ≡ from_be_bytes w64 (number_8 l 8) → a ≡ from_be_bytes w32 (number_4 l 16) → p ≡ from_be_bytes w16 (number_2 l 20) → h ≡ from_be_bytes w16 (number_2 l 22)
    → t ≡ from_be_bytes w16 (number_2 l 24) → n ≡ from_be_bytes w16 (number_2 l 26)
    → (size ≡ area) × (bounds_of a p h t n ≡ b)
fields_are l area b low range is size a p h t n e0 e1 e2 e3 e4 e5 =
    let f = subst (λ (l : List ℕ). Fields area b l) (sym is) (own_fields area b) in (
      e0 ∙ ap (from_be_bytes w64) f.size ∙ from_be_bytes-to_be_bytes_8 area low,
      same_bounds b a p h t n
          (e1 ∙ ap (from_be_bytes w32) f.allocations ∙ from_be_bytes-to_be_bytes_4 b.allocations (omega (arith, range.allocations.1)))
          (e2 ∙ ap (from_be_bytes w16) f.permissions ∙ from_be_bytes-to_be_bytes_2 b.permissions (omega (arith, range.permissions.1)))
          (e3 ∙ ap (from_be_bytes w16) f.channels ∙ from_be_bytes-to_be_bytes_2 b.channels (omega (arith, range.channels.1)))
          (e4 ∙ ap (from_be_bytes w16) f.acts ∙ from_be_bytes-to_be_bytes_2 b.acts (omega (arith, range.acts.1)))
          (e5 ∙ ap (from_be_bytes w16) f.name_bytes ∙ from_be_bytes-to_be_bytes_2 b.name_bytes (omega (arith, range.name_bytes.1))),
    )

-- 64 bytes at the front of a content that has a superblock are that one
pub read_is : (content bytes : List ℕ) (area : ℕ) (b : Bounds) → length bytes ≡ 64 → StandsAt 0 bytes content → StandsAt 0 (superblock area b) content → bytes ≡ superblock area b
read_is content bytes area b long here there = list_once 0 bytes (superblock area b) content (long ∙ sym (length-superblock area b)) here there

-- a content has one superblock
pub superblock_once : (area other : ℕ) (b d : Bounds) (content : List ℕ) → HasSuperblock area b content → HasSuperblock other d content → (area ≡ other) × (b ≡ d)
superblock_once area other b d content first second =
    let same : superblock area b ≡ superblock other d = list_once 0 (superblock area b) (superblock other d) content (length-superblock area b ∙ sym (length-superblock other d)) first.stands second.stands in
    let one = fields_are (superblock area b) area b first.addressable first.in_range refl _ _ _ _ _ _ refl refl refl refl refl refl in
    let two = fields_are (superblock area b) other d second.addressable second.in_range same _ _ _ _ _ _ refl refl refl refl refl refl in
    (sym one.0 ∙ two.0, sym one.1 ∙ two.1)
