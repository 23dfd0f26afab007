-- The first bytes of an area: its gate, its version, its generation and the length of its snapshot.
use Rattle.std.specs.Prelude.{◌^◌, ◌<◌, ◌≡◌, ◌⊎◌, ◌+◌, ◌↔◌, ℕ, List, slice_index, IsTrue, true, false}
use Rattle.std.specs.Int.{to_be_bytes, w32, w64}
use Rattle.turn_disk.specs.Prelude.{StandsAt}
use Rattle.turn_journal.specs.Frames.{IsOpen}
use Rattle.turn_store.specs.Layout.{generation_at, length_at, version_at}
use Rattle.turn_store.specs.declared.heads.Head.{Head}

-- an area begins with this gate, version, generation and length of a snapshot
pub record IsHead (at : ℕ) (head : Head) (content : List ℕ) : Type 0 where
  pub gate : IsTrue head.is_open ↔ IsOpen at content
  pub version : slice_index content (at + version_at) ≡ head.version
  pub generation : StandsAt (at + generation_at) (to_be_bytes w64 head.generation) content
  pub snapshot : StandsAt (at + length_at) (to_be_bytes w32 head.snapshot) content
  pub in_range : head.generation < 2 ^ 64
  pub short : head.snapshot < 2 ^ 32

-- the first area is open, and the second one closed or of a generation below
pub record Beats (first second : Head) : Type 0 where
  pub is_open : first.is_open ≡ true
  pub yields : (second.is_open ≡ false) ⊎ (second.generation < first.generation)

-- no open area, or two of one generation
abbrev pub NoneIsActive : Head → Head → Type 0
NoneIsActive first second =
    ((first.is_open ≡ false) × (second.is_open ≡ false))
    ⊎ ((first.is_open ≡ true) × (second.is_open ≡ true) × (first.generation ≡ second.generation))
