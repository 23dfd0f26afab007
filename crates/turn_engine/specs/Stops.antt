-- What a stop leaves of a call.
use Rattle.std.specs.Prelude.{◌≡◌, ◌⊎◌, ◌++◌, List, [], ◌∷◌, ℕ}
use Rattle.turn_disk.specs.Prelude.{State, Trace, IsImage}

-- an image of one of these states
abbrev pub IsImageOfOne : List State → List ℕ → Type 0
IsImageOfOne [] image = ⊥
IsImageOfOne (state ∷ states) image = IsImage state image ⊎ IsImageOfOne states image

-- The image is one that a stop at some moment of a call may leave: before the first device call, inside one, between two, or
-- after the last.
pub record IsLeft (old new : Trace) (image : List ℕ) : Type 0 where
  pub added : List State
  pub past : new.past ≡ added ++ old.past
  pub place : IsImage old.now image ⊎ (IsImageOfOne added image ⊎ IsImage new.now image)
