-- What a stop may leave of a server's disk.
use Rattle.std.specs.Prelude.{◌≤◌, ℕ, List, length, take}
use Rattle.turn_history.specs.Prelude.{History}
use Rattle.turn_store.specs.Prelude.{Form, RepresentsBy}

-- the image represents the first events of a history, at least k of them, at a clock that is not later than a moment
pub record AtLeast (form : Form) (h : History) (k moment : ℕ) (image : List ℕ) : Type 0 where
  -- how many events the image represents
  pub count : ℕ
  pub no_less : k ≤ count
  pub no_more : count ≤ length h
  pub stands : RepresentsBy form (take count h) moment image
