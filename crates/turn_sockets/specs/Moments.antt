-- The moments of turns.
use Rattle.std.specs.Prelude.{ℕ, ◌≡◌, ◌<◌, ◌≤◌, ◌-◌, ◌^◌, max}
use Rattle.turn_types.specs.Prelude.{end_of_moments}

-- The greater of a server's clock and a second that was told. One that is no moment, which is one from the year 36812 on, counts as none.
pub record IsMoment (told : ℕ → Type 0) (clock moment : ℕ) : Type 0 where
  pub second : ℕ
  pub was_told : told second
  pub in_range : second < end_of_moments → moment ≡ max clock second
  pub beyond : end_of_moments ≤ second → moment ≡ clock
