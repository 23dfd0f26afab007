-- The count of failures.
use Rattle.std.specs.Prelude.{◌≡◌, ◌+◌, ◌%◌, ◌^◌, ℕ, Result, MatchResult}

-- One call more has failed. The count has 64 bits and wraps, so that one more is always another number.
abbrev pub Rises : ℕ → ℕ → Type 0
Rises old new = new ≡ (old + 1) % 2 ^ 64

-- a call that fails raises the count, and no other does
abbrev pub CountOutcome : {T E : Type 0} → ℕ → ℕ → Result T E → Type 0
CountOutcome old new result = MatchResult result (λ _. new ≡ old) (λ _. Rises old new)
