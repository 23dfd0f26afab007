-- The pause after a commit, in nanoseconds.
use Rattle.std.specs.Prelude.{◌≡◌, ℕ, ◌-◌, ◌*◌, ◌/◌, min, Option, Some, None}
use Rattle.std.specs.Duration.{as_nanos}
use Rattle.turn_sockets.specs.declared.pace.Pause.{Pause}

-- four times as long as the commit took, in whole milliseconds, and at most 50
abbrev pub pause_of : ℕ → ℕ
pause_of took = min (4 * took / 1_000_000) 50 * 1_000_000

-- there is a pause that begins here and is so long
abbrev pub IsPause : Option Pause → ℕ → ℕ → Type 0
IsPause None from length = ⊥
IsPause (Some pause) from length = (as_nanos pause.from ≡ from) × (as_nanos pause.length ≡ length)

-- the pause after a commit that began and ended at these times; none, where one of them isn't known
abbrev pub IsPauseOf : Option Pause → Option ℕ → Option ℕ → Type 0
IsPauseOf pause (Some began) (Some ended) = IsPause pause ended (pause_of (ended - began))
IsPauseOf pause (Some began) None = pause ≡ None
IsPauseOf pause None ended = pause ≡ None

-- what is left of a pause; all of it before it begins
abbrev pub rest_of : Option Pause → ℕ → ℕ
rest_of None now = 0
rest_of (Some pause) now = as_nanos pause.length - (now - as_nanos pause.from)
