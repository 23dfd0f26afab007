-- How pieces of work that are done meanwhile go together.
use Rattle.turn_disk.specs.Prelude.{Passes, none, more}

-- no piece
pub passes_none : {M : Type 0} {passes : M → M → Type 0} {m : M} → Passes passes m m
passes_none = none

-- one piece
pub passes_one : {M : Type 0} {passes : M → M → Type 0} {old new : M} → passes old new → Passes passes old new
passes_one pass = more pass none

-- the pieces of one call, and then those of another
pub passes_join : {M : Type 0} {passes : M → M → Type 0} {old mid new : M} → Passes passes old mid → Passes passes mid new → Passes passes old new
passes_join none second = second
passes_join (more pass rest) second = more pass (passes_join rest second)
