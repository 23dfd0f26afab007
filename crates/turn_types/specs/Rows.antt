-- Lists of conditions, of which the first that holds decides.
use Rattle.std.specs.Prelude.{Bool, List, [], ◌∷◌, if◌then◌else◌}

-- of pairs of a condition and an answer, the answer of the first whose condition holds
abbrev pub first_row : {A : Type 0} → List (Bool × A) → A → A
first_row [] otherwise = otherwise
first_row (row ∷ rows) otherwise = if row.0 then row.1 else first_row rows otherwise
