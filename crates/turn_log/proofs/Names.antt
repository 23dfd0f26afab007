-- How long names are as text.
use Rattle.std.proofs.Common.{◌≤◌, ◌<◌, ◌+◌, ℕ, List, [], ◌∷◌, length, flat_map, take, get_or, arith}
use Rattle.std.proofs.lemmas.List.Folds.{length-flat_map-take}
use Rattle.turn_log.specs.Names.{shown_byte, shown_name}

-- a name is shown by the text of its bytes, or by one character
pub at_least : (name : List ℕ) → length (flat_map shown_byte name) ≤ length (shown_name name)
at_least [] = grind arith
at_least (b ∷ bs) = grind arith

-- it is no longer than that where it has more than one character
pub at_most : (most : ℕ) (name : List ℕ) → 1 ≤ most → most < length (shown_name name) → most < length (flat_map shown_byte name)
at_most most [] one more = absurd (omega arith)
at_most most (b ∷ bs) one more = more

-- a name has the text of its first bytes, and that of the next one
pub next : (name : List ℕ) (i : ℕ) → i < length name → length (flat_map shown_byte (take i name)) + length (shown_byte (get_or name i 0)) ≤ length (flat_map shown_byte name)
next name i within = length-flat_map-take shown_byte name i 0 within
