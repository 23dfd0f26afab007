-- When something of a machine is odd.
use Rattle.std.specs.Prelude.{ℕ, ◌+◌, ◌*◌, ◌≤◌, max, min}

-- two ranges of ports, each by its first and its last one, have a port in common
abbrev pub have_common : ℕ × ℕ → ℕ × ℕ → Type 0
have_common one other = max one.0 other.0 ≤ min one.1 other.1

-- how many descriptors a server may need: one for each allocation, one for a port that is reserved with each, and 64 others
abbrev pub needed_of : ℕ → ℕ
needed_of allocations = 2 * allocations + 64
