-- The numbers of a store's bytes; those of a log are of `turn_journal`.
use Rattle.std.specs.Prelude.{ℕ, ◌+◌, ◌*◌}
use Rattle.turn_journal.specs.Layout.{gate_size}

-- how many bytes the superblock has, after which the first area begins
abbrev pub superblock_size : ℕ
superblock_size = 64

-- where the superblock has the size of an area
abbrev pub area_size_at : ℕ
area_size_at = 8

-- where the first area begins
abbrev pub first_area : ℕ
first_area = superblock_size

-- where the second area begins, if an area has so many bytes
abbrev pub second_area : ℕ → ℕ
second_area area = superblock_size + area

-- how many bytes a store has, if an area has so many
abbrev pub store_size : ℕ → ℕ
store_size area = superblock_size + 2 * area

-- where an area has its version, counted from its gate as the other places in it
abbrev pub version_at : ℕ
version_at = gate_size

-- where an area has its generation
abbrev pub generation_at : ℕ
generation_at = version_at + 1

-- where an area has the length of its snapshot
abbrev pub length_at : ℕ
length_at = generation_at + 8

-- how many bytes an area has before its snapshot: its gate, version and generation, and the snapshot's length
abbrev pub head_size : ℕ
head_size = length_at + 4

-- how many bytes the first area of a formatted store has at most, up to the gate at which its log ends
abbrev pub fresh_size : ℕ
fresh_size = head_size + 16 + gate_size
