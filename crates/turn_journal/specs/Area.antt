-- Positions of an area.
use Rattle.std.specs.Prelude.{ℕ, ◌+◌, ◌<◌}
use Rattle.turn_journal.specs.Layout.{frame_room}
use Rattle.turn_journal.specs.declared.area.Area.{Area}

-- the gate at which the log ends, counted from the disk's first byte
abbrev pub end_of : Area → ℕ
end_of area = area.start + area.end

-- the position after the area, counted from the disk's first byte
abbrev pub limit_of : Area → ℕ
limit_of area = area.start + area.size

-- no frame with a payload of so many bytes fits after the last one, with the gate after it
abbrev pub IsFullFor : Area → ℕ → Type 0
IsFullFor area count = area.size < area.end + frame_room + count
