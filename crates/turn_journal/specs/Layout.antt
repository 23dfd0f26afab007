-- The numbers of the log's bytes.
use Rattle.std.specs.Prelude.{ℕ, ◌+◌}

-- the byte of an open gate; every other byte is that of a closed one
abbrev pub open_gate : ℕ
open_gate = 0xA5

-- the byte that is written for a closed gate
abbrev pub closed_gate : ℕ
closed_gate = 0x00

-- how many bytes a gate has
abbrev pub gate_size : ℕ
gate_size = 1

-- how many bytes a frame has before its payload: the gate, and the payload's length
abbrev pub frame_head : ℕ
frame_head = gate_size + 4

-- how many bytes a frame takes besides its payload: those before it, and the gate after it
abbrev pub frame_room : ℕ
frame_room = frame_head + gate_size
