-- What a scan finds at a gate.
use Rattle.std.specs.Prelude.{◌^◌, ◌⊎◌, ◌<◌, ◌≤◌, ◌+◌, List, ℕ}
use Rattle.std.specs.Int.{to_be_bytes, w32}
use Rattle.turn_disk.specs.Prelude.{StandsAt}
use Rattle.turn_journal.specs.Frames.{IsOpen, IsClosed}
use Rattle.turn_journal.specs.Layout.{frame_room, gate_size}
use Rattle.turn_journal.specs.declared.found.Found.{Found}
use Rattle.turn_journal.specs.declared.found.Found.TheVariants.{End, Frame}

-- this length follows the gate
abbrev pub HasLength : ℕ → ℕ → List ℕ → Type 0
HasLength gate count content = (count < 2 ^ 32) × StandsAt (gate + gate_size) (to_be_bytes w32 count) content

-- a payload of this length is no longer than the longest, and its frame fits before the limit, with the gate after it
abbrev pub IsAdmitted : ℕ → ℕ → ℕ → ℕ → Type 0
IsAdmitted gate limit max_payload count = (count ≤ max_payload) × (gate + frame_room + count ≤ limit)

-- a closed gate, or an open one and the length of a frame's payload after it
abbrev pub IsFound : ℕ → ℕ → ℕ → List ℕ → Found → Type 0
IsFound gate limit max_payload content End = IsClosed gate content
IsFound gate limit max_payload content (Frame count) =
    IsOpen gate content × HasLength gate count content × IsAdmitted gate limit max_payload count

-- an open gate without room for a frame after it, or followed by a length that is over the longest payload's
-- or of a frame that doesn't fit
abbrev pub IsBadFrame : ℕ → ℕ → ℕ → List ℕ → Type 0
IsBadFrame gate limit max_payload content =
    IsOpen gate content
    × ((limit < gate + frame_room) ⊎ ((count : ℕ) × HasLength gate count content × ((max_payload < count) ⊎ (limit < gate + frame_room + count))))
