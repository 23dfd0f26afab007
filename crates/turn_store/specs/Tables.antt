-- The table of a store.
use Rattle.std.specs.Prelude.{◌≡◌, ℕ, List}
use Rattle.turn_record.specs.Prelude.{Holds, snapshot}
use Rattle.turn_record.specs.declared.version.Version.{Version}
use Rattle.turn_store.specs.Replay.{Snapshot}
use Rattle.turn_table.specs.Prelude.{State}
use Rattle.turn_types.specs.declared.limits.Bounds.{Bounds}

-- the moment of a table, and what it holds
abbrev pub snapshot_of : State → Snapshot
snapshot_of s = record { moment = s.moment; contents = s.contents }

-- the bytes of a table's snapshot in a version
abbrev pub encoded : Version → State → List ℕ
encoded v s = snapshot v s.moment s.contents

-- a table of these limits that a version can hold
abbrev pub IsTableIn : Version → Bounds → State → Type 0
IsTableIn v b s = (s.bounds ≡ b) × Holds v s.contents
