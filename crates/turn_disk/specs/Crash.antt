-- Which image a crash of a disk in memory leaves.
use Rattle.std.specs.Prelude.{ℕ, ◌+◌, ◌/◌, List, [], ◌∷◌, ◌++◌, length, take, drop, replicate}
use Rattle.turn_disk.specs.Disk.{Range, State, Trace}
use Rattle.turn_disk.specs.declared.outcome.CrashOutcome.{CrashOutcome}
use Rattle.turn_disk.specs.declared.outcome.CrashOutcome.TheVariants.{Lost, Kept, Half, Fill}

-- the content with these bytes from this position on
abbrev pub replaced_at : ℕ → List ℕ → List ℕ → List ℕ
replaced_at at bytes content = take at content ++ bytes ++ drop (at + length bytes) content

-- what a crash leaves of one pending write: nothing, all of it, its first half rounded down, or one byte
-- throughout
abbrev pub part_of : CrashOutcome → List ℕ → List ℕ
part_of Lost bytes = []
part_of Kept bytes = bytes
part_of Half bytes = take (length bytes / 2) bytes
part_of (Fill byte) bytes = replicate (length bytes) byte

-- The pending writes leave their parts in the order in which they were made, over the bytes of the last
-- sync. So where two of them overlap, the newer one's part covers the older one's. The state inside a
-- write has the bytes from before it.
abbrev pub left_of : CrashOutcome → List Range → List State → List ℕ → List ℕ
left_of outcome [] past bytes = bytes
left_of outcome (range ∷ ranges) [] bytes = bytes
left_of outcome (range ∷ ranges) (inside ∷ past) bytes =
    replaced_at range.at (part_of outcome (take range.count (drop range.at bytes)))
    (left_of outcome ranges past inside.bytes)

-- what a crash leaves of a disk in memory: its pending writes leave their parts over the bytes of the last sync
abbrev pub left_by : CrashOutcome → Trace → List ℕ
left_by outcome trace = left_of outcome trace.now.pending trace.past trace.now.bytes
