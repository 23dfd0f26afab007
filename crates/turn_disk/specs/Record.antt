-- What a disk in memory records of its calls, and the trace that this amounts to.
use Rattle.std.specs.Prelude.{ℕ, ◌-◌, ◌+◌, ◌≤◌, List, [], ◌∷◌, length, take, drop, reverse}
use Rattle.turn_disk.specs.Disk.{Range, State, Trace}
use Rattle.turn_disk.specs.Crash.{replaced_at}
use Rattle.turn_disk.specs.declared.call.Call.{Call}
use Rattle.turn_disk.specs.declared.call.Call.TheVariants.{Wrote, Synced}

-- the ranges that were written since the last sync; calls are the newest first here, and below
abbrev pub pending_of : List Call → List Range
pending_of [] = []
pending_of (Wrote at count ∷ calls) = record { at = at; count = count } ∷ pending_of calls
pending_of (Synced ∷ calls) = []

-- the states inside these calls; the newest write's replaced bytes are the last of replaced
abbrev pub past_of : List Call → List ℕ → List ℕ → List State
past_of [] replaced content = []
past_of (Wrote at count ∷ calls) replaced content =
    let kept = length replaced - count in
    let before = replaced_at at (drop kept replaced) content in
    let inside : State = record { bytes = before; pending = record { at = at; count = count } ∷ pending_of calls } in
    inside ∷ past_of calls (take kept replaced) before
past_of (Synced ∷ calls) replaced content =
    let inside : State = record { bytes = content; pending = pending_of calls } in
    inside ∷ past_of calls replaced content

-- the trace, of calls the oldest first
abbrev pub trace_of : List Call → List ℕ → List ℕ → Trace
trace_of calls replaced content = record {
  now = record { bytes = content; pending = pending_of (reverse calls) };
  past = past_of (reverse calls) replaced content;
}

-- each write lies on a disk of this size, and so many bytes that writes replaced are kept
abbrev pub IsRecord : List Call → ℕ → ℕ → Type 0
IsRecord [] kept size = Unit {0}
IsRecord (Wrote at count ∷ calls) kept size = (count ≤ kept) × (at + count ≤ size) × IsRecord calls (kept - count) size
IsRecord (Synced ∷ calls) kept size = IsRecord calls kept size
