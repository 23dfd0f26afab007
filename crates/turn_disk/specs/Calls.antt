-- The calls on a file with their answers, and the trace that they amount to.
use Rattle.std.proofs.Common.{◌≡◌, ◌≤◌, ◌+◌, ℕ, zero, suc, Bool, true, false, List, [], ◌∷◌, length, take, drop, ◌++◌, ◌∙◌, refl, arith, length-take, length-drop, length-append}
use Rattle.turn_disk.specs.Disk.{State, Trace, inside_write}
use Rattle.turn_disk.specs.Crash.{replaced_at}

-- which call it was (0 a read, 1 a write, 2 a sync), its position, whether it succeeded, and the bytes that it read or wrote
abbrev pub LoggedCall : Type 0
LoggedCall = ℕ × ℕ × Bool × List ℕ

-- The trace after a call: a read, a write, a sync. A write that fails leaves its range pending, and what a read returns as it was.
abbrev pub after_call : ℕ → ℕ → Bool → List ℕ → Trace → Trace
after_call zero at succeeded bytes t = t
after_call (suc zero) at true bytes t = record {
  now = record { bytes = replaced_at at bytes t.now.bytes; pending = record { at = at; count = length bytes } ∷ t.now.pending };
  past = inside_write at (length bytes) t.now ∷ t.past;
}
after_call (suc zero) at false bytes t = record { now = inside_write at (length bytes) t.now; past = inside_write at (length bytes) t.now ∷ t.past }
after_call (suc (suc more)) at succeeded bytes t = record { now = record { bytes = t.now.bytes; pending = [] }; past = t.now ∷ t.past }

-- the trace of a file that was found in this state, after these calls, of which the newest comes first
abbrev pub replay : State → List LoggedCall → Trace
replay found [] = record { now = found; past = [] }
replay found (event ∷ earlier) = after_call event.0 event.1 event.2 event.3 (replay found earlier)

-- a read returned what was written last, and a write lay on the file
abbrev pub Agrees : ℕ → ℕ → List ℕ → Trace → Type 0
Agrees zero at bytes t = bytes ≡ take (length bytes) (drop at t.now.bytes)
Agrees (suc zero) at bytes t = at + length bytes ≤ length t.now.bytes
Agrees (suc (suc more)) at bytes t = Unit {0}

-- each answer was that of a file which was found in this state and kept what was written
abbrev pub FollowCrashModel : State → List LoggedCall → Type 0
FollowCrashModel found [] = Unit {0}
FollowCrashModel found (event ∷ earlier) = Agrees event.0 event.1 event.3 (replay found earlier) × FollowCrashModel found earlier

-- the size stays
size_kept : (call at : ℕ) (succeeded : Bool) (bytes : List ℕ) (t : Trace) → Agrees call at bytes t → length (after_call call at succeeded bytes t).now.bytes ≡ length t.now.bytes
size_kept zero at succeeded bytes t agrees = refl
size_kept (suc zero) at true bytes t fits =
    let content = t.now.bytes in
    omega (arith, fits, length-append (take at content ++ bytes) (drop (at + length bytes) content), length-append (take at content) bytes, length-take at content, length-drop (at + length bytes) content)
size_kept (suc zero) at false bytes t fits = refl
size_kept (suc (suc more)) at succeeded bytes t agrees = refl

size_after : (found : State) (events : List LoggedCall) → FollowCrashModel found events → length (replay found events).now.bytes ≡ length found.bytes
size_after found [] crash_model = refl
size_after found (event ∷ earlier) crash_model = size_kept event.0 event.1 event.2 event.3 (replay found earlier) crash_model.0 ∙ size_after found earlier crash_model.1

-- a file whose answers follow the crash model keeps the size of what it held when it was opened
pub sized_by : (found : State) (events : List LoggedCall) (size : ℕ) → (length found.bytes ≡ size) × FollowCrashModel found events → length (replay found events).now.bytes ≡ size
sized_by found events size crash_model = size_after found events crash_model.1 ∙ crash_model.0
