-- A snapshot that is read as far as a place: what the bytes give that follow.
use Rattle.std.proofs.Common.{◌≡◌, ◌⊎◌, ℕ, zero, suc, ◌+◌, ◌<◌, ◌≤◌, ◌==◌, ◌&&◌, List, [], ◌++◌, Bool, true, false, if◌then◌else◌, Option, Some, None, Result, Ok, Err, refl, inl, inr}
use Rattle.std.specs.Coded.{Coded, code_by, coded⊎, coded_ℕ}
use Rattle.std.specs.FinMap as fin
use Rattle.turn_history.specs.Prelude.{Contents, Bounds}
use Rattle.turn_record.specs.declared.error.DecodeError.{DecodeError}
use Rattle.turn_record.specs.declared.error.DecodeError.TheVariants.{Short, BadTag, BadValue, OutOfOrder, TrailingBytes}
use Rattle.turn_record.specs.declared.error.ReadError.{ReadError}
use Rattle.turn_record.specs.declared.error.ReadError.TheVariants as errors
use Rattle.turn_record.specs.declared.snapshot_progress.Remaining.{Remaining}
use Rattle.turn_record.specs.declared.snapshot_progress.Remaining.TheVariants.{Entries, Reserved}
use Rattle.turn_record.specs.declared.version.Version.{Version}
use Rattle.turn_record.specs.declared.version.Version.TheVariants.{V1, V2}
use Rattle.turn_record.specs.Reading.{Field, Fails, whole}
use Rattle.turn_record.specs.Snapshots.{entry_at, total_at, reservation_at, head_at, table_at, reserving_at, snapshot_in}
use Rattle.turn_table.specs.Prelude.{State}

-- what is still to come, as a number on one of two sides
abbrev pub remaining_cases : Remaining → ℕ ⊎ ℕ
remaining_cases (Entries n) = inl n
remaining_cases (Reserved n) = inr n

-- what is still to come, of such a number: the inverse of `remaining_cases`
abbrev pub remaining_of : ℕ ⊎ ℕ → Remaining
remaining_of (inl n) = Entries n
remaining_of (inr n) = Reserved n

-- the way there and back changes nothing
abbrev pub remaining_again : (r : Remaining) → remaining_of (remaining_cases r) ≡ r
remaining_again (Entries n) = refl
remaining_again (Reserved n) = refl

-- the code of what is still to come, for the model of the type that holds it
abbrev pub remaining_code : Coded Remaining
remaining_code = code_by (ℕ ⊎ ℕ) (coded⊎ coded_ℕ coded_ℕ) remaining_cases remaining_of remaining_again

-- how far a snapshot is read: a table that is being restored, and what is still to come
abbrev pub Place : Type 0
Place = State × Remaining

-- what is still to come, read after the entries and reserved ports of the table
abbrev pub remaining_at : Version → State → Remaining → List ℕ → Field (ℕ × Contents)
remaining_at v s (Entries n) bytes = table_at v s.bounds s.moment n (fin.entries s.contents.entries) bytes
remaining_at v s (Reserved n) bytes = reserving_at s.moment n (fin.entries s.contents.entries) (fin.entries s.contents.reserved) bytes

-- what is still to come, read after what the table has
abbrev pub more_at : Version → Place → List ℕ → Field (ℕ × Contents)
more_at v p bytes = remaining_at v p.0 p.1 bytes

-- what bytes give that follow those that led to a place; with none, not even the first twelve bytes were whole
unfoldable pub gives : Version → Bounds → Option Place → List ℕ → Result (ℕ × Contents) DecodeError
gives v b None bytes = snapshot_in v b bytes
gives v b (Some p) bytes = whole (more_at v p bytes)

-- What a step returned: the same is given from there on, or what was given is this refusal.
abbrev pub Steps : {X Y : Type 0} → (X → Result Y DecodeError) → Result X ReadError → Result Y DecodeError → Type 0
Steps onward (Ok x) before = before ≡ onward x
Steps onward (Err e) before = Fails e before

-- What was read from bytes to which more may be added: a value, nothing yet, or a refusal.
abbrev pub Next : {X Y : Type 0} → (X → Y) → (X → List ℕ) → Result (Option X) ReadError → (List ℕ → Field Y) → List ℕ → Type 0
Next value rest (Ok (Some x)) read bytes = (more : List ℕ) → read (bytes ++ more) ≡ Ok (value x, rest x ++ more)
Next value rest (Ok None) read bytes = read bytes ≡ Err Short
Next value rest (Err e) read bytes = (more : List ℕ) → Fails e (read (bytes ++ more))

-- the bytes ended inside a field
abbrev pub is_short : DecodeError → Bool
is_short Short = true
is_short BadTag = false
is_short BadValue = false
is_short OutOfOrder = false
is_short TrailingBytes = false

-- what was read from bytes, or nothing yet where they end inside a field
abbrev pub if_whole : {X : Type 0} → Result X ReadError → Result (Option X) ReadError
if_whole (Ok x) = Ok (Some x)
if_whole (Err errors.Memory) = Err errors.Memory
if_whole (Err (errors.Malformed f)) = if is_short f then Ok None else Err (errors.Malformed f)

-- a table has room for what is still to come, and no reserved ports before all entries are there
abbrev pub HasRoom : State → Remaining → Type 0
HasRoom s (Entries n) = (fin.len s.contents.entries + n ≤ s.bounds.allocations) × (fin.entries s.contents.reserved ≡ [])
HasRoom s (Reserved n) = fin.len s.contents.reserved + n ≤ s.bounds.allocations

-- after the last entry nothing follows
abbrev pub ends_with_entries : Version → Bool
ends_with_entries V1 = true
ends_with_entries V2 = false

-- nothing is still to come
abbrev pub is_done : Version → Remaining → Bool
is_done v (Entries n) = ends_with_entries v && (n == 0)
is_done v (Reserved n) = n == 0

-- The next item is not whole: an entry, after the last one the count of the reserved ports, or a reserved port.
abbrev pub IsCut : Version → State → Remaining → List ℕ → Type 0
IsCut v s (Entries zero) bytes = total_at s.bounds bytes ≡ Err Short
IsCut v s (Entries (suc n)) bytes = entry_at v s.bounds s.moment (fin.entries s.contents.entries) bytes ≡ Err Short
IsCut v s (Reserved n) bytes = reservation_at s.moment (fin.entries s.contents.entries) (fin.entries s.contents.reserved) bytes ≡ Err Short

-- these bytes are the front of an item, and not a whole one; or the last item was read
abbrev pub IsWaitingAt : Version → Place → List ℕ → Type 0
IsWaitingAt v p bytes = ((is_done v p.1 ≡ true) × (bytes ≡ [])) ⊎ ((is_done v p.1 ≡ false) × IsCut v p.0 p.1 bytes)

-- the bytes at hand are too few for the next item: the first twelve bytes, an entry, the number of reserved ports, or a
-- reserved port; or the last item was read
abbrev pub IsWaiting : Version → Bounds → Option Place → List ℕ → Type 0
IsWaiting v b None bytes = head_at b bytes ≡ Err Short
IsWaiting v b (Some p) bytes = IsWaitingAt v p bytes

-- at most so many items are still to come
abbrev pub most_items : Bounds → Remaining → ℕ
most_items b (Entries n) = n + 1 + b.allocations
most_items b (Reserved n) = n

-- What taking one item from the front of bytes came to: the table has it, and the rest is read on from there; or it isn't whole yet; or a refusal.
abbrev pub Takes : {X : Type 0} → Version → (X → List ℕ) → Place → Place → Result (Option X) ReadError → List ℕ → Type 0
Takes v rest p q (Ok (Some x)) bytes = (most_items q.0.bounds q.1 < most_items p.0.bounds p.1) × ((more : List ℕ) → more_at v p (bytes ++ more) ≡ more_at v q (rest x ++ more))
Takes v rest p q (Ok None) bytes = (q ≡ p) × IsCut v p.0 p.1 bytes
Takes v rest p q (Err e) bytes = (more : List ℕ) → Fails e (more_at v p (bytes ++ more))
