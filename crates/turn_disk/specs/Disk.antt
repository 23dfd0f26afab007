-- A disk of fixed size: what a read returns, what a stop may leave of it, and when a stop may fall.
use Rattle.std.specs.Prelude.{◌≡◌, ◌⊎◌, ◌∷◌, ◌++◌, ◌<◌, ◌≤◌, ◌+◌, [], List, ℕ, Result, MatchResult, length, slice_index}

-- a range of a disk: so many positions, from here on
pub record Range : Type 0 where
  -- counted from the disk's first byte
  pub at : ℕ
  pub count : ℕ

-- What a read returns, and what was written since the last sync, the newest write first. A range that was
-- written is pending.
pub record State : Type 0 where
  -- what a read returns
  pub bytes : List ℕ
  -- what was written since the last sync, the newest write first
  pub pending : List Range

-- the state now, and the state inside each device call so far in which a stop may have fallen, the newest
-- first
pub record Trace : Type 0 where
  pub now : State
  pub past : List State

-- a position that lies in none of these ranges
abbrev pub IsOutside : List Range → ℕ → Type 0
IsOutside [] i = Unit {0}
IsOutside (range ∷ ranges) i = ((i < range.at) ⊎ (range.at + range.count ≤ i)) × IsOutside ranges i

-- An image of a disk in this state is any content that a stop may leave of it: as long as the disk, and the
-- same wherever nothing is pending.
pub record IsImage (state : State) (image : List ℕ) : Type 0 where
  pub size : length image ≡ length state.bytes
  pub same : (i : ℕ) → IsOutside state.pending i → slice_index image i ≡ slice_index state.bytes i

-- the content has these bytes from this position on
abbrev pub StandsAt : ℕ → List ℕ → List ℕ → Type 0
StandsAt at bytes content = (i : ℕ) → i < length bytes → slice_index content (at + i) ≡ slice_index bytes i

-- nothing outside this range has changed, nor has the size
pub record ChangesOnly (at count : ℕ) (old new : List ℕ) : Type 0 where
  pub size : length new ≡ length old
  pub before : (i : ℕ) → i < at → slice_index new i ≡ slice_index old i
  pub after : (i : ℕ) → at + count ≤ i → slice_index new i ≡ slice_index old i

-- inside a write its range is pending, so that any bytes may stand there
abbrev pub inside_write : ℕ → ℕ → State → State
inside_write at count state =
    record { bytes = state.bytes; pending = record { at = at; count = count } ∷ state.pending }

-- A range was overwritten, with any bytes, and is pending. A stop may have fallen inside the write.
pub record Overwrites (at count : ℕ) (old new : Trace) : Type 0 where
  pub content : ChangesOnly at count old.now.bytes new.now.bytes
  pub pending : new.now.pending ≡ record { at = at; count = count } ∷ old.now.pending
  pub past : new.past ≡ inside_write at count old.now ∷ old.past

-- these bytes were written, and are pending
pub record Writes (at : ℕ) (bytes : List ℕ) (old new : Trace) : Type 0 where
  pub range : Overwrites at (length bytes) old new
  pub written : StandsAt at bytes new.now.bytes

-- A write that fails leaves any bytes in its range, pending; or it was refused before it reached the disk,
-- and changed nothing at any moment.
abbrev pub WriteOutcome : {E : Type 0} → ℕ → List ℕ → Trace → Trace → Result Unit E → Type 0
WriteOutcome at bytes old new result =
    MatchResult result (λ _. Writes at bytes old new) (λ _. Overwrites at (length bytes) old new ⊎ (new ≡ old))

-- Nothing is pending any longer. Inside the sync everything still was.
pub record Syncs (old new : Trace) : Type 0 where
  pub content : new.now.bytes ≡ old.now.bytes
  pub pending : new.now.pending ≡ []
  pub past : new.past ≡ old.now ∷ old.past

-- A sync that fails changes nothing: what may be left inside it might be left before it.
abbrev pub SyncOutcome : {E : Type 0} → Trace → Trace → Result Unit E → Type 0
SyncOutcome old new result = MatchResult result (λ _. Syncs old new) (λ _. new ≡ old)

-- each image of each of these states has P
abbrev pub EachImageOf : List State → (List ℕ → Type 0) → Type 0
EachImageOf [] P = Unit {0}
EachImageOf (state ∷ states) P = ((image : List ℕ) → IsImage state image → P image) × EachImageOf states P

-- A stop at any moment since old leaves an image that has P: before the first device call, inside one,
-- between two, or after the last.
pub record EachImageSince (old new : Trace) (P : List ℕ → Type 0) : Type 0 where
  -- the states inside the device calls since old
  pub added : List State
  pub past : new.past ≡ added ++ old.past
  pub before : (image : List ℕ) → IsImage old.now image → P image
  pub inside : EachImageOf added P
  pub after : (image : List ℕ) → IsImage new.now image → P image

-- nothing is pending, so that the content is the only image
abbrev pub IsSettled : State → Type 0
IsSettled state = state.pending ≡ []

-- these bytes were written there and nothing else, and nothing is pending
pub record WritesThrough (at : ℕ) (bytes : List ℕ) (old new : State) : Type 0 where
  pub content : ChangesOnly at (length bytes) old.bytes new.bytes
  pub written : StandsAt at bytes new.bytes
  pub settled : IsSettled new

-- At most one write of this range, and at most one sync, after it: no other device call changed the disk.
abbrev pub WritesOnce : ℕ → ℕ → Trace → Trace → Type 0
WritesOnce at count old new =
    (new ≡ old) ⊎ Overwrites at count old new ⊎ ((mid : Trace) × Overwrites at count old mid × Syncs mid new)

-- These bytes were written, and then synced. Where one of the two calls fails, nothing was synced. No other device call changed
-- the disk.
abbrev pub ThroughOutcome : {E : Type 0} → ℕ → List ℕ → Trace → Trace → Result Unit E → Type 0
ThroughOutcome at bytes old new result =
    MatchResult result (λ _. (mid : Trace) × Writes at bytes old mid × Syncs mid new)
    (λ _. Overwrites at (length bytes) old new ⊎ (new ≡ old))

-- each of these ranges lies within this one
abbrev pub AllWithin : ℕ → ℕ → List Range → Type 0
AllWithin from count [] = Unit {0}
AllWithin from count (range ∷ ranges) =
    (from ≤ range.at) × (range.at + range.count ≤ from + count) × AllWithin from count ranges

-- outside this range the content is that of base, and nothing is pending
pub record IsSettledBut (from count : ℕ) (base : List ℕ) (state : State) : Type 0 where
  pub content : ChangesOnly from count base state.bytes
  pub pending : AllWithin from count state.pending
