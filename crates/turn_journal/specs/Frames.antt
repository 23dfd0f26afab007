-- An area that holds frames.
use Rattle.std.specs.Prelude.{◌≡◌, ◌≢◌, ◌⊎◌, ◌∷◌, ◌++◌, ◌<◌, ◌+◌, ◌^◌, [], List, ℕ, length, slice_index}
use Rattle.std.specs.Int.{to_be_bytes, w32}
use Rattle.turn_disk.specs.Prelude.{ChangesOnly, EachImageSince, IsSettled, StandsAt, Trace, WritesOnce}
use Rattle.turn_journal.specs.Layout.{frame_head, frame_room, gate_size, open_gate}

-- there is an open gate at this position
abbrev pub IsOpen : ℕ → List ℕ → Type 0
IsOpen gate content = slice_index content gate ≡ open_gate

-- there is a closed gate at this position: any byte but the open one
abbrev pub IsClosed : ℕ → List ℕ → Type 0
IsClosed gate content = slice_index content gate ≢ open_gate

-- what follows a frame's gate: the payload's length in 4 bytes, the highest first, and the payload
unfoldable pub framed : List ℕ → List ℕ
framed payload = to_be_bytes w32 (length payload) ++ payload

-- A frame with this payload is at this gate, which is open.
pub record IsFrame (gate : ℕ) (payload content : List ℕ) : Type 0 where
  pub is_open : IsOpen gate content
  pub short : length payload < 2 ^ 32
  pub stands : StandsAt (gate + gate_size) (framed payload) content

-- the gate after a frame with this payload
abbrev pub gate_after : ℕ → List ℕ → ℕ
gate_after gate payload = gate + frame_head + length payload

-- From this gate on there are frames with these payloads, each at the gate after the one before, and then a
-- closed gate before the limit. Whatever follows that one doesn't count.
abbrev pub HoldsFrames : ℕ → List (List ℕ) → ℕ → List ℕ → Type 0
HoldsFrames gate [] limit content = (gate < limit) × IsClosed gate content
HoldsFrames gate (payload ∷ payloads) limit content =
    IsFrame gate payload content × HoldsFrames (gate_after gate payload) payloads limit content

-- the gate after frames with these payloads
abbrev pub last_gate : ℕ → List (List ℕ) → ℕ
last_gate gate [] = gate
last_gate gate (payload ∷ payloads) = last_gate (gate_after gate payload) payloads

-- the frames, and the position of the closed gate after them
pub record HoldsFramesTo (from : ℕ) (payloads : List (List ℕ)) (gate limit : ℕ) (content : List ℕ) : Type 0 where
  pub frames : HoldsFrames from payloads limit content
  pub ends : last_gate from payloads ≡ gate

-- A frame with this payload waits after this gate: it counts once the gate is open. The gate after the frame
-- is closed, and before the limit.
pub record IsWaiting (gate : ℕ) (payload : List ℕ) (limit : ℕ) (content : List ℕ) : Type 0 where
  pub short : length payload < 2 ^ 32
  pub stands : StandsAt (gate + gate_size) (framed payload) content
  pub fits : gate_after gate payload < limit
  pub closed : IsClosed (gate_after gate payload) content

-- the frames from before, and nothing has changed but so many bytes after the gate
pub record HoldsWithout (from : ℕ) (payloads : List (List ℕ)) (gate count limit : ℕ) (old image : List ℕ) : Type 0 where
  pub others : ChangesOnly (gate + gate_size) count old image
  pub frames : HoldsFrames from payloads limit image

-- the frames from before, with the new one or without it, and nothing has changed but so many bytes from the
-- gate on
pub record HoldsWithOrWithout
    (from : ℕ) (payloads : List (List ℕ)) (payload : List ℕ) (gate count limit : ℕ) (old image : List ℕ) : Type 0 where
  pub others : ChangesOnly gate count old image
  pub frames : HoldsFrames from payloads limit image ⊎ HoldsFrames from (payloads ++ payload ∷ []) limit image

-- the frames from before with the new one, up to the gate after it, and nothing has changed but so many
-- bytes from the gate on
pub record HoldsWith
    (from : ℕ) (payloads : List (List ℕ)) (payload : List ℕ) (gate count limit : ℕ) (old new : List ℕ) : Type 0 where
  pub others : ChangesOnly gate count old new
  pub frames : HoldsFramesTo from (payloads ++ payload ∷ []) (gate_after gate payload) limit new

-- How a frame is added. Up to some moment a stop leaves the frames from before alone. There the call ended, or nothing is pending
-- and the frame waits after its closed gate. From then on a stop leaves the frames with the new one or without, and the gate alone
-- is written, at most once.
pub record AddsFrame (from : ℕ) (payloads : List (List ℕ)) (payload : List ℕ) (gate limit : ℕ) (old new : Trace) : Type 0 where
  -- the moment between the two stages
  pub mid : Trace
  pub first : EachImageSince old mid (HoldsWithout from payloads gate (frame_head + length payload) limit old.now.bytes)
  pub there : (new ≡ mid) ⊎ (IsSettled mid.now × IsWaiting gate payload limit mid.now.bytes)
  pub second : EachImageSince mid new (HoldsWithOrWithout from payloads payload gate (frame_room + length payload) limit old.now.bytes)
  pub once : WritesOnce gate gate_size mid new
