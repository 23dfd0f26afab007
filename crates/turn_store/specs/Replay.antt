-- What the events of a log make of a table.
use Rattle.std.specs.Prelude.{◌≡◌, ◌≤◌, ℕ, List, [], ◌∷◌}
use Rattle.turn_history.specs.Prelude.{Fits, Event, Contents, applied, purged, Bounds}
use Rattle.turn_journal.specs.Frames.{IsFrame, gate_after, last_gate}
use Rattle.turn_record.specs.Prelude.{EncodesPayload}
use Rattle.turn_record.specs.declared.version.Version.{Version}

-- a table at a moment
pub record Snapshot : Type 0 where
  pub moment : ℕ
  pub contents : Contents

-- an event isn't before the moment, and its act fits what hasn't expired by then
pub record IsNext (b : Bounds) (s : Snapshot) (e : Event) : Type 0 where
  pub later : s.moment ≤ e.moment
  pub fits : Fits b (purged e.moment s.contents) e.tuple e.act

-- the table after an event, at the event's moment, without what has expired by then
abbrev pub after : Snapshot → Event → Snapshot
after s e = record { moment = e.moment; contents = applied e.moment e.tuple e.act (purged e.moment s.contents) }

-- events, each the next after those before it
abbrev pub GoOn : Bounds → Snapshot → List Event → Type 0
GoOn b s [] = Unit {0}
GoOn b s (e ∷ es) = IsNext b s e × GoOn b (after s e) es

-- the table after events, in order
abbrev pub after_all : Snapshot → List Event → Snapshot
after_all s [] = s
after_all s (e ∷ es) = after_all (after s e) es

-- the payload encodes a batch that goes on from the first snapshot to the second one
pub record GoesOn (v : Version) (b : Bounds) (s : Snapshot) (payload : List ℕ) (t : Snapshot) : Type 0 where
  pub events : List Event
  pub encodes : EncodesPayload v b events payload
  pub goes : GoOn b s events
  pub ends : t ≡ after_all s events

-- The payloads encode batches that go on from the first snapshot, one after another, and end in the second one.
abbrev pub Replays : Version → Bounds → Snapshot → List (List ℕ) → Snapshot → Type 0
Replays v b s [] t = t ≡ s
Replays v b s (p ∷ ps) u = (t : Snapshot) × GoesOn v b s p t × Replays v b t ps u

-- frames with these payloads are there, each at the gate after the one before
abbrev pub HasFrames : ℕ → List (List ℕ) → List ℕ → Type 0
HasFrames gate [] content = Unit {0}
HasFrames gate (p ∷ ps) content = IsFrame gate p content × HasFrames (gate_after gate p) ps content

-- frames are there up to this gate, and their payloads go on from the first snapshot to the second one
pub record ReplaysTo (v : Version) (b : Bounds) (from : ℕ) (s : Snapshot) (gate : ℕ) (t : Snapshot) (content : List ℕ) : Type 0 where
  pub payloads : List (List ℕ)
  pub frames : HasFrames from payloads content
  pub ends : last_gate from payloads ≡ gate
  pub replays : Replays v b s payloads t
