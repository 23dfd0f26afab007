-- What is read of a store.
use Rattle.std.specs.Prelude.{◌≡◌, ◌+◌, ◌↔◌, ℕ, List, Bool, length, true}
use Rattle.turn_disk.specs.Prelude.{State}
use Rattle.turn_journal.specs.Frames.{HoldsFramesTo, last_gate}
use Rattle.turn_record.specs.Prelude.{EncodesSnapshot}
use Rattle.turn_record.specs.declared.version.Version.{Version}
use Rattle.turn_history.specs.Prelude.{History, table, Bounds}
use Rattle.turn_store.specs.Areas.{Form, AreaHolds, AreAreas, IsBelow, Yields}
use Rattle.turn_store.specs.Head.{IsHead}
use Rattle.turn_store.specs.Layout.{head_size}
use Rattle.turn_store.specs.Replay.{Snapshot, Replays}
use Rattle.turn_store.specs.State.{StoreState, RecoversToAt, Shows, form_of}
use Rattle.turn_store.specs.declared.heads.Head.{Head}

-- frames are there from the first gate up to the closed one, and their payloads go on from the first snapshot to the second
pub record LogIsRead (v : Version) (b : Bounds) (from : ℕ) (s : Snapshot) (gate limit frames : ℕ) (t : Snapshot) (content : List ℕ) : Type 0 where
  pub payloads : List (List ℕ)
  pub holds : HoldsFramesTo from payloads gate limit content
  pub replays : Replays v b s payloads t
  pub count : frames ≡ length payloads

-- an area with this head holds a snapshot and payloads, of which the table at the end is this one
pub record AreaIsRead (v : Version) (b : Bounds) (start size : ℕ) (head : Head) (end frames : ℕ) (t : Snapshot) (content : List ℕ) : Type 0 where
  pub snapshot : List ℕ
  pub first : Snapshot
  pub payloads : List (List ℕ)
  pub holds : head.is_open ≡ true → IsHead start head content → AreaHolds v start size head.generation snapshot payloads content
  pub encodes : EncodesSnapshot v b first.moment first.contents snapshot
  pub ends : last_gate (start + head_size + length snapshot) payloads ≡ start + end
  pub replays : Replays v b first payloads t
  pub count : frames ≡ length payloads

-- the active area was read, and the other one yields
pub record IsChosen (v : Version) (b : Bounds) (size start other generation end frames : ℕ) (is_below : Bool) (t : Snapshot) (content : List ℕ) : Type 0 where
  pub snapshot : List ℕ
  pub first : Snapshot
  pub payloads : List (List ℕ)
  pub places : AreAreas size start other
  pub area : AreaHolds v start size generation snapshot payloads content
  pub ends : last_gate (start + head_size + length snapshot) payloads ≡ start + end
  pub below : (is_below ≡ true) ↔ IsBelow other generation content
  pub yields : Yields other generation content
  pub encodes : EncodesSnapshot v b first.moment first.contents snapshot
  pub replays : Replays v b first payloads t
  pub count : frames ≡ length payloads

-- The store shows a snapshot and payloads, which encode a table and batches that go on from it, one after another, to the table
-- that was returned.
pub record IsOpened {D : Type 0} (store : StoreState D) (state : State) (t : Snapshot) : Type 0 where
  pub snapshot : List ℕ
  pub first : Snapshot
  pub payloads : List (List ℕ)
  pub shows : Shows store state snapshot payloads
  pub encodes : EncodesSnapshot store.version store.bounds first.moment first.contents snapshot
  pub replays : Replays store.version store.bounds first payloads t

-- The store was opened to a history at a clock: it recovers to it, and the table that was returned is the history's.
pub record OpensTo {D : Type 0} (form : Form) (h : History) (clock : ℕ) (store : StoreState D) (state : State) (t : Snapshot) : Type 0 where
  pub same_form : form_of store ≡ form
  pub recovers : RecoversToAt store state clock h
  pub table_is : t ≡ record { moment = clock; contents = table h clock }
