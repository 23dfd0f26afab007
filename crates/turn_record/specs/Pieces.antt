-- A snapshot that comes in pieces: what a reader was fed, and what it is to give.
use Rattle.std.specs.Prelude.{◌≡◌, ℕ, List, ◌++◌, Option, Some, None, IfSome}
use Rattle.turn_record.specs.declared.error.ReadError.{ReadError}
use Rattle.turn_record.specs.declared.snapshot_reader.SnapshotReader.{SnapshotReader}
use Rattle.turn_record.specs.declared.version.Version.{Version}
use Rattle.turn_record.specs.Places.{Place, IsWaiting, gives}
use Rattle.turn_record.specs.Reading.{Fails}
use Rattle.turn_record.specs.Snapshots.{snapshot_in}
use Rattle.turn_types.specs.declared.limits.Bounds.{Bounds}

-- What a reader is to give that was fed these bytes: whatever is still to come, what reading all of the bytes gives.
abbrev pub Expects : Version → Bounds → Option ReadError → Option Place → List ℕ → List ℕ → Type 0
Expects v b None place held fed = ((more : List ℕ) → snapshot_in v b (fed ++ more) ≡ gives v b place (held ++ more)) × IsWaiting v b place held
Expects v b (Some e) place held fed = (more : List ℕ) → Fails e (snapshot_in v b (fed ++ more))

-- a reader of a version's snapshots under the limits was fed these bytes
pub record WasFed {A : Type 0} (v : Version) (b : Bounds) (r : SnapshotReader A) (fed : List ℕ) : Type 0 where
  pub version : r.version ≡ v
  pub limits : r.limits ≡ b
  pub under : IfSome r.restored (λ p. p.0.bounds ≡ b)
  pub expects : Expects v b r.refused r.restored r.held.items fed

-- why a reader has refused
abbrev pub refusal : {A : Type 0} → SnapshotReader A → Option ReadError
refusal r = r.refused

-- the bytes that a reader holds of an item that isn't whole yet
abbrev pub held : {A : Type 0} → SnapshotReader A → List ℕ
held r = r.held.items
